-- A directory row by row, and each row by its tables.
-- Assumes nothing.
use mathlib.Core.Path.{◌≡◌, refl, sym, ap, ◌∙◌}
use mathlib.Core.Bool.{Bool}
use mathlib.Core.List.{List, [], ◌∷◌, ◌++◌, append_assoc, append-nil}
use Prim.Native.Nat.{ℕ, zero, suc, ◌+◌, ◌*◌, ◌^◌, ◌≤◌, ◌<◌}
use native.Mathlib.Omega.{arith}
use lib.ListN.{length, get_or, length-append}
use lib.Seq.{sets, length-sets}
use Rattle.number.proofs.Choice.{is_eq, no_eq}
use Rattle.decimal.proofs.Stores.{chain}
use Rattle.key.specs.Key.{key}
use Rattle.reader.specs.Values.{Entry, entry, entry_key, entry_iid, entry_descriptor, no_entry}
use Rattle.meaning.specs.Normal.BigEndian.{bytes_of}
use Rattle.meaning.specs.Normal.Normal.{space_pointer, own_pointer}
use Rattle.meaning.proofs.Normal.Numbers.{bytes_add}
use Rattle.meaning.proofs.Normal.Lengths.{length_bytes}
use Rattle.iids.specs.Cells.{cell}
use Rattle.iids.specs.Numbers.{wide, number_in}
use Rattle.meaning.specs.Stock.Uses.{space_words, key_words, entry_words, words_of, at_first}
use Rattle.meaning.specs.Stock.Pool.{entry_pieces, pool_size}
use Rattle.meaning.specs.Stock.Form.{entry_with, directory_with}
use Rattle.places.specs.Noted.{start_use, body_use}
use Rattle.writing.proofs.Lent.{rest, back, lent_after}
use Rattle.pooling.specs.Tabled.{own_of, own_place, own_at}
use Rattle.filing.specs.Listed.{space_of, row_of, Listed, ListFits}

-- ---- fields

pub row_stored : (high low name space own : ℕ) (l l₁ l₂ l₃ l₄ l₅ : List ℕ) → low < 256 ^ 8 → l₁ ≡ sets l 0 (bytes_of 8 high) → l₂ ≡ sets l₁ 8 (bytes_of 8 low) → l₃ ≡ sets l₂ 16 (bytes_of 4 name) → l₄ ≡ sets l₃ 20 (bytes_of 4 space) → l₅ ≡ sets l₄ 24 (bytes_of 4 own)
    → l₅ ≡ sets l 0 (row_of (wide high low) name space own)
unfolding row_of wide
row_stored high low name space own l l₁ l₂ l₃ l₄ l₅ s e f g h i =
    let u : ℕ = high * 256 ^ 8 + low in
    let a : List ℕ = bytes_of 16 u in
    let b : List ℕ = a ++ bytes_of 4 name in
    let m : List ℕ = b ++ bytes_of 4 space in
    let la : length a ≡ 16 = length_bytes 16 u in
    let lb : length b ≡ 20 = length-append a (bytes_of 4 name) ∙ omega (arith, length_bytes 4 name, la) in
    let lm : length m ≡ 24 = length-append b (bytes_of 4 space) ∙ omega (arith, length_bytes 4 space, lb) in
    let two : l₂ ≡ sets l 0 a = chain l (bytes_of 8 high) (bytes_of 8 low) 0 8 e (omega (arith, length_bytes 8 high)) f ∙ ap (sets l 0) (sym (bytes_add 8 8 high low s)) in
    let three : l₃ ≡ sets l 0 b = chain l a (bytes_of 4 name) 0 16 two (omega (arith, la)) g in
    let four : l₄ ≡ sets l 0 m = chain l b (bytes_of 4 space) 0 20 three (omega (arith, lb)) h in
    chain l m (bytes_of 4 own) 0 24 four (omega (arith, lm)) i

pub length_row : (iid name space own : ℕ) → length (row_of iid name space own) ≡ 28
unfolding row_of
length_row iid name space own = simp length-append (omega (arith, length_bytes 16 iid, length_bytes 4 name, length_bytes 4 space, length_bytes 4 own))

-- ---- rows

module _ (at : ℕ → ℕ) (kept : ℕ → Bool) where
  space_is : (u : ℕ) (v w : List ℕ) → space_pointer (at (u + 1)) v ≡ space_of at u (u + length (key_words (key v w)))
  unfolding space_of space_pointer key_words space_words
  space_is u [] w = is_eq (u + 1) (u + 1) 0 (at (u + 1)) refl refl
  space_is u (b ∷ v) w = no_eq (u + 2) (u + 1) 0 (at (u + 1)) (λ e. omega arith) refl

  -- row i, of a directory whose first entry has use u and lies at the pool pointer p
  unfoldable pub row_at : ℕ → ℕ → List (Entry ℕ) → ℕ → List ℕ
  row_at u p us i = row_of (entry_iid (get_or us i no_entry)) (at (u + start_use us i)) (space_of at (u + start_use us i) (u + body_use us i)) (own_pointer (own_place kept u p us i) (own_of us i))

  -- the rows from q on
  unfoldable pub rows_from : ℕ → ℕ → List (Entry ℕ) → ℕ → List ℕ
  rows_from u p us zero = directory_with at kept u p us
  rows_from u p [] (suc q) = []
  rows_from u p (e ∷ us) (suc q) = rows_from (u + length (entry_words e)) (p + pool_size kept u (entry_pieces e)) us q

  first_row : (u p : ℕ) (e : Entry ℕ) (us : List (Entry ℕ)) → entry_with at kept u p e ≡ row_at u p (e ∷ us) 0
  unfolding entry_with row_at row_of start_use body_use own_place own_of entry_iid entry_key entry_descriptor
  first_row u p (entry (key v w) i d) us =
      let z : u ≡ u + 0 = omega arith in
      let n = length (key_words (key v w)) in
      let own = bytes_of 4 (own_pointer (own_place kept u p (entry (key v w) i d ∷ us) 0) d) in
      (λ j. bytes_of 16 i ++ bytes_of 4 (at (z j)) ++ bytes_of 4 ((space_is u v w ∙ ap (λ (k : ℕ). space_of at k (u + n)) z) j) ++ own)

  next_row : (u p : ℕ) (e : Entry ℕ) (us : List (Entry ℕ)) (i : ℕ) → row_at (u + length (entry_words e)) (p + pool_size kept u (entry_pieces e)) us i ≡ row_at u p (e ∷ us) (suc i)
  unfolding row_at start_use body_use own_place own_of
  next_row u p e us i =
      let n = length (entry_words e) in
      let a : u + n + start_use us i ≡ u + (n + start_use us i) = omega arith in
      let b : u + n + body_use us i ≡ u + (n + body_use us i) = omega arith in
      let own = own_pointer (own_place kept (u + n) (p + pool_size kept u (entry_pieces e)) us i) (own_of us i) in
      (λ j. row_of (entry_iid (get_or us i no_entry)) (at (a j)) (space_of at (a j) (b j)) own)

  pub rows_more : (u p : ℕ) (us : List (Entry ℕ)) (q : ℕ) → q < length us → rows_from u p us q ≡ row_at u p us q ++ rows_from u p us (suc q)
  unfolding rows_from directory_with
  rows_more u p [] q l = absurd (omega arith)
  rows_more u p (e ∷ us) zero l = ap (λ (x : List ℕ). x ++ directory_with at kept (u + length (entry_words e)) (p + pool_size kept u (entry_pieces e)) us) (first_row u p e us)
  rows_more u p (e ∷ us) (suc q) l =
      let v = u + length (entry_words e) in
      let o = p + pool_size kept u (entry_pieces e) in
      rows_more v o us q (omega arith) ∙ ap (λ (x : List ℕ). x ++ rows_from v o us (suc q)) (next_row u p e us q)

  pub rows_end : (u p : ℕ) (us : List (Entry ℕ)) (q : ℕ) → q ≡ length us → rows_from u p us q ≡ []
  unfolding rows_from directory_with
  rows_end u p [] zero h = refl
  rows_end u p [] (suc q) h = refl
  rows_end u p (e ∷ us) zero h = absurd (omega arith)
  rows_end u p (e ∷ us) (suc q) h = rows_end (u + length (entry_words e)) (p + pool_size kept u (entry_pieces e)) us q (omega arith)

-- ---- what stands in the tables

pub row_low : {high low t starts befores owns : List ℕ} {c : ℕ} {us : List (Entry ℕ)} → Listed high low t starts befores owns c us → (q : ℕ) → q < c → (get_or t q 0 < 2048) × (get_or starts q 0 + 2 ≤ 152000)
unfolding cell
row_low h q l = (h.row q l, omega (arith, h.uses q l, h.starting q l))

iid_is : (high low t : List ℕ) (q r : ℕ) → r ≡ get_or t q 0 → wide (get_or high r 0) (get_or low r 0) ≡ number_in high low (cell t q)
unfolding cell number_in
iid_is high low t q r a = λ i. wide (get_or high (a i) 0) (get_or low (a i) 0)

-- ---- the loop

module _ (high low t starts befores owns : List ℕ) (at : ℕ → ℕ) (c : ℕ) where
  abbrev Shown : List (Entry ℕ) → Type 0
  Shown = Listed high low t starts befores owns c

  -- of entries us the first q rows stand
  pub record Standing (us : List (Entry ℕ)) (q : ℕ) (before now : List ℕ) : Type 0 where
    pub done : List ℕ
    pub count : length done ≡ 28 * q
    pub bytes : directory_with at (at_first (words_of us)) 0 1 us ≡ done ++ rows_from at (at_first (words_of us)) 0 1 us q
    pub stored : now ≡ sets before 0 done

  pub record Filing (q : ℕ) (before now : List ℕ) : Type 0 where
    pub few : q ≤ c
    pub same : length now ≡ length before
    pub put : (us : List (Entry ℕ)) → Shown us → Standing us q before now

  pub file_start : (l : List ℕ) → Filing 0 l l
  unfolding rows_from
  file_start l = record { few = omega arith; same = refl; put = λ us h. record { done = []; count = refl; bytes = refl; stored = refl } }

  module _ (q : ℕ) (l : q < c) (r u e : ℕ) (a : r ≡ get_or t q 0) (b : u ≡ get_or starts q 0) (d : e ≡ get_or befores q 0) where
    module _ (space : ℕ) (s : space ≡ space_of at u e) where
      row_is : (us : List (Entry ℕ)) → Shown us → row_of (wide (get_or high r 0) (get_or low r 0)) (at u) space (get_or owns q 0) ≡ row_at at (at_first (words_of us)) 0 1 us q
      unfolding row_at own_at
      row_is us h =
          let x : u ≡ 0 + start_use us q = omega (arith, h.starting q l) in
          let y : e ≡ 0 + body_use us q = omega (arith, h.standing q l) in
          let i : wide (get_or high r 0) (get_or low r 0) ≡ entry_iid (get_or us q no_entry) = iid_is high low t q r a ∙ h.named q l in
          let z : space ≡ space_of at (0 + start_use us q) (0 + body_use us q) = s ∙ (λ j. space_of at (x j) (y j)) in
          (λ j. row_of (i j) (at (x j)) (z j) (h.pointed q l j))

      pub file_next : (before now ys : List ℕ) → ListFits high low t starts befores owns c (length before) → Filing q before now → ys ≡ sets (rest now (28 * q)) 0 (row_of (wide (get_or high r 0) (get_or low r 0)) (at u) space (get_or owns q 0))
          → Filing (q + 1) before (back now (28 * q) ys)
      file_next before now ys f g k =
          let row = row_of (wide (get_or high r 0) (get_or low r 0)) (at u) space (get_or owns q 0) in
          let p : (us : List (Entry ℕ)) → Shown us → Standing us (q + 1) before (back now (28 * q) ys) = λ us h.
          let w = g.put us h in
          let kept = at_first (words_of us) in
          let z : suc q ≡ q + 1 = omega arith in
          let m : rows_from at kept 0 1 us q ≡ row ++ rows_from at kept 0 1 us (q + 1) = rows_more at kept 0 1 us q (omega (arith, h.entries)) ∙ (λ j. sym (row_is us h) j ++ rows_from at kept 0 1 us (z j)) in
          record {
            done = w.done ++ row;
            count = omega (arith, length-append w.done row, w.count, length_row (wide (get_or high r 0) (get_or low r 0)) (at u) space (get_or owns q 0));
            bytes = w.bytes ∙ ap (λ (x : List ℕ). w.done ++ x) m ∙ sym (append_assoc w.done row (rows_from at kept 0 1 us (q + 1)));
            stored = lent_after before now ys w.done row (28 * q) w.stored (sym w.count) k;
          } in
          record { few = omega arith; same = let w = p f.value f.listed in ap length w.stored ∙ length-sets before 0 w.done; put = p }

  pub file_done : (q : ℕ) (before now : List ℕ) → Filing q before now → c ≤ q → (us : List (Entry ℕ)) → Shown us → now ≡ sets before 0 (directory_with at (at_first (words_of us)) 0 1 us)
  file_done q before now g l us h =
      let w = g.put us h in
      let e = rows_end at (at_first (words_of us)) 0 1 us q (omega (arith, g.few, h.entries)) in
      w.stored ∙ ap (sets before 0) (sym (w.bytes ∙ ap (λ (x : List ℕ). w.done ++ x) e ∙ append-nil w.done))
