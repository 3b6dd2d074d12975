-- Rows noted one by one.
-- Assumes nothing.
use Rattle.std.specs.Prelude.{Some}
use mathlib.Core.Path.{◌≡◌, refl, sym, ap, ◌∙◌}
use mathlib.Core.List.{List, ◌++◌}
use mathlib.Core.Logic.{inl, inr}
use mathlib.Core.Option.{Option}
use Prim.Native.Nat.{ℕ, ◌+◌, ◌*◌, ◌≤◌, ◌<◌}
use native.Mathlib.Omega.{arith}
use lib.ListN.{length, get_or, take, set, length-set, length-append}
use lib.Seq.{get_or-set_same, get_or-set_other}
use Rattle.number.specs.Limits.{file_limit, row_limit}
use Rattle.number.proofs.Scans.{below}
use Rattle.key.specs.Key.{Key}
use Rattle.reader.specs.Values.{Descriptor, Entry, entry_key, entry_descriptor, no_entry}
use Rattle.meaning.specs.Normal.Size.{sum}
use Rattle.names.specs.Uses.{word_of, spelt}
use Rattle.meaning.specs.Stock.Uses.{own_words, key_words, entry_words, words_of, body_length}
use Rattle.meaning.proofs.Stock.Few.{few_uses}
use Rattle.places.specs.Noted.{start_use, body_use, body_size, Noted}
use Rattle.places.proofs.Once.{in_order}
use Rattle.rows.specs.Files.{Given}
use Rattle.gather.specs.declared.Passed.{Passed}
use Rattle.gather.specs.Words.{Means, PutWords}
use Rattle.gather.specs.Leading.{KeyLed, OwnLed, OwnStands, PutOwn, Leading, LedEntries, Answered}
use Rattle.gather.proofs.Words.{put_none, put_then, put_same}
use Rattle.gather.proofs.Keys.{key_few}
use Rattle.gather.proofs.Owns.{own_small}
use Rattle.gather.proofs.Entries.{entry_words_lem, words_more, sum_more, start_use_lem, body_use_lem, body_size_lem, sum_rest, take_whole}

-- a table with one place more that is told
told_more : (t : List ℕ) (g : ℕ → ℕ) (q v : ℕ) → q < length t → v ≡ g q → ((i : ℕ) → i < q → get_or t i 0 ≡ g i) → (i : ℕ) → i < q + 1 → get_or (set t q v) i 0 ≡ g i
told_more t g q v l e f i m = elim (below i q (omega arith)) [
  | inl z ↦ rw z (get_or-set_same t q v 0 l ∙ e)
  | inr z ↦ get_or-set_other t q i v 0 (λ y. omega arith) ∙ f i z
]

module _ (pool other names spaces bodies : List ℕ) (c : ℕ) where
  -- q of the entries us are noted: u uses, and `total` bytes with the whole directory
  pub record Done (us : List (Entry ℕ)) (t : List ℕ) (q u total : ℕ) (words starts before sizes : List ℕ) : Type 0 where
    pub next : u ≡ length (words_of (take q us))
    pub size : total + 28 * q ≡ 36 + 28 * c + sum body_length (take q us)
    pub put : PutWords (Means pool other) t words 0 (words_of (take q us))
    pub starting : (i : ℕ) → i < q → get_or starts i 0 ≡ start_use us i
    pub standing : (i : ℕ) → i < q → get_or before i 0 ≡ body_use us i
    pub taking : (i : ℕ) → i < q → get_or sizes i 0 ≡ body_size us i

  pub record Gone (t : List ℕ) (q u total : ℕ) (words starts before sizes : List ℕ) : Type 0 where
    pub few : q ≤ c
    pub rows : c ≤ row_limit
    pub small : total ≤ file_limit
    pub uses : 7 * u + 36 ≤ total
    pub long : length words ≡ length t
    pub starts_long : row_limit ≡ length starts
    pub left : (k : ℕ) → q ≤ k → get_or starts k 0 ≡ get_or names k 0
    pub before_long : row_limit ≡ length before
    pub sizes_long : row_limit ≡ length sizes
    pub each : (n : ℕ) (us : List (Entry ℕ)) → Leading pool other n names spaces bodies us c → Done us t q u total words starts before sizes

  pub Gone-start : (t before sizes : List ℕ) → LedEntries pool other names spaces bodies c → row_limit ≡ length names → row_limit ≡ length before → row_limit ≡ length sizes → Gone t 0 0 (36 + 28 * c) t names before sizes
  unfolding words_of sum
  Gone-start t before sizes h n b s = record {
    few = omega arith;
    rows = h.leading.few;
    small = omega (arith, h.leading.few);
    uses = omega arith;
    long = refl;
    starts_long = n;
    left = λ k m. refl;
    before_long = b;
    sizes_long = s;
    each = λ n us l. record { next = refl; size = omega arith; put = put_none (Means pool other) t 0; starting = λ i m. absurd (omega arith); standing = λ i m. absurd (omega arith); taking = λ i m. absurd (omega arith) };
  }

  module _ (t : List ℕ) (q u total : ℕ) (words starts before sizes : List ℕ) (g : Gone t q u total words starts before sizes) (l : q < c) (h : LedEntries pool other names spaces bodies c) where
    key_led : (n : ℕ) (us : List (Entry ℕ)) → Leading pool other n names spaces bodies us c → KeyLed pool other (get_or starts q 0) (get_or spaces q 0) (entry_key (get_or us q no_entry))
    key_led n us i = rw (g.left q (omega arith)) (i.keys q l)

    pub key_Given : Given (KeyLed pool other (get_or starts q 0) (get_or spaces q 0))
    key_Given = record { value = entry_key (get_or h.entries q no_entry); shown = key_led h.rows h.entries h.leading }

    pub own_given : (b : ℕ) → b ≡ get_or bodies q 0 → OwnStands pool other b
    own_given b z = record { rows = h.rows; own = entry_descriptor (get_or h.entries q no_entry); led = rw z (h.leading.owns q l) }

    module _ (e : ℕ) (words₁ : List ℕ) (key : (k : Key) → KeyLed pool other (get_or starts q 0) (get_or spaces q 0) k → (e ≡ u + length (key_words k)) × PutWords (Means pool other) words words₁ u (key_words k)) where
      pub key_small : e ≤ u + 2
      key_small = omega (arith, (key key_Given.value key_Given.shown).0, key_few key_Given.value)

      pub key_long : length words₁ ≡ length t
      key_long = (key key_Given.value key_Given.shown).1.long ∙ g.long

    module _ (e : ℕ) (x : Passed) (b : ℕ) (words₁ words₂ : List ℕ) (z : b ≡ get_or bodies q 0)
        (key : (k : Key) → KeyLed pool other (get_or starts q 0) (get_or spaces q 0) k → (e ≡ u + length (key_words k)) × PutWords (Means pool other) words words₁ u (key_words k))
        (own : (n : ℕ) (d : Option (Descriptor ℕ)) → OwnLed pool other n b d → PutOwn pool other words₁ words₂ e x d) where
      module _ (n : ℕ) (us : List (Entry ℕ)) (i : Leading pool other n names spaces bodies us c) where
        inside : q < length us
        inside = omega (arith, i.count)

        keyed : (e ≡ u + length (key_words (entry_key (get_or us q no_entry)))) × PutWords (Means pool other) words words₁ u (key_words (entry_key (get_or us q no_entry)))
        keyed = key (entry_key (get_or us q no_entry)) (key_led n us i)

        owned : PutOwn pool other words₁ words₂ e x (entry_descriptor (get_or us q no_entry))
        owned = own n (entry_descriptor (get_or us q no_entry)) (rw z (i.owns q l))

        pub size_small : x.size ≤ file_limit
        size_small = omega (arith, owned.size, own_small pool other n b (entry_descriptor (get_or us q no_entry)) i.small i.other_small (rw z (i.owns q l)))

        pub Done-next : Done us t (q + 1) x.next (total + x.size) words₂ (set starts q u) (set before q e) (set sizes q x.size)
        Done-next =
            let d = g.each n us i in
            let k = entry_key (get_or us q no_entry) in
            let o = entry_descriptor (get_or us q no_entry) in
            let m = words_more us q inside in
            let w = entry_words_lem (get_or us q no_entry) in
            let row : PutWords (Means pool other) words words₂ u (entry_words (get_or us q no_entry)) =
            put_same (Means pool other) words words₂ u (key_words k ++ own_words o) (entry_words (get_or us q no_entry)) w (put_then (Means pool other) words words₁ words₂ u e (key_words k) (own_words o) keyed.0 keyed.1 owned.words) in
            record {
              next = omega (arith, owned.next, keyed.0, d.next, ap length m, ap length w, length-append (words_of (take q us)) (entry_words (get_or us q no_entry)), length-append (key_words k) (own_words o));
              size = omega (arith, owned.size, d.size, sum_more us q inside);
              put = put_same (Means pool other) t words₂ 0 (words_of (take q us) ++ entry_words (get_or us q no_entry)) (words_of (take (q + 1) us)) (sym m)
                  (put_then (Means pool other) t words words₂ 0 u (words_of (take q us)) (entry_words (get_or us q no_entry)) (omega (arith, d.next)) d.put row);
              starting = told_more starts (start_use us) q u (omega (arith, g.starts_long, g.rows)) (d.next ∙ sym (start_use_lem us q inside)) d.starting;
              standing = told_more before (body_use us) q e (omega (arith, g.before_long, g.rows)) (omega (arith, keyed.0, d.next, body_use_lem us q inside)) d.standing;
              taking = told_more sizes (body_size us) q x.size (omega (arith, g.sizes_long, g.rows)) (owned.size ∙ sym (body_size_lem us q inside)) d.taking;
            }

        pub uses_next : 7 * x.next + 36 ≤ total + x.size
        uses_next = omega (arith, Done-next.next, Done-next.size, few_uses (take (q + 1) us))

        pub over : file_limit < total + x.size → file_limit < 36 + sum body_length us
        over m = omega (arith, Done-next.size, i.count, sum_rest us (q + 1) (omega (arith, i.count)))

      pub Gone-next : total + x.size ≤ file_limit → Gone t (q + 1) x.next (total + x.size) words₂ (set starts q u) (set before q e) (set sizes q x.size)
      Gone-next m = record {
        few = omega arith;
        rows = g.rows;
        small = m;
        uses = uses_next h.rows h.entries h.leading;
        long = (owned h.rows h.entries h.leading).words.long ∙ (keyed h.rows h.entries h.leading).1.long ∙ g.long;
        starts_long = simp length-set g.starts_long;
        left = λ k m. get_or-set_other starts q k u 0 (λ y. omega arith) ∙ g.left k (omega arith);
        before_long = simp length-set g.before_long;
        sizes_long = simp length-set g.sizes_long;
        each = λ n us i. Done-next n us i;
      }

  module _ (t : List ℕ) (q u total : ℕ) (words starts before sizes : List ℕ) (g : Gone t q u total words starts before sizes) (l : c ≤ q) where
    pub gone_done : (n : ℕ) (us : List (Entry ℕ)) → Leading pool other n names spaces bodies us c → Answered us pool other words starts before sizes c (Some u)
    unfolding spelt
    gone_done n us i =
        let d = g.each n us i in
        let w : words_of (take q us) ≡ words_of us = ap words_of (take_whole us q (omega (arith, i.count))) in
        let z : u ≡ length (words_of us) = d.next ∙ ap length w in
        let p = put_same (Means pool other) t words 0 (words_of (take q us)) (words_of us) w d.put in
        let m : Noted us pool other words before sizes u c = record {
          uses = z;
          entries = i.count;
          spelling = λ k h. let y : k ≡ 0 + k = omega arith in ap (λ (j : ℕ). word_of pool other (get_or words j 0)) y ∙ (p.each k (omega arith)).word;
          standing = λ k h. d.standing k (omega arith);
          taking = λ k h. d.taking k (omega arith);
        } in
        record { noted = m; spelt = record { many = omega (arith, g.uses, g.small); each = λ k h. let y : 0 + k ≡ k = omega arith in (rw y at (p.each k (omega arith)).led) }; order = in_order us pool other words before sizes u c m g.rows; starting = λ k h. d.starting k (omega arith) }
