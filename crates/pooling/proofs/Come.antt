-- How far into a pool one has come, and that the words which are stored there are those of the uses whose place is reached.
-- Assumes nothing.
use mathlib.Core.Path.{◌≡◌, refl, sym, ap, ◌∙◌}
use mathlib.Core.Bool.{Bool, true, false}
use mathlib.Core.List.{List, [], ◌∷◌, ◌++◌, map, append_assoc, append-nil}
use mathlib.Core.Option.{Option, none, some}
use Prim.Native.Nat.{ℕ, suc, ◌+◌, ◌≤◌, ◌<◌}
use native.Mathlib.Omega.{arith}
use lib.ListN.{length, get_or, length-append}
use lib.Seq.{get_or-append_seam}
use Rattle.number.specs.Choice.{when◌then◌else◌, ◌=?◌}
use Rattle.number.proofs.Choice.{is_eq, no_eq, yes_eq, not_eq}
use Rattle.number.proofs.Scans.{clash}
use Rattle.reader.specs.Values.{Descriptor, Entry}
use Rattle.meaning.specs.Normal.Size.{name_size, descriptor_size}
use Rattle.meaning.specs.Normal.Record.{name_bytes}
use Rattle.meaning.specs.Stock.Uses.{words_of, at_first, kept_size, own_body}
use Rattle.meaning.specs.Stock.Pool.{Piece, word, body, pieces_of, words_in, pool_size, offset, once_at}
use Rattle.meaning.specs.Stock.Form.{descriptor_with, kept_bytes, pool_with}
use Rattle.meaning.proofs.Stock.Pools.{words_append, words_pieces, size_append}
use Rattle.meaning.proofs.Stock.Lengths.{length_descriptor}
use Rattle.places.proofs.Once.{stored_here}
use Rattle.pieces.specs.Uses.{reached, uses_with}
use Rattle.pooling.specs.Tabled.{own_with}

-- ---- where a word lies, of which the pieces before it are known

offset_seam : {R : Type 0} (kept : ℕ → Bool) (ps : List (Piece R)) (x : List ℕ) (qs : List (Piece R)) (u q : ℕ) → offset kept u q (ps ++ (word x ∷ qs)) (u + length (words_in ps)) ≡ q + pool_size kept u ps
unfolding offset pool_size words_in
offset_seam kept [] x qs u q = let z : u + 0 ≡ u = omega arith in sym (is_eq (u + 0) u q (offset kept (u + 1) (q + kept_size kept u x) qs (u + 0)) z (omega arith))
offset_seam kept (word w ∷ ps) x qs u q =
    let k = u + suc (length (words_in ps)) in
    let z : u + 1 + length (words_in ps) ≡ k = omega arith in
    let more : ℕ → ℕ = offset kept (u + 1) (q + kept_size kept u w) (ps ++ (word x ∷ qs)) in
    sym (no_eq k u q (more k) (λ e. omega arith) refl) ∙ ap more (sym z) ∙ offset_seam kept ps x qs (u + 1) (q + kept_size kept u w) ∙ omega arith
offset_seam kept (body d ∷ ps) x qs u q = offset_seam kept ps x qs u (q + descriptor_size d) ∙ omega arith

-- ---- the pieces of an option

unfoldable pub own_piece : {R : Type 0} → Option (Descriptor R) → List (Piece R)
own_piece none = []
own_piece (some d) = body d ∷ []

pub own_words_lem : {R : Type 0} (d : Option (Descriptor R)) → words_in (own_piece d) ≡ []
unfolding own_piece words_in
own_words_lem none = refl
own_words_lem (some d) = refl

pub own_size_lem : {R : Type 0} (kept : ℕ → Bool) (u : ℕ) (d : Option (Descriptor R)) → pool_size kept u (own_piece d) ≡ own_body d
unfolding own_piece pool_size own_body
own_size_lem kept u none = refl
own_size_lem kept u (some d) = omega arith

pub own_pool : {R : Type 0} (f : R → ℕ) (at : ℕ → ℕ) (kept : ℕ → Bool) (u : ℕ) (d : Option (Descriptor R)) → pool_with f at kept u (own_piece d) ≡ own_with f at u d
unfolding own_piece pool_with own_with
own_pool f at kept u none = refl
own_pool f at kept u (some d) = append-nil (descriptor_with f at u d)

pub length_own : {R : Type 0} (f : R → ℕ) (at : ℕ → ℕ) (u : ℕ) (d : Option (Descriptor R)) → length (own_with f at u d) ≡ own_body d
unfolding own_with own_body
length_own f at u none = refl
length_own f at u (some d) = length_descriptor f at u d

-- ---- pieces are behind, `left` is to come: use u is next, and w bytes are behind

module _ (us : List (Entry ℕ)) where
  abbrev kept : ℕ → Bool
  kept = at_first (words_of us)

  pub record Come (u w : ℕ) (left : List (Piece ℕ)) : Type 0 where
    pub behind : List (Piece ℕ)
    pub split : pieces_of us ≡ behind ++ left
    pub uses : u ≡ length (words_in behind)
    pub size : w ≡ pool_size kept 0 behind

  pub Come-start : Come 0 0 (pieces_of us)
  unfolding words_in pool_size
  Come-start = record { behind = []; split = refl; uses = refl; size = refl }

  pub Come-at : {u w v x : ℕ} {left : List (Piece ℕ)} → u ≡ v → w ≡ x → Come u w left → Come v x left
  Come-at e g a = record { behind = a.behind; split = a.split; uses = sym e ∙ a.uses; size = sym g ∙ a.size }

  module _ {u w : ℕ} where
    -- some pieces more
    pub Come-more : (ps left : List (Piece ℕ)) → Come u w (ps ++ left) → Come (u + length (words_in ps)) (w + pool_size kept u ps) left
    Come-more ps left a = record {
      behind = a.behind ++ ps;
      split = a.split ∙ sym (append_assoc a.behind ps left);
      uses = omega (arith, a.uses, length-append (words_in a.behind) (words_in ps), ap length (words_append a.behind ps));
      size =
          let z : u ≡ 0 + length (words_in a.behind) = omega (arith, a.uses) in
          omega (arith, a.size, size_append kept 0 a.behind ps, ap (λ (k : ℕ). pool_size kept k ps) z);
    }

    pub Come-total : (left : List (Piece ℕ)) → Come u w left → w + pool_size kept u left ≡ pool_size kept 0 (pieces_of us)
    Come-total left a =
        let z : u ≡ 0 + length (words_in a.behind) = omega (arith, a.uses) in
        omega (arith, a.size, ap (pool_size kept 0) a.split, size_append kept 0 a.behind left, ap (λ (k : ℕ). pool_size kept k left) z)

    pub Come-room : (ps left : List (Piece ℕ)) → Come u w (ps ++ left) → w + pool_size kept u ps ≤ pool_size kept 0 (pieces_of us)
    Come-room ps left a = omega (arith, Come-total (ps ++ left) a, size_append kept u ps left)

    pub Come-uses : (left : List (Piece ℕ)) → Come u w left → u + length (words_in left) ≡ length (words_of us)
    Come-uses left a =
        omega (arith, a.uses, ap length (words_pieces us), ap (λ (ps : List (Piece ℕ)). length (words_in ps)) a.split, ap length (words_append a.behind left), length-append (words_in a.behind) (words_in left))

    module _ (x : List ℕ) (left : List (Piece ℕ)) (a : Come u w (word x ∷ left)) where
      come_low : u < length (words_of us)
      unfolding words_in
      come_low = omega (arith, Come-uses (word x ∷ left) a)

      come_word : get_or (words_of us) u [] ≡ x
      unfolding words_in
      come_word =
          let e : words_of us ≡ words_in a.behind ++ (x ∷ words_in left) = sym (words_pieces us) ∙ ap words_in a.split ∙ words_append a.behind (word x ∷ left) in
          rw (e, a.uses) (get_or-append_seam (words_in a.behind) x (words_in left) [])

      come_offset : offset kept 0 0 (pieces_of us) u ≡ w
      come_offset =
          let z : u ≡ 0 + length (words_in a.behind) = omega (arith, a.uses) in
          rw (a.split, z) (offset_seam kept a.behind x left 0 0 ∙ omega (arith, a.size))

      -- the word is stored exactly when the place of its use is reached
      come_reached : (at : ℕ → ℕ) → at u ≡ once_at (pieces_of us) u → reached at (1 + w) u ≡ kept u
      unfolding reached
      come_reached at h = same (kept u) refl
        where
          same : (t : Bool) → kept u ≡ t → (at u =? 1 + w) ≡ kept u
          same true e = yes_eq (at u) (1 + w) (h ∙ (stored_here us u come_low).1 e ∙ ap (λ (k : ℕ). 1 + k) come_offset) ∙ sym e
          same false e = not_eq (at u) (1 + w) (λ g. clash (kept u) ((stored_here us u come_low).0 (sym h ∙ g ∙ ap (λ (k : ℕ). 1 + k) (sym come_offset))) e) ∙ sym e

  -- the words of these uses, by their places and as the pool has them
  module _ (f at : ℕ → ℕ) (spell : ℕ → List ℕ) (p : (k : ℕ) → k < length (words_of us) → at k ≡ once_at (pieces_of us) k) (s : (k : ℕ) → k < length (words_of us) → spell k ≡ get_or (words_of us) k []) where
    pub Come-stores : (ws : List (List ℕ)) (left : List (Piece ℕ)) (u w : ℕ) → Come u w (map word ws ++ left) → uses_with at spell (length ws) u (1 + w) ≡ pool_with f at kept u (map word ws)
    unfolding uses_with pool_with kept_bytes kept_size words_in pool_size
    Come-stores [] left u w a = refl
    Come-stores (x ∷ ws) left u w a =
        let more = map word ws ++ left in
        let l = come_low x more a in
        let e = come_reached x more a at (p u l) in
        let y = s u l ∙ come_word x more a in
        let b : kept_bytes (reached at (1 + w)) u (spell u) ≡ kept_bytes kept u x = λ i. when e i then name_bytes (y i) else [] in
        let n : kept_size (reached at (1 + w)) u (spell u) ≡ kept_size kept u x = λ i. when e i then name_size (y i) else 0 in
        let c : Come (u + 1) (w + kept_size kept u x) more = Come-at (omega arith) (omega arith) (Come-more (word x ∷ []) more a) in
        let z : 1 + w + kept_size (reached at (1 + w)) u (spell u) ≡ 1 + (w + kept_size kept u x) = omega (arith, n) in
        (λ i. b i ++ uses_with at spell (length ws) (u + 1) (z i)) ∙ ap (λ (t : List ℕ). kept_bytes kept u x ++ t) (Come-stores ws left (u + 1) (w + kept_size kept u x) c)
