-- What is left, entry by entry: keys and IIDs stay, and no chain returns.
-- Assumes nothing.
use mathlib.Core.Path.{◌≡◌, refl, sym, ap, ◌∙◌}
use mathlib.Core.Bool.{Bool, true, false}
use mathlib.Core.Logic.{◌⊎◌, inl, inr}
use mathlib.Core.List.{List}
use mathlib.Core.Option.{Option, none}
use Prim.Native.Nat.{ℕ, suc, ◌+◌, ◌*◌, ◌≤◌, ◌<◌}
use native.Mathlib.Omega.{arith}
use native.Mathlib.Decide.{dec_le}
use lib.ListN.{length, get_or, get_or-eq_default}
use Rattle.reading.specs.Got.{Got, got, bad}
use Rattle.reading.proofs.Facts.{fact}
use Rattle.reading.proofs.Passes.{pass_true, pass_false}
use Rattle.head.specs.declared.Header.{Header}
use Rattle.head.specs.Annotation.{Annotation}
use Rattle.directory.specs.Directory.{Row, row, no_row, row_iid, row_key}
use Rattle.directory.proofs.DirectoryLaws.{rows_length}
use Rattle.descriptor.specs.Descriptor.{Descriptor}
use Rattle.typelib.specs.Entry.{Entry, entry, entry_key, entry_iid, entry_descriptor, no_entry, keys_in, descriptor_in}
use Rattle.typelib.specs.Across.{above, above_in}
use Rattle.typelib.specs.Typelib.{front, pool_of, context_of, read_front}
use Rattle.typelib.proofs.EntryLaws.{entry_with, entries_length, entries_at}
use Rattle.typelib.proofs.OwnLaws.{own_says}
use Rattle.typelib.proofs.WholeLaws.{above_own, own_entry}
use Rattle.rules.specs.Rules.{UniqueKeys, NoCycle}
use Rattle.rules.proofs.Whole.{FrontSays, front_Facts}
use Rattle.mend.specs.Cycle.{Returns}
use Rattle.mend.specs.Left.{own_read, left_of, readable, on_cycle, opened, left_at, left_in}
use Rattle.bridge.proofs.Spans.{length-span, span_at}
use Rattle.mend.proofs.Cycles.{returns_found, no_return}

-- ---- one entry

with_parts : (r : Row) (o : Option (Descriptor ℕ)) → (entry_key (entry_with r o) ≡ row_key r) × (entry_iid (entry_with r o) ≡ row_iid r) × (entry_descriptor (entry_with r o) ≡ o)
unfolding entry_with entry_key entry_iid entry_descriptor row_key row_iid
with_parts (row i k q) o = (refl, refl, refl)

opened_parts : (x : Entry ℕ) → (entry_key (opened x) ≡ entry_key x) × (entry_iid (opened x) ≡ entry_iid x) × (entry_descriptor (opened x) ≡ none)
unfolding opened entry_key entry_iid entry_descriptor
opened_parts (entry k i d) = (refl, refl, refl)

-- an entry is its parts
pub entry_is : (x : Entry ℕ) (r : Row) (q : ℕ) → entry_key x ≡ row_key r → entry_iid x ≡ row_iid r → entry_with (row (row_iid r) (row_key r) q) (entry_descriptor x) ≡ x
unfolding entry_with entry_key entry_iid entry_descriptor
entry_is (entry k i d) r q a b = (λ j. entry (sym a j) (sym b j) d)

module _ (es : List (Entry ℕ)) (k : ℕ) where
  left_on : on_cycle es k ≡ true → left_at es k ≡ opened (get_or es k no_entry)
  unfolding left_at
  left_on t = pass_true _ _ _ t refl

  pub left_off : on_cycle es k ≡ false → left_at es k ≡ get_or es k no_entry
  unfolding left_at
  left_off t = pass_false _ _ _ t refl

  pub on_or_off : (on_cycle es k ≡ true) ⊎ (on_cycle es k ≡ false)
  on_or_off = go (on_cycle es k)
    where
      go : (b : Bool) → (b ≡ true) ⊎ (b ≡ false)
      go true = inl refl
      go false = inr refl

  pub left_key : entry_key (left_at es k) ≡ entry_key (get_or es k no_entry)
  left_key = elim on_or_off [ inl t ↦ ap entry_key (left_on t) ∙ (opened_parts _).0 | inr t ↦ ap entry_key (left_off t) ]

  pub left_iid : entry_iid (left_at es k) ≡ entry_iid (get_or es k no_entry)
  left_iid = elim on_or_off [ inl t ↦ ap entry_iid (left_on t) ∙ (opened_parts _).1 | inr t ↦ ap entry_iid (left_off t) ]

  pub left_gone : on_cycle es k ≡ true → entry_descriptor (left_at es k) ≡ none
  left_gone t = ap entry_descriptor (left_on t) ∙ (opened_parts _).2

  pub left_none : entry_descriptor (get_or es k no_entry) ≡ none → entry_descriptor (left_at es k) ≡ none
  left_none e = elim on_or_off [ inl t ↦ left_gone t | inr t ↦ ap entry_descriptor (left_off t) ∙ e ]

-- ---- all of them

module _ (es : List (Entry ℕ)) where
  pub length_left : length (left_in es) ≡ length es
  unfolding left_in
  length_left = length-span (left_at es) (length es)

  pub left_at_lem : (k : ℕ) → k < length es → get_or (left_in es) k no_entry ≡ left_at es k
  unfolding left_in
  left_at_lem k l = span_at (left_at es) (length es) k no_entry l

  past : (k : ℕ) → length es ≤ k → above_in (left_in es) k ≡ 0
  unfolding above_in descriptor_in entry_descriptor no_entry above
  past k l = ap (λ (x : Entry ℕ). above (entry_descriptor x)) (get_or-eq_default (left_in es) no_entry (omega (arith, length_left)))

  above_gone : (k : ℕ) → k < length es → on_cycle es k ≡ true → above_in (left_in es) k ≡ 0
  unfolding above_in descriptor_in above
  above_gone k l t = ap (λ (x : Entry ℕ). above (entry_descriptor x)) (left_at_lem k l) ∙ ap above (left_gone es k t)

  above_same : (k : ℕ) → k < length es → on_cycle es k ≡ false → above_in (left_in es) k ≡ above_in es k
  unfolding above_in descriptor_in
  above_same k l t = ap (λ (x : Entry ℕ). above (entry_descriptor x)) (left_at_lem k l ∙ left_off es k t)

  module _ (parents : (j : ℕ) → j < length es → above_in es j ≤ length es) where
    cut : (i : ℕ) → Returns (above_in es) i → above_in (left_in es) i ≡ 0
    unfolding on_cycle
    cut i r = elim (dec_le (suc i) (length es)) [
      | yes l ↦ above_gone i l (returns_found (above_in es) (length es) i l parents r)
      | no f ↦ past i (omega arith)
    ]

    same : (i : ℕ) → (above_in (left_in es) i ≡ 0) ⊎ (above_in (left_in es) i ≡ above_in es i)
    same i = elim (dec_le (suc i) (length es)) [
      | yes l ↦ elim (on_or_off es i) [ inl t ↦ inl (above_gone i l t) | inr t ↦ inr (above_same i l t) ]
      | no f ↦ inl (past i (omega arith))
    ]

    pub none_returns : NoCycle (left_in es)
    none_returns = no_return (above_in es) (above_in (left_in es)) (length (left_in es)) cut same

    pub above_below : (i : ℕ) → above_in (left_in es) i ≤ length (left_in es)
    above_below i = elim (dec_le (suc i) (length es)) [
      | yes l ↦ elim (same i) [ inl z ↦ omega (arith, length_left) | inr q ↦ omega (arith, parents i l, length_left) ]
      | no f ↦ omega (arith, past i (omega arith))
    ]

  pub keys_stay : (k : ℕ) → k < length es → keys_in (left_in es) k ≡ keys_in es k
  unfolding keys_in
  keys_stay k l = ap entry_key (left_at_lem k l) ∙ left_key es k

  pub keys_left : UniqueKeys es → UniqueKeys (left_in es)
  unfolding keys_in
  keys_left u i j l m q =
      let n : j < length es = omega (arith, length_left) in
      u i j l n (sym (keys_stay i (omega arith)) ∙ q ∙ keys_stay j n)

-- ---- those of a file

module _ (s : List ℕ) (h : Header) (notes : List Annotation) (rows : List Row) (e : ℕ) (read : read_front s ≡ got (front h notes rows) e) where
  pub says : FrontSays s (front h notes rows) × (e ≡ length s)
  says = fact _ _ (front_Facts s) read

  pub count : length (readable h s rows) ≡ h.count
  unfolding readable
  count = entries_length rows _ ∙ rows_length s (pool_of h s) h.count h.directory says.0.3.1

  pub entry_at_lem : (k : ℕ) → k < h.count → get_or (readable h s rows) k no_entry ≡ entry_with (get_or rows k no_row) (left_of (own_read h s k))
  unfolding readable
  entry_at_lem k l =
      entries_at rows _ k (omega (arith, rows_length s (pool_of h s) h.count h.directory says.0.3.1))
      ∙ ap (entry_with (get_or rows k no_row)) (span_at (λ k. left_of (own_read h s k)) h.count k none l)

  pub key_at_lem : (k : ℕ) → k < h.count → entry_key (get_or (readable h s rows) k no_entry) ≡ row_key (get_or rows k no_row)
  key_at_lem k l = ap entry_key (entry_at_lem k l) ∙ (with_parts _ _).0

  pub iid_at_lem : (k : ℕ) → k < h.count → entry_iid (get_or (readable h s rows) k no_entry) ≡ row_iid (get_or rows k no_row)
  iid_at_lem k l = ap entry_iid (entry_at_lem k l) ∙ (with_parts _ _).1

  pub descriptor_at_lem : (k : ℕ) → k < h.count → descriptor_in (readable h s rows) k ≡ left_of (own_read h s k)
  unfolding descriptor_in
  descriptor_at_lem k l = ap entry_descriptor (entry_at_lem k l) ∙ (with_parts _ _).2

  pub above_at : (k : ℕ) → k < h.count → above_in (readable h s rows) k ≡ above (left_of (own_read h s k))
  unfolding above_in
  above_at k l = ap above (descriptor_at_lem k l)

  above_left : (k : ℕ) (g : Got (Option (Descriptor ℕ))) → own_read h s k ≡ g → above (left_of g) ≤ h.count
  unfolding left_of own_read context_of above
  above_left k (got o b) q =
      let w = (own_says (context_of h) s (pool_of h s) (h.directory + 28 * k) q).0 in
      rw (above_own (context_of h) s (pool_of h s) h.directory k o w) (own_entry (context_of h) s (pool_of h s) h.directory k h.count refl o w)
  above_left k (bad n p) q = omega arith

  pub parents : (j : ℕ) → j < length (readable h s rows) → above_in (readable h s rows) j ≤ length (readable h s rows)
  parents j l = let m : j < h.count = omega (arith, count) in rw (above_at j m, count) (above_left j (own_read h s j) refl)
