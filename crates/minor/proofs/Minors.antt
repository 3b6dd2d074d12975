-- The minor of a view: which of its descriptors have one of the tags 23 to 25.
-- Assumes nothing.
use mathlib.Core.Path.{◌≡◌, refl, sym, ap, ◌∙◌}
use mathlib.Core.Bool.{Bool, true, false}
use mathlib.Core.List.{List}
use mathlib.Core.Option.{Option, none}
use Prim.Native.Nat.{ℕ, suc, ◌+◌, ◌-◌, ◌≤◌, ◌<◌}
use native.Mathlib.Decide.{dec_le}
use native.Mathlib.Omega.{arith}
use lib.ListN.{length, get_or}
use Rattle.reader.specs.declared.Layout.{Layout}
use Rattle.reader.specs.Values.{Descriptor, Entry, entry_descriptor, no_entry, descriptor_in}
use Rattle.reader.specs.Records.{ShowsDescriptor}
use Rattle.reader.specs.Rules.{EntryRule}
use Rattle.reader.specs.Layout.{Stands, Tells}
use Rattle.meaning.proofs.Alls.{All-at}
use Rattle.meaning.specs.Normal.Minor.{new_descriptor, new_own, new_entry, minor_of}
use Rattle.meaning.proofs.Normal.Anys.{All-In, any_In, any_no}
use Rattle.meaning.proofs.Normal.Minors.{minor_new, minor_old, old_entry}
use Rattle.meaning.proofs.Normal.Mapped.{own_new}
use Rattle.iids.specs.Cells.{cell}
use Rattle.rows.specs.Rows.{reference_in}
use Rattle.rows.specs.Files.{Holds, Pair, HoldBoth, Gives}
use Rattle.bridge.proofs.Spans.{In-span, span-In}
use Rattle.gather.specs.View.{row_own, entry_of, view_entry, view_entries}
use Rattle.minor.proofs.Owns.{Resolved}
use Rattle.minor.proofs.Rows.{own_none, own_first, own_second}

-- ---- an entry of one file

pub none_new : {d : Option (Descriptor ℕ)} → d ≡ none → false ≡ new_own d
unfolding new_own
none_new e = sym (ap new_own e)

module _ (pool : List ℕ) (at i : ℕ) (es : List (Entry ℕ)) (r : Resolved pool at i es) where
  pub resolved_shown : Stands (ShowsDescriptor pool (at - 1))
  resolved_shown = record { value = r.own; end = r.end; shown = r.shown }

  pub resolved_new : {z : Bool} → Tells (ShowsDescriptor pool (at - 1)) new_descriptor z → z ≡ new_own (descriptor_in es i)
  unfolding new_own
  resolved_new t = t.each r.own r.end r.shown ∙ sym (ap new_own r.same)

module _ (s pool : List ℕ) (l : Layout) (i : ℕ) (b : i < l.count) (es : List (Entry ℕ)) (h : Holds s pool l es) where
  -- a file with an entry has a minor
  pub minor_in : 17 < length s
  minor_in = omega (arith, h.laid.inside, h.laid.pool_inside)

  -- one of an older minor has none of the tags
  pub older_new : get_or s 17 0 < 2 → false ≡ new_own (descriptor_in es i)
  unfolding new_entry descriptor_in
  older_new o =
      let a = h.laid in
      sym (old_entry a.minor l.count (omega (arith, a.minor_at)) (get_or es i no_entry) (All-at (EntryRule a.minor l.count) es no_entry a.ruled.each i (omega (arith, a.count))))

-- ---- rows

module _ (s pool : List ℕ) (l : Layout) (s2 pool2 : List ℕ) (l2 : Layout) where
  abbrev Both : Pair → Type 0
  Both = HoldBoth s pool l s2 pool2 l2

  module _ (t : ℕ) where
    pub new_none : t ≡ 0 → Gives Both (λ x. new_own (row_own x t)) false
    new_none z = record { each = λ x h. none_new (own_none s pool l s2 pool2 l2 x h t z) }

    module _ (i : ℕ) (e : t ≡ suc i) where
      pub new_first : i < l.count → (z : Bool) → Gives (Holds s pool l) (λ es. new_own (descriptor_in es i)) z → Gives Both (λ x. new_own (row_own x t)) z
      new_first b z g = record { each = λ x h. g.each x.first h.first ∙ sym (ap new_own (own_first s pool l s2 pool2 l2 x h t i e b) ∙ own_new (reference_in (length x.first) i) (descriptor_in x.first i)) }

      pub new_second : l.count ≤ i → (z : Bool) → Gives (Holds s2 pool2 l2) (λ es. new_own (descriptor_in es (i - l.count))) z → Gives Both (λ x. new_own (row_own x t)) z
      new_second b z g = record { each = λ x h. g.each x.second h.second ∙ sym (ap new_own (own_second s pool l s2 pool2 l2 x h t i e b) ∙ own_new (reference_in (length x.first) i) (descriptor_in x.second (i - l.count))) }

-- ---- a view

module _ (x : Pair) (iid holder : ℕ → ℕ) (t : List ℕ) (c : ℕ) where
  view_new : (r : ℕ) → new_entry (view_entry x iid holder r) ≡ new_own (row_own x (holder r))
  unfolding new_entry entry_descriptor view_entry entry_of
  view_new r = refl

  view_hit : (q : ℕ) → q < c → new_own (row_own x (holder (cell t q))) ≡ true → minor_of (view_entries x iid holder t c) ≡ 2
  unfolding view_entries
  view_hit q l e = minor_new (view_entries x iid holder t c) (any_In new_entry (view_entries x iid holder t c) (view_entry x iid holder (cell t q)) (In-span (λ q. view_entry x iid holder (cell t q)) c q l) (view_new (cell t q) ∙ e))

  view_none : ((q : ℕ) → q < c → new_own (row_own x (holder (cell t q))) ≡ false) → minor_of (view_entries x iid holder t c) ≡ 1
  unfolding view_entries
  view_none f = minor_old (view_entries x iid holder t c) (any_no new_entry (view_entries x iid holder t c) (All-In (λ (u : Entry ℕ). new_entry u ≡ false) (view_entries x iid holder t c) (λ u i.
      let r = span-In no_entry (λ q. view_entry x iid holder (cell t q)) c u i in
      ap new_entry (sym r.2) ∙ view_new (cell t r.0) ∙ f r.0 r.1)))

module _ (P : Pair → Type 0) (holder : ℕ → ℕ) (t : List ℕ) (c : ℕ) where
  -- the rows up to q have none of the tags
  pub record Looked (q : ℕ) : Type 0 where
    pub few : q ≤ c
    pub old : (j : ℕ) → j < q → (x : Pair) → P x → new_own (row_own x (holder (cell t j))) ≡ false

  pub look_start : Looked 0
  look_start = record { few = omega arith; old = λ j l. absurd (omega arith) }

  module _ (q : ℕ) (a : Looked q) where
    pub look_done : c ≤ q → (iid : ℕ → ℕ) → Gives P (λ x. minor_of (view_entries x iid holder t c)) 1
    look_done l iid = record { each = λ x h. sym (view_none x iid holder t c (λ j m. a.old j (omega arith) x h)) }

    -- row r is the next, with the descriptor of the row that h tells
    module _ (l : q < c) (r h : ℕ) (e : r ≡ cell t q) (f : h ≡ holder r) (z : Bool) (g : Gives P (λ x. new_own (row_own x h)) z) where
      row_new : (x : Pair) → P x → new_own (row_own x (holder (cell t q))) ≡ z
      row_new x p = ap (λ (j : ℕ). new_own (row_own x j)) (sym (f ∙ ap holder e)) ∙ sym (g.each x p)

      pub look_hit : z ≡ true → (iid : ℕ → ℕ) → Gives P (λ x. minor_of (view_entries x iid holder t c)) 2
      look_hit w iid = record { each = λ x p. sym (view_hit x iid holder t c q l (row_new x p ∙ w)) }

      pub look_next : z ≡ false → Looked (q + 1)
      look_next w = record { few = omega arith; old = next }
        where
          next : (j : ℕ) → j < q + 1 → (x : Pair) → P x → new_own (row_own x (holder (cell t j))) ≡ false
          next j m x p = elim (dec_le q j) [
            | no n ↦ a.old j (omega arith) x p
            | yes n ↦ let y : j ≡ q = omega arith in rw y (row_new x p ∙ w)
          ]
