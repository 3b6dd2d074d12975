-- A table has no tab of its own, whatever its names are: in a batch, tabs turned back into newlines give the table.
-- Assumes nothing.
use mathlib.Core.Path.{◌≡◌, refl}
use mathlib.Core.Logic.{inl}
use mathlib.Core.List.{List, [], ◌∷◌, ◌++◌}
use mathlib.Core.Option.{Option, some}
use Prim.Native.Nat.{ℕ, zero, suc, ◌+◌, ◌-◌}
use lib.ListN.{length}
use Rattle.number.specs.Choice.{when◌then◌else◌, ◌=?◌}
use Rattle.number.proofs.Choice.{both}
use Rattle.reading.specs.Got.{got}
use Rattle.key.specs.Key.{key, key_space, key_name}
use Rattle.reader.specs.Values.{signature, Method, method, method_flags, method_name, argument_count, Descriptor, descriptor, methods_of, Entry, entry, entry_key, no_entry, keys_in, Typelib, entries_in}
use Rattle.reader.specs.Rules.{All, MethodRule, DescriptorRule, EntryRule}
use Rattle.reader.specs.Reader.{decode}
use Rattle.lookup.specs.declared.Kind.TheVariants.{Getter, Setter}
use Rattle.lookup.specs.Chain.{Level, level, Ending, root, unresolved, Chain, chain, levels, chain_within, descriptor_at, chain_of}
use Rattle.lookup.specs.Method.{is_kind}
use Rattle.lookup.specs.Question.{slot_as}
use Rattle.lookup.proofs.ChainLaws.{open_ended, topmost, onward, way, under-levels, within_unresolved, within_top, within_child, rule_within, accepted_entries}
use Rattle.said.specs.Texts.{undetermined}
use Rattle.lines.specs.Tabs.{tabbed, untabbed}
use Rattle.lines.proofs.BackLaws.{Tabless, no_tabs, Tabless-append, Tabless-after, Tabless-back, Tabless-digits, Tabless-looked, Tabless-namespace, Tabless-newline, Tabless-slot, Tabless-word, tabs_in}
use Rattle.slots.specs.Table.{getter_word, setter_word, plain_word, kind_text, Row, row, own_rows, level_rows, rows_on, owner_text, call_text, row_line, row_lines, head_line, chain_text, table_of}

-- ---- rows

getter_Tabless : Tabless getter_word
unfolding tabs_in when◌then◌else◌ ◌=?◌
getter_Tabless = Tabless-looked getter_word refl

setter_Tabless : Tabless setter_word
unfolding tabs_in when◌then◌else◌ ◌=?◌
setter_Tabless = Tabless-looked setter_word refl

plain_Tabless : Tabless plain_word
unfolding tabs_in when◌then◌else◌ ◌=?◌
plain_Tabless = Tabless-looked plain_word refl

undetermined-Tabless : Tabless undetermined
unfolding tabs_in when◌then◌else◌ ◌=?◌
undetermined-Tabless = Tabless-looked undetermined refl

kind_Tabless : (f : ℕ) → Tabless (kind_text f)
unfolding kind_text
kind_Tabless f = both Tabless (is_kind Getter f) _ _ (λ _. getter_Tabless) (λ _. both Tabless (is_kind Setter f) _ _ (λ _. setter_Tabless) (λ _. plain_Tabless))

module _ (minor n : ℕ) where
  -- of a key of the directory, or of none
  owner_Tabless : (es : List (Entry ℕ)) (k : ℕ) → All (EntryRule minor n) es → Tabless (owner_text (keys_in es k))
  unfolding owner_text keys_in entry_key no_entry key_space key_name
  owner_Tabless [] k h = Tabless-append _ _ (Tabless-after _ (Tabless-namespace [] (inl refl))) (Tabless-after _ no_tabs)
  owner_Tabless (entry (key v w) i d ∷ es) zero h = Tabless-append _ _ (Tabless-after _ (Tabless-namespace v h.0.1)) (Tabless-after _ (Tabless-word w h.0.0))
  owner_Tabless (x ∷ es) (suc k) h = owner_Tabless es k h.1

  call_Tabless : (m : Method ℕ) → MethodRule minor n m → Tabless (call_text m)
  unfolding call_text method_flags method_name
  call_Tabless (method f w (signature ps r)) h =
      Tabless-append _ _ (Tabless-append _ _ (Tabless-after _ (kind_Tabless f)) (Tabless-after _ (Tabless-word w h.1)))
      (Tabless-append _ _ (Tabless-after _ (Tabless-digits (argument_count (method f w (signature ps r))))) Tabless-newline)

  -- the method of a row
  abbrev Ruled : Row → Type 0
  Ruled (row slot owner p m) = MethodRule minor n m

  rows_Tabless : (es : List (Entry ℕ)) → All (EntryRule minor n) es → (rows : List Row) → All Ruled rows → Tabless (row_lines es rows)
  unfolding row_lines row_line
  rows_Tabless es h [] r = no_tabs
  rows_Tabless es h (row slot owner p m ∷ rows) r =
      Tabless-append _ _ (Tabless-append _ _ (Tabless-append _ _ (Tabless-slot (slot_as slot)) (owner_Tabless es (owner - 1) h)) (call_Tabless m r.0)) (rows_Tabless es h rows r.1)

  -- ---- the rows of a chain

  own_Ruled : (owner : ℕ) (above : Chain ℕ) (p : ℕ) (ms : List (Method ℕ)) → All (MethodRule minor n) ms → All Ruled (own_rows owner above p ms)
  unfolding own_rows
  own_Ruled owner above p [] h = tt
  own_Ruled owner above p (m ∷ ms) h = (h.0, own_Ruled owner above (p + 1) ms h.1)

  All-append : (xs ys : List Row) → All Ruled xs → All Ruled ys → All Ruled (xs ++ ys)
  All-append [] ys f g = g
  All-append (x ∷ xs) ys f g = (f.0, All-append xs ys f.1 g)

  -- the descriptor of an entry of a chain
  abbrev Described : Level ℕ → Type 0
  Described (level o d) = DescriptorRule minor n d

  chain_Ruled : (xs : List (Level ℕ)) (end : Ending ℕ) → All Described xs → All Ruled (rows_on xs end)
  unfolding rows_on level_rows methods_of
  chain_Ruled [] end h = tt
  chain_Ruled (level o (descriptor up ms ks f) ∷ xs) end h = All-append (rows_on xs end) _ (chain_Ruled xs end h.1) (own_Ruled o (chain xs end) 0 ms h.0.methods)

  module _ (D : ℕ → Option (Descriptor ℕ)) (obeys : (r : ℕ) (d : Descriptor ℕ) → D r ≡ some d → DescriptorRule minor n d) where
    described : (k r : ℕ) → All Described (levels (chain_within D k r))
    unfolding levels chain_within
    described zero r = tt
    described (suc k) r = elim (way D r) [
      | open_ended e ↦ rw (within_unresolved D (suc k) r e) tt
      | topmost d e q ↦ rw (within_top D k r e q) (obeys r d e, tt)
      | onward d p e q ↦ rw (within_child D k r e q, under-levels (level r d) (chain_within D k p)) (obeys r d e, described k p)
    ]

-- ---- a table

end_Tabless : (end : Ending ℕ) → Tabless (head_line end)
unfolding head_line
end_Tabless root = no_tabs
end_Tabless (unresolved r) = Tabless-append _ _ (Tabless-append undetermined _ undetermined-Tabless (Tabless-digits r)) Tabless-newline

chain_Tabless : (minor n : ℕ) (es : List (Entry ℕ)) (c : Chain ℕ) → All (EntryRule minor n) es → All (Described minor n) (levels c) → Tabless (chain_text es c)
unfolding chain_text levels
chain_Tabless minor n es (chain xs end) h r = Tabless-append _ _ (end_Tabless end) (rows_Tabless minor n es h (rows_on xs end) (chain_Ruled minor n xs end r))

-- of an accepted file, any of its interfaces
pub table_Tabless : (s : List ℕ) (t : Typelib) (e : ℕ) → decode s ≡ got t e → (i : ℕ) → Tabless (table_of (entries_in t) i)
unfolding table_of chain_of descriptor_at
table_Tabless s t e h i =
    let a = accepted_entries s t e h in
    let es = entries_in t in
    chain_Tabless a.0 a.1 es (chain_of es i) a.3.each (described a.0 a.1 (descriptor_at es) (λ r d q. rule_within a.0 a.1 es (r - 1) a.3.each q) (length es) i)

-- what a batch answers, turned back, is the table
pub table_back : (s : List ℕ) (t : Typelib) (e : ℕ) → decode s ≡ got t e → (i : ℕ) → untabbed (tabbed (table_of (entries_in t) i)) ≡ table_of (entries_in t) i
table_back s t e h i = Tabless-back _ (table_Tabless s t e h i)
