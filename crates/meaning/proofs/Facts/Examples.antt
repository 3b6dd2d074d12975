-- Links of small lists of entries, computed.
-- Assumes nothing.
use mathlib.Core.Path.{◌≡◌, refl}
use mathlib.Core.List.{List, [], ◌∷◌, map}
use mathlib.Core.Option.{none, some}
use Prim.Native.Nat.{ℕ}
use native.Mathlib.Decide.{ℕ_discrete}
use lib.ListN.{length}
use Rattle.number.specs.Choice.{when◌then◌else◌, ◌<?◌, ◌=?◌}
use Rattle.number.specs.Scan.{scan, some as one}
use Rattle.key.specs.Word.{compare_words, is_same}
use Rattle.key.specs.Key.{Key, key, then_by, compare_keys, same_key}
use Rattle.reader.specs.Values.{constant, Descriptor, descriptor, parent_of, Entry, entry, entry_key}
use Rattle.meaning.specs.Facts.Equal.{cons?, list?, some?, option?, word?, key?, param?, method?, descriptor?, decided, same_descriptor}
use Rattle.meaning.specs.Facts.Facts.{prepend, said, says_iid, says_descriptor}
use Rattle.meaning.specs.Facts.Union.{values_of, first_of, or_zero, iid_in, descriptor_for, compare_numbers, compare_by, beside, insert, sort, entry_for, union}
use Rattle.meaning.specs.Facts.Conditions.{any_of, differ, two_iids, shares_with, shared_iid, two_descriptors, parent_from, parent_in, climb, is_some, endless}
use Rattle.meaning.specs.Facts.Valid.{blank, entry_at}
use Rattle.meaning.specs.Facts.Link.{Linked, stopped, joined, such_at, any_such, first_such, link_both, link_entries}

-- the keys X and Y of the default namespace, and A of the namespace a
abbrev X : Key
X = key [] (0x58 ∷ [])

abbrev Y : Key
Y = key [] (0x59 ∷ [])

abbrev Z : Key
Z = key (0x61 ∷ []) (0x41 ∷ [])

-- an interface whose parent is k
abbrev below : Key → Descriptor Key
below k = descriptor (some k) [] [] 0x80

abbrev with_value : ℕ → Descriptor Key
with_value v = descriptor none [] (constant (0x4b ∷ []) 1 v ∷ []) 0x80

abbrev link : List (Entry Key) → List (Entry Key) → Linked
link A B = link_entries length A B

pub record Case : Type 0 where
  pub first : List (Entry Key)
  pub second : List (Entry Key)
  pub answer : Linked

abbrev row : List (Entry Key) → List (Entry Key) → Linked → Case
row A B r = record { first = A; second = B; answer = r }

pub table : List Case
table =
    -- two files of one entry, and swapped
    row (entry X 7 none ∷ []) (entry Y 5 none ∷ []) (joined (entry Y 5 none ∷ entry X 7 none ∷ []))
    ∷ row (entry Y 5 none ∷ []) (entry X 7 none ∷ []) (joined (entry Y 5 none ∷ entry X 7 none ∷ []))
    -- among zero IIDs the default namespace first, then names; the nonzero IID if any, the descriptor if any
    ∷ row (entry Z 0 none ∷ entry Y 0 none ∷ entry X 0 none ∷ []) (entry Y 5 (some (below X)) ∷ entry X 0 none ∷ [])
    (joined (entry X 0 none ∷ entry Z 0 none ∷ entry Y 5 (some (below X)) ∷ []))
    ∷ row (entry X 5 none ∷ entry Y 6 none ∷ []) (entry Y 7 none ∷ []) (stopped 21 2)
    -- through the union: the first file's own X has no IID
    ∷ row (entry X 0 none ∷ entry Y 5 none ∷ []) (entry X 5 none ∷ []) (stopped 22 1)
    -- 21 at a higher index comes before 22
    ∷ row (entry X 5 none ∷ entry Y 6 none ∷ []) (entry Z 5 none ∷ entry Y 7 none ∷ []) (stopped 21 2)
    ∷ row (entry X 1 (some (with_value 0xfffe)) ∷ []) (entry X 1 (some (with_value 0xfffd)) ∷ []) (stopped 23 1)
    -- also an entry unresolved in the first file, and one outside the cycle
    ∷ row (entry Z 4 (some (below X)) ∷ entry X 5 none ∷ entry Y 6 (some (below X)) ∷ []) (entry X 5 (some (below Y)) ∷ entry Y 6 none ∷ []) (stopped 24 1)
    ∷ []

pub computed : map (λ (c : Case). link c.first c.second) table ≡ map (λ (c : Case). c.answer) table
unfolding table link_entries link_both any_such first_such such_at one scan when◌then◌else◌ ◌<?◌ ◌=?◌ compare_words is_same then_by compare_keys same_key parent_of entry_key cons? list? some? option? word? key? param? method? descriptor? decided same_descriptor prepend said says_iid says_descriptor values_of first_of or_zero iid_in descriptor_for compare_numbers compare_by beside insert sort entry_for union any_of differ two_iids shares_with shared_iid two_descriptors parent_from parent_in climb is_some endless blank entry_at ℕ_discrete
computed = refl
