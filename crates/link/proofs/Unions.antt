-- A union that is not refused reads back from its normal form.
-- Assumes nothing.
use mathlib.Core.Path.{◌≡◌, refl, sym, ap, ◌∙◌}
use mathlib.Core.Logic.{inl, inr}
use mathlib.Core.List.{List, [], ◌++◌}
use mathlib.Core.Option.{Option, none, some}
use Prim.Native.Nat.{ℕ, zero, suc, ◌≤◌, ◌<◌}
use native.Mathlib.Omega.{arith}
use lib.ListN.{length, get_or}
use Rattle.key.specs.Key.{Key, key}
use Rattle.reader.specs.Values.{Descriptor, Entry, entry, entry_key, entry_iid, entry_descriptor}
use Rattle.reader.specs.Rules.{All, InOrder, UniqueKeys, NoCycle}
use Rattle.meaning.specs.Refs.{AllRefs, EntryRefs}
use Rattle.meaning.specs.Index as index
use Rattle.meaning.specs.Index.{index_of, renumbered}
use Rattle.meaning.specs.Chain.{parent_ref, EndsWithin}
use Rattle.meaning.proofs.Refs.{refs_then}
use Rattle.meaning.proofs.Indexes.{index_at, length_keys, in_order, unique_keys}
use Rattle.meaning.proofs.Chains.{chains_end}
use Rattle.meaning.specs.Facts.Facts.{In, keys_of}
use Rattle.meaning.specs.Facts.Union.{union}
use Rattle.meaning.specs.Facts.Conditions.{parent_from, parent_in, climb, TooLong, Fine}
use Rattle.meaning.specs.Facts.Valid.{blank, entry_at, Valid}
use Rattle.meaning.proofs.Facts.Sets.{In-append, at_In, In-at}
use Rattle.meaning.proofs.Facts.Values.{not_some}
use Rattle.meaning.proofs.Facts.Said.{entry_key_lem}
use Rattle.meaning.proofs.Facts.Unions.{for_descriptor}
use Rattle.meaning.proofs.Facts.Valids.{resolved_parts, valid_Agree}
use Rattle.meaning.proofs.Facts.Same.{own_entry}
use Rattle.meaning.proofs.Facts.Closed.{Valid-few}
use Rattle.meaning.proofs.Facts.Links.{not_over}
use Rattle.meaning.proofs.Facts.Algebra.{Closed, union-Valid, union_again, own_order}
use Rattle.meaning.specs.Normal.Encodable.{Sound}
use Rattle.meaning.proofs.Normal.Anys.{In-All, All-In}
use Rattle.meaning.specs.Stock.Uses.{normal_length}
use Rattle.meaning.specs.Stock.Readable.{Readable}
use Rattle.link.proofs.Sounds.{Sound-union}

-- ---- references

key_index : (ks : List Key) (k : Key) → In k ks → index_of ks k ≤ length ks
key_index ks k i = let r = In-at (key [] []) k ks i in omega (arith, r.1, index_at (key [] []) ks k r.0 r.1 r.2)

refs_parts : (P : Key → Type 0) (e : Entry Key) → ((d : Descriptor Key) → entry_descriptor e ≡ some d → AllRefs P d) → EntryRefs P e
unfolding entry_descriptor
refs_parts P (entry k i none) f = tt
refs_parts P (entry k i (some d)) f = f d refl

-- ---- chains

climb_within : (up : Key → Option Key) (n : ℕ) (o : Option Key) → climb n up o ≡ none → EndsWithin n up o
unfolding climb
climb_within up zero none e = tt
climb_within up zero (some k) e = not_some (sym e)
climb_within up (suc n) none e = tt
climb_within up (suc n) (some k) e = climb_within up n (up k) e

above_within : (up : Key → Option Key) (n : ℕ) (k : Key) → EndsWithin n up (some k) → (m : ℕ) × EndsWithin m up (up k)
above_within up zero k e = absurd e
above_within up (suc n) k e = (n, e)

parent_ref_lem : (e : Entry Key) → parent_from (entry_descriptor e) ≡ parent_ref e
unfolding parent_from entry_descriptor parent_ref
parent_ref_lem (entry k i none) = refl
parent_ref_lem (entry k i (some d)) = refl

-- ---- what can be written and read

module _ (us : List (Entry Key)) (v : Valid us) where
  abbrev Among : Key → Type 0
  Among k = index_of (index.keys_of us) k ≤ length us

  valid_Closed : index.Closed us
  unfolding index.keys_of
  valid_Closed = All-In (EntryRefs Among) us (λ e m. refs_parts Among e (λ d h.
      let i : In (entry (entry_key e) (entry_iid e) (some d)) us = rw (← resolved_parts e d h) m in
      refs_then (λ k. In k (keys_of us)) Among (λ k j. omega (arith, key_index (keys_of us) k j, length_keys us)) d (v.references (entry_key e) (entry_iid e) d i)))

  at_us : (i : ℕ) → i < length us → In (get_or us i blank) us
  at_us i l = at_In blank us i l

  parent_own : (i : ℕ) → i < length us → parent_in us (entry_key (get_or us i blank)) ≡ parent_ref (get_or us i blank)
  unfolding parent_in
  parent_own i l =
      let e = get_or us i blank in
      ap parent_from (sym (for_descriptor us (entry_key e)) ∙ ap entry_descriptor (own_entry us v e (at_us i l))) ∙ parent_ref_lem e

  chain_own : (i : ℕ) → i < length us → (n : ℕ) × EndsWithin n (parent_in us) (parent_ref (get_or us i blank))
  chain_own i l =
      let e = get_or us i blank in
      let c = v.chains (entry_key e) (entry_key_lem e us (at_us i l)) in
      rw (← parent_own i l) (above_within (parent_in us) c.0 (entry_key e) (climb_within (parent_in us) c.0 (some (entry_key e)) c.1))

  -- that stand in the order of the normal form: what a directory of theirs has
  pub valid_standing : union us ≡ us → index.Closed us × InOrder (renumbered us) × UniqueKeys (renumbered us) × NoCycle (renumbered us)
  unfolding entry_at
  valid_standing own = (valid_Closed, in_order us blank (own_order us own v), unique_keys us blank v.keys, chains_end us valid_Closed (parent_in us) blank parent_own chain_own)

  -- each sound, that stand so and fit
  pub valid_Readable : All Sound us → union us ≡ us → normal_length us ≤ 1048576 → Readable us
  valid_Readable s own short =
      let o = valid_standing own in
      record { few = v.few; short = short; each = s; closed = o.0; order = o.1; keys = o.2; chains = o.3 }

-- the union of sound entries of which none of the six conditions holds
pub Fine-Readable : (es : List (Entry Key)) → All Sound es → Closed es → Fine normal_length es → Readable (union es)
Fine-Readable es s c f =
    valid_Readable (union es) (union-Valid es f.agree c f.few) (Sound-union es s c) (union_again es f.agree) (not_over f.short)

-- of a file by itself only 26 can hold
pub Valid-Fine : (A : List (Entry Key)) → Valid A → (TooLong normal_length A → ⊥) → Fine normal_length A
Valid-Fine A v f = record { agree = valid_Agree A v; few = Valid-few A v; short = f }

pub Sound-both : (A B : List (Entry Key)) → All Sound A → All Sound B → All Sound (A ++ B)
Sound-both A B a b = All-In Sound (A ++ B) (λ e i. elim (In-append e A B i) [ inl m ↦ In-All Sound A a e m | inr m ↦ In-All Sound B b e m ])
