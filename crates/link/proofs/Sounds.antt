-- Each entry of a union is sound: its key, its IID and its descriptor are those of entries.
-- Assumes nothing.
use mathlib.Core.Path.{◌≡◌, refl, subst}
use mathlib.Core.List.{List}
use mathlib.Core.Option.{Option, none, some}
use Prim.Native.Nat.{ℕ, ◌^◌, ◌<◌}
use native.Mathlib.Bridge.{le_by_compare, IsLe}
use native.Mathlib.Decide.{ℕ_discrete}
use Rattle.key.specs.Key.{Key, key}
use Rattle.reader.specs.Values.{Descriptor, Entry, entry, entry_key, entry_iid, entry_descriptor}
use Rattle.reader.specs.Rules.{All, Identifier, SpaceRule}
use Rattle.meaning.specs.Meaning.{map_own, map_entry}
use Rattle.meaning.specs.Facts.Facts.{In, says_iid, says_descriptor, keys_of}
use Rattle.meaning.specs.Facts.Union.{iid_in, descriptor_for, entry_for, union}
use Rattle.meaning.proofs.Facts.Values.{some_equal, not_some}
use Rattle.meaning.proofs.Facts.Said.{said-In, key_entry, iid_says, descriptor_says}
use Rattle.meaning.proofs.Facts.Unions.{iid_fact, iid_some, descriptor_fact, made_for}
use Rattle.meaning.proofs.Facts.Algebra.{Closed}
use Rattle.meaning.specs.Normal.Ranged.{Ranged}
use Rattle.meaning.specs.Normal.Encodable.{DescriptorApart, Sound}
use Rattle.meaning.proofs.Normal.Anys.{In-All, All-In}

-- ---- the parts of a sound entry

abbrev KeyRule : Key → Type 0
KeyRule (key v w) = Identifier w × SpaceRule v

Sound-key : (e : Entry Key) → Sound e → KeyRule (entry_key e)
unfolding entry_key map_entry
Sound-key (entry (key v w) i d) s = (s.rule.0, s.rule.1)

Sound-iid : (e : Entry Key) → Sound e → entry_iid e < 256 ^ 16
unfolding entry_iid
Sound-iid (entry k i d) s = s.ranged.0

Sound-own : (e : Entry Key) (d : Descriptor Key) → Sound e → entry_descriptor e ≡ some d → DescriptorApart d × Ranged d
unfolding entry_descriptor map_entry map_own
Sound-own (entry (key v w) i none) d s h = not_some h
Sound-own (entry (key v w) i (some c)) d s h = subst (λ (x : Descriptor Key). DescriptorApart x × Ranged x) (some_equal h) (s.rule.2.1, s.ranged.1)

Sound-parts : (k : Key) (i : ℕ) (d : Option (Descriptor Key)) → KeyRule k → i < 256 ^ 16
    → ((c : Descriptor Key) → d ≡ some c → (i ≡ 0 → ⊥) × (DescriptorApart c × Ranged c)) → Sound (entry k i d)
unfolding map_entry map_own
Sound-parts (key v w) i none r l f = record { rule = (r.0, r.1, tt); ranged = (l, tt) }
Sound-parts (key v w) i (some c) r l f = let o = f c refl in record { rule = (r.0, r.1, (o.0, o.1.0)); ranged = (l, o.1.1) }

-- ---- the union

module _ (es : List (Entry Key)) (a : All Sound es) where
  key_sound : (k : Key) → In k (keys_of es) → KeyRule k
  key_sound k i = let r = key_entry k es i in rw r.2 (Sound-key r.0 (In-All Sound es a r.0 r.1))

  iid_sound : (k : Key) → iid_in es k < 256 ^ 16
  unfolding IsLe
  iid_sound k = elim (ℕ_discrete (iid_in es k) 0) [
    | yes z ↦ rw z (le_by_compare 1 (256 ^ 16) tt)
    | no f ↦
        let r = said-In says_iid (k, iid_in es k) es (iid_fact es k f) in
        rw (← (iid_says r.0 k (iid_in es k) r.2).1) (Sound-iid r.0 (In-All Sound es a r.0 r.1))
  ]

  own_sound : (k : Key) (d : Descriptor Key) → descriptor_for es k ≡ some d → DescriptorApart d × Ranged d
  own_sound k d h =
      let r = said-In says_descriptor (k, d) es (descriptor_fact es k d h) in
      Sound-own r.0 d (In-All Sound es a r.0 r.1) (descriptor_says r.0 k d r.2).1

  module _ (c : Closed es) where
    made_Sound : (k : Key) → In k (keys_of es) → Sound (entry_for es k)
    unfolding entry_for
    made_Sound k i = Sound-parts k (iid_in es k) (descriptor_for es k) (key_sound k i) (iid_sound k) (λ d h.
        let r = c.resolved k d (descriptor_fact es k d h) in
        (iid_some es k r.0 r.1, own_sound k d h))

    pub Sound-union : All Sound (union es)
    Sound-union = All-In Sound (union es) (λ e m. let r = made_for es e m in rw r.2 (made_Sound r.0 r.1))
