-- Links of the same facts answer the same, up to the place; one that says what a single file says is that file's normalising.
-- Assumes nothing.
use mathlib.Core.Path.{◌≡◌, refl, sym, ap}
use mathlib.Core.Bool.{Bool, true, false}
use mathlib.Core.List.{List, ◌++◌}
use Prim.Native.Nat.{ℕ, ◌≤◌}
use native.Mathlib.Omega.{arith}
use lib.ListN.{length}
use Rattle.number.specs.Choice.{when◌then◌else◌, ◌<?◌}
use Rattle.number.proofs.Choice.{no_lt}
use Rattle.number.proofs.Scans.{clash}
use Rattle.key.specs.Key.{Key}
use Rattle.reader.specs.Values.{Entry}
use Rattle.meaning.specs.Facts.Facts.{Within, iids_of, descriptors_of}
use Rattle.meaning.specs.Facts.Union.{union}
use Rattle.meaning.specs.Facts.Conditions.{TwoIids, SharedIid, TwoDescriptors, Endless, Free, two_iids, shared_iid, two_descriptors, endless}
use Rattle.meaning.specs.Facts.Valid.{Valid}
use Rattle.meaning.specs.Facts.Link.{Linked, stopped, joined, any_such, link_both, link_entries, normal_entries, number_only}
use Rattle.meaning.proofs.Facts.Values.{Single-Sub}
use Rattle.meaning.proofs.Facts.Unions.{union_ext}
use Rattle.meaning.proofs.Facts.Agrees.{Sound, Single-iids, iids_Single, Single-descriptors, descriptors_Single, owned, shared_Owned, all_end, ends_within, Agree-within}
use Rattle.meaning.proofs.Facts.Valids.{valid_Sound, valid_Agree}
use Rattle.meaning.proofs.Facts.Closed.{Valid-few}
use Rattle.meaning.proofs.Facts.Links.{all21, all22, all23, all24, clear21, clear22, clear23, clear24, agreed}

-- two chains of tests that go the same way at this one
same_step : (t u : Bool) (n p q : ℕ) (r s : Linked) → (t ≡ false → u ≡ false) → (u ≡ false → t ≡ false) → (t ≡ false → u ≡ false → number_only r ≡ number_only s)
    → number_only (when t then stopped n p else r) ≡ number_only (when u then stopped n q else s)
unfolding when◌then◌else◌ number_only
same_step true true n p q r s f g h = refl
same_step true false n p q r s f g h = clash true refl (g refl)
same_step false true n p q r s f g h = clash true refl (f refl)
same_step false false n p q r s f g h = h refl refl

-- ---- with fewer facts no condition holds that did not hold

module _ (es fs : List (Entry Key)) (w : Within es fs) where
  fewer_iids : Free fs (TwoIids fs) → Free es (TwoIids es)
  fewer_iids f k i = iids_Single es (Single-Sub (iids_of es) (iids_of fs) w.iids (Single-iids fs f)) k

  fewer_owners : Free fs (TwoIids fs) → Free fs (SharedIid fs) → Free es (SharedIid es)
  fewer_owners f g k i = let h = owned fs (Single-iids fs f) g in shared_Owned es (λ k l i a b. h k l i (w.iids (k, i) a) (w.iids (l, i) b)) k

  fewer_descriptors : Free fs (TwoDescriptors fs) → Free es (TwoDescriptors es)
  fewer_descriptors f k i = descriptors_Single es (Single-Sub (descriptors_of es) (descriptors_of fs) w.descriptors (Single-descriptors fs f)) k

  fewer_chains : Free fs (TwoDescriptors fs) → Free fs (Endless fs) → Free es (Endless es)
  fewer_chains f g k i n = n (ends_within es fs w (Single-descriptors fs f) (all_end fs g) k i)

-- ---- the tests of one link pass where those of another with no fewer facts do

module _ (A B C D : List (Entry Key)) (s : Sound D) (w : Within (A ++ B) (C ++ D)) where
  next21 : any_such (two_iids (C ++ D)) C ≡ false → any_such (two_iids (A ++ B)) A ≡ false
  next21 c = clear21 A B (fewer_iids (A ++ B) (C ++ D) w (all21 C D s c))

  next22 : any_such (two_iids (C ++ D)) C ≡ false → any_such (shared_iid (C ++ D)) C ≡ false → any_such (shared_iid (A ++ B)) A ≡ false
  next22 c d = clear22 A B (fewer_owners (A ++ B) (C ++ D) w (all21 C D s c) (all22 C D s c d))

  next23 : any_such (two_descriptors (C ++ D)) C ≡ false → any_such (two_descriptors (A ++ B)) A ≡ false
  next23 c = clear23 A B (fewer_descriptors (A ++ B) (C ++ D) w (all23 C D s c))

  next24 : any_such (two_descriptors (C ++ D)) C ≡ false → any_such (endless (C ++ D)) C ≡ false → any_such (endless (A ++ B)) A ≡ false
  next24 c d = clear24 A B (fewer_chains (A ++ B) (C ++ D) w (all23 C D s c) (all24 C D s d))

module _ (size : List (Entry Key) → ℕ) where
  -- the last two tests, and the union
  abbrev rest : List (Entry Key) → Linked
  rest u = when 1024 <? length u then stopped 25 0 else when 1048576 <? size u then stopped 26 0 else joined u

  pub same_facts : (A B C D : List (Entry Key)) → Sound B → Sound D → Within (A ++ B) (C ++ D) → Within (C ++ D) (A ++ B) → number_only (link_entries size A B) ≡ number_only (link_entries size C D)
  unfolding link_entries link_both
  same_facts A B C D b d w v =
      same_step _ _ 21 _ _ _ _ (next21 C D A B b v) (next21 A B C D d w) (λ a1 c1.
      same_step _ _ 22 _ _ _ _ (next22 C D A B b v a1) (next22 A B C D d w c1) (λ a2 c2.
      same_step _ _ 23 _ _ _ _ (next23 C D A B b v) (next23 A B C D d w) (λ a3 c3.
      same_step _ _ 24 _ _ _ _ (next24 C D A B b v a3) (next24 A B C D d w c3) (λ a4 c4.
      ap (λ (u : List (Entry Key)). number_only (rest u))
      (union_ext (A ++ B) (C ++ D) w v (Single-iids (C ++ D) (all21 C D d c1)) (Single-descriptors (C ++ D) (all23 C D d c3)))))))

  -- ---- one file

  pub says_one : (A B C : List (Entry Key)) → Valid C → Within (A ++ B) C → Within C (A ++ B) → link_entries size A B ≡ normal_entries size C
  unfolding normal_entries
  says_one A B C v w x =
      let s = valid_Sound C v in
      let e : union (A ++ B) ≡ union C = union_ext (A ++ B) C w x s.iids s.descriptors in
      let h : length (union C) ≤ 1024 = omega (arith, Valid-few C v) in
      sym (agreed size A B (Agree-within (A ++ B) C w (valid_Agree C v)) (no_lt 1024 (length (union (A ++ B))) _ _ (rw e h) (ap (λ (u : List (Entry Key)). when 1048576 <? size u then stopped 26 0 else joined u) (sym e))))
