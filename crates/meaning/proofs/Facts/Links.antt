-- A link joins exactly when no condition holds, and is otherwise refused with the lowest number whose condition does, at its place.
-- Assumes nothing.
use mathlib.Core.Path.{◌≡◌, refl, sym, ap, ◌∙◌, subst}
use mathlib.Core.Bool.{Bool, true, false}
use mathlib.Core.List.{List, ◌++◌}
use Prim.Native.Nat.{ℕ, ◌+◌, ◌≤◌, ◌<◌}
use native.Mathlib.Omega.{arith}
use lib.ListN.{length}
use Rattle.number.specs.Choice.{when◌then◌else◌, ◌<?◌}
use Rattle.number.specs.Scan.{scan, some as one}
use Rattle.number.proofs.Choice.{both, is_true, is_false, is_lt, no_lt, from_yes_lt, from_not_lt, yes_lt}
use Rattle.number.proofs.Scans.{scan_found, scan_before, scan_is, some_no, none_found}
use Rattle.key.specs.Key.{Key}
use Rattle.reader.specs.Values.{Entry, entry_key}
use Rattle.meaning.specs.Facts.Facts.{Sub, keys_of}
use Rattle.meaning.specs.Facts.Union.{union}
use Rattle.meaning.specs.Facts.Conditions.{TwoIids, SharedIid, TwoDescriptors, Endless, TooMany, Free, Agree, Fine, two_iids, shared_iid, two_descriptors, endless}
use Rattle.meaning.specs.Facts.Valid.{entry_at}
use Rattle.meaning.specs.Facts.Link.{Linked, stopped, joined, such_at, any_such, first_such, link_both, link_entries, Lowest, StoppedBy, by21, by22, by23, by24, by25, by26}
use Rattle.meaning.proofs.Facts.Sets.{In-left}
use Rattle.meaning.proofs.Facts.Said.{key_entry, entry_key_lem, keys_Sub}
use Rattle.meaning.proofs.Facts.Tests.{Tests, two_iids_lem, shared_iid_lem, two_descriptors_lem, endless_test}
use Rattle.meaning.proofs.Facts.Agrees.{Sound, Free-iids, Free-owners, Free-descriptors, Free-chains}
use Rattle.meaning.proofs.Facts.Valids.{entry_at_lem, at_entry}

-- ---- the lowest index whose key is such

module _ (such : Key → Bool) (Such : Key → Type 0) (tests : (k : Key) → Tests (such k) (Such k)) (A : List (Entry Key)) where
  test_no : (k : Key) → (Such k → ⊥) → such k ≡ false
  test_no k f = go (such k) refl
    where
      go : (t : Bool) → such k ≡ t → such k ≡ false
      go true e = absurd (f ((tests k).holds e))
      go false e = e

  test_yes : (k : Key) → Such k → such k ≡ true
  test_yes k h = go (such k) refl
    where
      go : (t : Bool) → such k ≡ t → such k ≡ true
      go true e = e
      go false e = absurd ((tests k).fails e h)

  pub such_Lowest : any_such such A ≡ true → Lowest A Such (first_such such A)
  unfolding any_such first_such such_at one
  such_Lowest e =
      let l = from_yes_lt (scan (such_at such A) (length A) 0) (length A) e in (
        scan (such_at such A) (length A) 0,
        refl,
        l,
        (tests _).holds (scan_found (such_at such A) (length A) 0 (omega arith)),
        λ j h. (tests _).fails (scan_before (such_at such A) (length A) 0 j (omega arith) h),
      )

  pub such_none : any_such such A ≡ false → Free A Such
  unfolding any_such such_at
  such_none e k i =
      let r = key_entry k A i in
      let s = entry_at_lem r.0 A r.1 in
      let q : entry_key (entry_at A s.0) ≡ k = ap entry_key s.2 ∙ sym r.2 in
      rw q at ((tests (entry_key (entry_at A s.0))).fails (none_found (such_at such A) (length A) s.0 e s.1))

  pub none_such : Free A Such → any_such such A ≡ false
  unfolding any_such such_at
  none_such f = some_no (such_at such A) (length A) (λ j h. test_no (entry_key (entry_at A j)) (f (entry_key (entry_at A j)) (entry_key_lem (entry_at A j) A (at_entry A j h))))

  pub Lowest-such : (q : ℕ) → Lowest A Such q → (any_such such A ≡ true) × (first_such such A ≡ q)
  unfolding any_such first_such such_at one
  Lowest-such q l =
      let i : ℕ = l.0 in
      let h : i < length A = l.2 in
      let e : scan (such_at such A) (length A) 0 ≡ i =
      scan_is (such_at such A) (length A) 0 i (omega arith) (omega arith) (λ _. test_yes _ l.3) (λ j _ b. test_no _ (l.4 j b)) in
      (yes_lt (scan (such_at such A) (length A) 0) (length A) (omega arith), ap (λ (n : ℕ). n + 1) e ∙ sym l.1)

-- ---- what the tests of the first file's keys say of all keys

module _ (A B : List (Entry Key)) where
  first_keys : Sub (keys_of A) (keys_of (A ++ B))
  first_keys = keys_Sub A (A ++ B) (λ e i. In-left e A B i)

  -- a test that no key of both passes
  clear : (such : Key → Bool) (Such : Key → Type 0) → ((k : Key) → Tests (such k) (Such k)) → Free (A ++ B) Such → any_such such A ≡ false
  clear such Such t f = none_such such Such t A (λ k i. f k (first_keys k i))

  pub clear21 : Free (A ++ B) (TwoIids (A ++ B)) → any_such (two_iids (A ++ B)) A ≡ false
  clear21 f = clear _ _ (two_iids_lem (A ++ B)) f

  pub clear22 : Free (A ++ B) (SharedIid (A ++ B)) → any_such (shared_iid (A ++ B)) A ≡ false
  clear22 f = clear _ _ (shared_iid_lem (A ++ B)) f

  pub clear23 : Free (A ++ B) (TwoDescriptors (A ++ B)) → any_such (two_descriptors (A ++ B)) A ≡ false
  clear23 f = clear _ _ (two_descriptors_lem (A ++ B)) f

  pub clear24 : Free (A ++ B) (Endless (A ++ B)) → any_such (endless (A ++ B)) A ≡ false
  clear24 f = clear _ _ (endless_test (A ++ B)) f

  module _ (s : Sound B) where
    pub all21 : any_such (two_iids (A ++ B)) A ≡ false → Free (A ++ B) (TwoIids (A ++ B))
    all21 e = Free-iids A B s (such_none _ _ (two_iids_lem (A ++ B)) A e)

    pub all22 : any_such (two_iids (A ++ B)) A ≡ false → any_such (shared_iid (A ++ B)) A ≡ false → Free (A ++ B) (SharedIid (A ++ B))
    all22 d e = Free-owners A B s (all21 d) (such_none _ _ (shared_iid_lem (A ++ B)) A e)

    pub all23 : any_such (two_descriptors (A ++ B)) A ≡ false → Free (A ++ B) (TwoDescriptors (A ++ B))
    all23 e = Free-descriptors A B s (such_none _ _ (two_descriptors_lem (A ++ B)) A e)

    pub all24 : any_such (endless (A ++ B)) A ≡ false → Free (A ++ B) (Endless (A ++ B))
    all24 e = Free-chains A B s (such_none _ _ (endless_test (A ++ B)) A e)

-- ---- how a link can go

pub joined_equal : {u v : List (Entry Key)} → joined u ≡ joined v → u ≡ v
joined_equal e = cc

pub stopped_equal : {m n p q : ℕ} → stopped m p ≡ stopped n q → ◌≡◌ {A = ℕ × ℕ} (m, p) (n, q)
stopped_equal {m} {n} {p} {q} e = let a : m ≡ n = cc in let b : p ≡ q = cc in (λ j. (a j, b j))

pub not_both : {X : Type 0} {n q : ℕ} {u : List (Entry Key)} → stopped n q ≡ joined u → X
not_both e = absurd (let z : ◌≡◌ {A = ℕ} 0 1 = cc in omega arith)

pub not_over : {m n : ℕ} → (m < n → ⊥) → n ≤ m
not_over f = omega arith

module _ (size : List (Entry Key) → ℕ) where
  pub data Outcome (A es : List (Entry Key)) (r : Linked) : Type 0 where
    done : Fine size es → r ≡ joined (union es) → Outcome A es r
    refused : (n q : ℕ) → StoppedBy size A es n q → r ≡ stopped n q → Outcome A es r

  pub outcome : (A B : List (Entry Key)) → Sound B → Outcome A (A ++ B) (link_entries size A B)
  unfolding link_entries link_both
  outcome A B s =
      both (Outcome A (A ++ B)) _ _ _ (λ e. refused 21 _ (by21 refl (such_Lowest _ _ (two_iids_lem (A ++ B)) A e)) refl) (λ e1.
      both (Outcome A (A ++ B)) _ _ _ (λ e. refused 22 _ (by22 refl (all21 A B s e1) (such_Lowest _ _ (shared_iid_lem (A ++ B)) A e)) refl) (λ e2.
      both (Outcome A (A ++ B)) _ _ _ (λ e. refused 23 _ (by23 refl (all21 A B s e1) (all22 A B s e1 e2) (such_Lowest _ _ (two_descriptors_lem (A ++ B)) A e)) refl) (λ e3.
      both (Outcome A (A ++ B)) _ _ _ (λ e. refused 24 _ (by24 refl (all21 A B s e1) (all22 A B s e1 e2) (all23 A B s e3) (such_Lowest _ _ (endless_test (A ++ B)) A e)) refl) (λ e4.
      let a : Agree (A ++ B) = record { iids = all21 A B s e1; owners = all22 A B s e1 e2; descriptors = all23 A B s e3; chains = all24 A B s e4 } in
      both (Outcome A (A ++ B)) _ _ _ (λ e. refused 25 0 (by25 refl a (from_yes_lt _ _ e) refl) refl) (λ e5.
      let few : TooMany (A ++ B) → ⊥ = λ h. omega (arith, h, from_not_lt _ _ e5) in
      both (Outcome A (A ++ B)) _ _ _ (λ e. refused 26 0 (by26 refl a few (from_yes_lt _ _ e) refl) refl) (λ e6.
      done (record { agree = a; few = few; short = λ h. omega (arith, h, from_not_lt _ _ e6) }) refl))))))

  -- ---- and back

  module _ (A B : List (Entry Key)) where
    -- past the first four
    pub agreed : Agree (A ++ B) → {r : Linked}
        → r ≡ (when 1024 <? length (union (A ++ B)) then stopped 25 0 else when 1048576 <? size (union (A ++ B)) then stopped 26 0 else joined (union (A ++ B)))
        → r ≡ link_entries size A B
    unfolding link_entries link_both
    agreed a h = is_false _ _ _ (clear21 A B a.iids) (is_false _ _ _ (clear22 A B a.owners) (is_false _ _ _ (clear23 A B a.descriptors) (is_false _ _ _ (clear24 A B a.chains) h)))

    pub Fine-joined : Fine size (A ++ B) → link_entries size A B ≡ joined (union (A ++ B))
    Fine-joined f = sym (agreed f.agree (no_lt _ _ _ _ (not_over f.few) (no_lt _ _ _ _ (not_over f.short) refl)))

    pub by_stopped : (n q : ℕ) → StoppedBy size A (A ++ B) n q → link_entries size A B ≡ stopped n q
    unfolding link_entries link_both
    by_stopped n q (by21 e l) =
        let r = Lowest-such _ _ (two_iids_lem (A ++ B)) A q l in
        sym (is_true _ _ _ r.0 (λ j. stopped (e j) (sym r.1 j)))
    by_stopped n q (by22 e f1 l) =
        let r = Lowest-such _ _ (shared_iid_lem (A ++ B)) A q l in
        sym (is_false _ _ _ (clear21 A B f1) (is_true _ _ _ r.0 (λ j. stopped (e j) (sym r.1 j))))
    by_stopped n q (by23 e f1 f2 l) =
        let r = Lowest-such _ _ (two_descriptors_lem (A ++ B)) A q l in
        sym (is_false _ _ _ (clear21 A B f1) (is_false _ _ _ (clear22 A B f2) (is_true _ _ _ r.0 (λ j. stopped (e j) (sym r.1 j)))))
    by_stopped n q (by24 e f1 f2 f3 l) =
        let r = Lowest-such _ _ (endless_test (A ++ B)) A q l in
        sym (is_false _ _ _ (clear21 A B f1) (is_false _ _ _ (clear22 A B f2) (is_false _ _ _ (clear23 A B f3) (is_true _ _ _ r.0 (λ j. stopped (e j) (sym r.1 j))))))
    by_stopped n q (by25 e a h z) = sym (agreed a (is_lt _ _ _ _ h (λ j. stopped (e j) (z j))))
    by_stopped n q (by26 e a few h z) = sym (agreed a (no_lt _ _ _ _ (not_over few) (is_lt _ _ _ _ h (λ j. stopped (e j) (z j)))))

    -- ---- exactly when

    module _ (s : Sound B) where
      pub joined-Fine : (U : List (Entry Key)) → link_entries size A B ≡ joined U → Fine size (A ++ B) × (U ≡ union (A ++ B))
      joined-Fine U h = go (outcome A B s)
        where
          go : Outcome A (A ++ B) (link_entries size A B) → Fine size (A ++ B) × (U ≡ union (A ++ B))
          go (done f e) = (f, joined_equal (sym h ∙ e))
          go (refused n q r e) = not_both (sym e ∙ h)

      pub stopped_by : (n q : ℕ) → link_entries size A B ≡ stopped n q → StoppedBy size A (A ++ B) n q
      stopped_by n q h = go (outcome A B s)
        where
          go : Outcome A (A ++ B) (link_entries size A B) → StoppedBy size A (A ++ B) n q
          go (done f e) = not_both (sym h ∙ e)
          go (refused m p r e) = let t = stopped_equal (sym e ∙ h) in subst (λ (x : ℕ × ℕ). StoppedBy size A (A ++ B) x.0 x.1) t r
