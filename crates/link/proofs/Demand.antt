-- Demand 3 holds.
-- Assumes nothing.
use Rattle.std.specs.Prelude.{Ok}
use mathlib.Core.Path.{◌≡◌, refl, sym, ap, ◌∙◌}
use mathlib.Core.List.{List, [], ◌++◌}
use Prim.Native.Nat.{ℕ}
use native.Mathlib.Omega.{arith}
use Rattle.key.specs.Key.{Key}
use Rattle.reader.specs.Values.{Entry}
use Rattle.meaning.specs.Facts.Conditions.{Fine}
use Rattle.meaning.specs.Facts.Link.{Linked, stopped, joined, link_entries, normal_entries, joined_of, and_then}
use Rattle.meaning.proofs.Facts.Algebra as algebra
use Rattle.meaning.proofs.Facts.Algebra.{joined_exactly, stopped_exactly}
use Rattle.meaning.specs.Stock.Uses.{normal_length}
use Rattle.meaning.proofs.Stock.Grows.{normal_Grows}
use Rattle.joining.specs.Outcome.{encoded, after}
use Rattle.link.specs.Outcome.{linked_as, link_answer, link_buffer}
use Rattle.link.specs.Demand.{Means, Buffer, left_by, placeless, as_link, AsNormal, Writes, Refuses, Demand3}
use Rattle.link.proofs.Files.{accepted_Valid}
use Rattle.link.proofs.Answers.{answer_of, buffer_of, form_of, normal_answer, normal_buffer, link_answer_lem, link_buffer_lem, placeless_same, joined_same, buffer_same, as_normal_lem, normal_same, left_by_lem, left_then}

-- ---- two files

module _ (a b : List ℕ) (A B : List (Entry Key)) (out : List ℕ) (m : Means a A) (n : Means b B) (w : Buffer out) where
  abbrev linking : Linked
  linking = link_entries normal_length A B

  answer_of_lem : (r : Linked) → linking ≡ r → link_answer a b out ≡ answer_of r
  answer_of_lem r e = link_answer_lem a A m b B n out w ∙ ap answer_of e

  buffer_of_lem : (r : Linked) → linking ≡ r → link_buffer a b out ≡ buffer_of r out
  buffer_of_lem r e = link_buffer_lem a A m b B n out w ∙ ap (λ (q : Linked). buffer_of q out) e

  Fine-of : (U : List (Entry Key)) → linking ≡ joined U → Fine normal_length (A ++ B)
  Fine-of U e = ((joined_exactly normal_length A B (accepted_Valid b B n) U).0 e).0

  written : Fine normal_length (A ++ B) → Writes a b A B out
  unfolding encoded linked_as after
  written f = let e = (joined_exactly normal_length A B (accepted_Valid b B n) _).1 (f, refl) in record { answer = answer_of_lem _ e; buffer = buffer_of_lem _ e }

  only_Fine : (k : ℕ) → link_answer a b out ≡ Ok k → Fine normal_length (A ++ B)
  unfolding encoded linked_as
  only_Fine k h = go linking refl
    where
      go : (r : Linked) → linking ≡ r → Fine normal_length (A ++ B)
      go (stopped i q) e = let x : answer_of (stopped i q) ≡ Ok k = sym (answer_of_lem (stopped i q) e) ∙ h in absurd (let z : ◌≡◌ {A = ℕ} 0 1 = cc in omega arith)
      go (joined U) e = Fine-of U e

  refused : (Fine normal_length (A ++ B) → ⊥) → Refuses a b A B out
  unfolding encoded linked_as after
  refused f = go linking refl
    where
      go : (r : Linked) → linking ≡ r → Refuses a b A B out
      go (stopped i q) e = record {
        number = i;
        place = q;
        lowest = (stopped_exactly normal_length A B (accepted_Valid b B n) i q).0 e;
        answer = answer_of_lem (stopped i q) e;
        buffer = buffer_of_lem (stopped i q) e;
      }
      go (joined U) e = absurd (f (Fine-of U e))

  same_as_lem : (c : List ℕ) (C : List (Entry Key)) → Means c C → linking ≡ normal_entries normal_length C → AsNormal a b c out
  same_as_lem c C l e = record {
    answer = answer_of_lem _ e ∙ as_normal_lem _ ∙ sym (ap as_link (normal_answer c C l out w));
    buffer = buffer_of_lem _ e ∙ normal_same _ out ∙ sym (normal_buffer c C l out w);
  }

swapped : (a b : List ℕ) (A B : List (Entry Key)) (out other : List ℕ) → Means a A → Means b B → Buffer out → Buffer other
    → (placeless (link_answer a b out) ≡ placeless (link_answer b a other)) × (left_by a b out ≡ left_by b a other) × (link_buffer a b out ≡ link_buffer b a out)
swapped a b A B out other m n w v =
    let e = algebra.swapped normal_length A B (accepted_Valid a A m) (accepted_Valid b B n) in (
      ap placeless (link_answer_lem a A m b B n out w) ∙ placeless_same _ _ e ∙ sym (ap placeless (link_answer_lem b B n a A m other v)),
      left_by_lem a A m b B n out w ∙ ap form_of (joined_same _ _ e) ∙ sym (left_by_lem b B n a A m other v),
      link_buffer_lem a A m b B n out w ∙ buffer_same _ _ out e ∙ sym (link_buffer_lem b B n a A m out w),
    )

-- ---- three files

grouped : (a b c : List ℕ) (A B C : List (Entry Key)) (ab bc left right : List ℕ) → Means a A → Means b B → Means c C → Buffer ab → Buffer bc → Buffer left → Buffer right
    → and_then (left_by a b ab) (λ f. left_by f c left) ≡ and_then (left_by b c bc) (λ f. left_by a f right)
grouped a b c A B C ab bc left right l m n p q r s =
    left_then a A l b B m ab p (λ f. left_by f c left) (λ U. joined_of (link_entries normal_length U C)) (λ f U u. left_by_lem f U u c C n left r)
    ∙ ap form_of (algebra.grouped normal_length normal_Grows A B C (accepted_Valid a A l) (accepted_Valid b B m) (accepted_Valid c C n))
    ∙ sym (left_then b B m c C n bc q (λ f. left_by a f right) (λ U. joined_of (link_entries normal_length A U)) (λ f U u. left_by_lem a A l f U u right s))

-- ---- the demand

pub demand3 : Demand3
demand3 = record {
  writes = λ a b A B out m n w f. written a b A B out m n w f;
  only = λ a b A B out m n w k h. only_Fine a b A B out m n w k h;
  refuses = λ a b A B out m n w f. refused a b A B out m n w f;
  swapped = swapped;
  grouped = grouped;
  itself = λ a A out m w. same_as_lem a a A A out m m w a A m (algebra.itself normal_length A (accepted_Valid a A m));
  empties = λ a z A out m n w. (
    same_as_lem a z A [] out m n w a A m (algebra.with_empty normal_length A (accepted_Valid a A m)),
    same_as_lem z a [] A out n m w a A m (algebra.empty_with normal_length A (accepted_Valid a A m)),
  );
}
