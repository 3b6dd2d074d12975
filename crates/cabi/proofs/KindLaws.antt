-- Methods by the number of their kind, as methods by their kind.
-- Assumes nothing.
use Rattle.std.specs.Prelude.{Err, Ok}
use mathlib.Core.Path.{◌≡◌, refl}
use mathlib.Core.List.{List}
use Prim.Native.Nat.{ℕ, ◌<◌}
use native.Mathlib.Omega.{arith}
use Rattle.number.proofs.Choice.{is_eq, no_eq}
use Rattle.reading.specs.Got.{Got, got, bad}
use Rattle.reader.specs.Values.{Typelib}
use Rattle.reader.specs.Reader.{decode, check_of}
use Rattle.reader.specs.Reader.Laws.{accepted_decodes}
use Rattle.lookup.specs.declared.Kind.TheVariants.{Getter, Setter, Plain}
use Rattle.lookup.specs.Question.{refusal, malformed, ask_method}
use Rattle.cabi.specs.Kind.{kind_answer, ask_kind}

module _ (i : ℕ) (w : List ℕ) where
  pub getter : (g : Got Typelib) {k : ℕ} → k ≡ 0 → ask_method g i w Getter ≡ ask_kind g i w k
  unfolding ask_method ask_kind kind_answer
  getter (bad n q) e = refl
  getter (got t at) e = is_eq _ _ _ _ e refl

  pub setter : (g : Got Typelib) {k : ℕ} → k ≡ 1 → ask_method g i w Setter ≡ ask_kind g i w k
  unfolding ask_method ask_kind kind_answer
  setter (bad n q) e = refl
  setter (got t at) e = no_eq _ _ _ _ (λ z. omega arith) (is_eq _ _ _ _ e refl)

  pub plain : (g : Got Typelib) {k : ℕ} → k ≡ 2 → ask_method g i w Plain ≡ ask_kind g i w k
  unfolding ask_method ask_kind kind_answer
  plain (bad n q) e = refl
  plain (got t at) e = no_eq _ _ _ _ (λ z. omega arith) (no_eq _ _ _ _ (λ z. omega arith) (is_eq _ _ _ _ e refl))

  module _ (s : List ℕ) {k : ℕ} (l : 2 < k) where
    pub none_such : {n : ℕ} → check_of s ≡ Ok n → Err (record { no = 20; place = 0 }) ≡ ask_kind (decode s) i w k
    unfolding ask_kind kind_answer malformed refusal
    none_such a =
        let t = accepted_decodes s a in
        rw t.2 (no_eq _ _ _ _ (λ z. omega arith) (no_eq _ _ _ _ (λ z. omega arith) (no_eq _ _ _ _ (λ z. omega arith) refl)))
