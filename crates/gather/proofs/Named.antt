-- A descriptor that obeys the rules has identifiers for names, and references that a table of places knows.
-- Assumes nothing.
use Prim.Native.Nat.{ℕ, ◌+◌, ◌≤◌}
use native.Mathlib.Omega.{arith}
use Rattle.number.specs.Limits.{row_limit}
use Rattle.reader.specs.Values.{Method, method, signature, method_name, Constant, constant, constant_name, Descriptor, descriptor}
use Rattle.reader.specs.Rules.{InDirectory, MethodRule, ConstantRule, DescriptorRule}
use Rattle.meaning.specs.Refs.{AllRefs}
use Rattle.meaning.proofs.Alls.{All-then}
use Rattle.meaning.proofs.Refs.{refs_then}
use Rattle.meaning.proofs.Normal.Apart.{refs_in}
use Rattle.writing.specs.Source.{InTable}
use Rattle.gather.specs.Words.{Named, NamedDescriptor}

method_Named : (minor n : ℕ) (m : Method ℕ) → MethodRule minor n m → Named method_name m
unfolding method_name
method_Named minor n (method f w (signature ps x)) r = r.1

constant_Named : (c : Constant) → ConstantRule c → Named constant_name c
unfolding constant_name
constant_Named (constant w k v) r = r.0

module _ (minor n : ℕ) where
  pub rule_named : (d : Descriptor ℕ) → DescriptorRule minor n d → NamedDescriptor d
  rule_named (descriptor up ms ks f) r =
      (All-then (MethodRule minor n) (Named method_name) (method_Named minor n) ms r.methods, All-then ConstantRule (Named constant_name) constant_Named ks r.constants)

  -- a table that has the n entries of the file after `shift` others
  pub rule_references : (shift : ℕ) → shift + n ≤ row_limit → (d : Descriptor ℕ) → DescriptorRule minor n d → AllRefs (InTable shift) d
  rule_references shift h d r = refs_then (InDirectory n) (InTable shift) (λ i a. (a.0, omega (arith, a.1))) d (refs_in minor n d r)
