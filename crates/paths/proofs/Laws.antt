-- A byte 0 in a path, and the last byte behind it.
-- Assumes nothing.
use mathlib.Core.List.{List, [], ◌∷◌}
use lib.ListN.{set, length-take, replicate}
use lib.Seq.{sets, get_or-set_other, take-take, take_all}
use Prim.Native.Nat.{min}
use Rattle.std.specs.Prelude.{◌≡◌, ◌+◌, ◌≤◌}
use Rattle.number.proofs.Tools.{ℕ, sym, ◌∙◌, suc, arith, refl, length, get_or, take}
use Rattle.std.specs.Prelude.{Bool, true, false, nat_eq}
use Rattle.std.specs.List.{IsAnyAnswer}
use Rattle.number.specs.Choice.{◌=?◌}
use Rattle.number.proofs.Scans.{hits_some, some_no}
use Rattle.paths.specs.Path.{ended_of, is_zero_at, has_zero}

-- what std's search for a 0 answers
pub zero_found : (path : List ℕ) (r : Bool) → IsAnyAnswer (λ y b. nat_eq y 0 ≡ b) path r → r ≡ has_zero path
unfolding has_zero is_zero_at ◌=?◌
zero_found path true (k, l, h) = hits_some (is_zero_at path) (length path) k l (h 0)
zero_found path false h = sym (some_no (is_zero_at path) (length path) (λ j l. h j 0 (omega arith) l))

-- what stands behind the bytes that were stored
pub get_d_behind : (vs l : List ℕ) (i j d : ℕ) → i + length vs ≤ j → get_or (sets l i vs) j d ≡ get_or l j d
get_d_behind [] l i j d h = refl
get_d_behind (a ∷ vs) l i j d h = get_d_behind vs (set l i a) (suc i) j d (omega arith) ∙ get_or-set_other l i j a d (λ e. omega arith)

pub ended_last : (path : List ℕ) → get_or (ended_of path) 4095 1 ≡ 0
unfolding ended_of
ended_last path = get_d_behind (take 4095 path) (replicate 4096 0) 0 4095 1 (simp length-take (omega arith))

pub cut_path : (path : List ℕ) (n : ℕ) → n ≡ min (length path) 4095 → take n path ≡ take 4095 path
cut_path path n h = sym (take-take n 4095 path (omega arith)) ∙ take_all n (take 4095 path) (simp length-take (omega arith))

-- the whole of `ended`
pub ended_is : (zeros path all : List ℕ) (n : ℕ) → zeros ≡ replicate 4096 0 → n ≡ min (length path) 4095 → all ≡ sets zeros 0 (take n path) → all ≡ ended_of path
unfolding ended_of
ended_is zeros path all n z h e = e ∙ (rw (z, cut_path path n h))
