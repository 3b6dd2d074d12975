-- Buffers that are left of an answer.
-- Assumes nothing.
use mathlib.Core.Path.{◌≡◌}
use mathlib.Core.Bool.{true, false}
use mathlib.Core.Logic.{◌⊎◌, inl, inr}
use mathlib.Core.List.{List}
use Prim.Native.Nat.{ℕ, ◌<◌}
use Rattle.number.proofs.Scans.{clash}
use Rattle.streamed.specs.declared.Stream.{Stream}
use Rattle.streamed.specs.Stream.{is_over, buffers}

-- where one was left, fewer are
pub fewer : (s : List ℕ) (x y : Stream) → is_over x ≡ false → (is_over x ≡ true) ⊎ (buffers s y < buffers s x) → buffers s y < buffers s x
fewer s x y e (inl t) = clash (is_over x) t e
fewer s x y e (inr h) = h
