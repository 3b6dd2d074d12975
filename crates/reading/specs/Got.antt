-- What reading a record gives: a value with the position after it, or a refusal's number with its place.
-- Assumes nothing.
use Rattle.reading.specs.declared.Refusal.{Refusal}
use Rattle.std.specs.Prelude.{◌≡◌, List, [], ◌∷◌, ℕ, zero, suc, ◌+◌, length, get_or, Err, Ok, Result}
use Rattle.number.specs.Choice.{when◌then◌else◌, ◌<?◌, ◌≤?◌}
use Rattle.number.specs.Number.{Endian, big, num}
use Rattle.reading.specs.declared.Context.{Context}

pub data Got (X : Type 0) : Type 0 where
  got : X → ℕ → Got X
  bad : ℕ → ℕ → Got X

-- the answer of a reader that keeps no value
unfoldable pub step_of : {X : Type 0} → Got X → Result ℕ Refusal
step_of (got x e) = Ok e
step_of (bad n q) = Err (record { no = n; place = q })

-- go on with what was read and its end, or pass the refusal up
unfoldable pub next : {X Y : Type 0} → Got X → (X → ℕ → Got Y) → Got Y
next (got x e) k = k x e
next (bad n q) k = bad n q

-- n records in turn
unfoldable pub many : {X : Type 0} → (ℕ → Got X) → ℕ → ℕ → Got (List X)
many rd zero p = got [] p
many rd (suc n) p =
    next (rd p) λ x e.
    next (many rd n e) λ xs e.
    got (x ∷ xs) e

-- a byte; where it isn't there, the refusal n at q
abbrev pub byte_or : ℕ → ℕ → List ℕ → ℕ → Got ℕ
byte_or n q s p = when length s ≤? p then bad n q else got (get_or s p 0) (p + 1)

-- a number of k bytes in the order o; where it doesn't fit, the refusal n at q
abbrev pub field_or : ℕ → ℕ → Endian → ℕ → List ℕ → ℕ → Got ℕ
field_or n q o k s p = when length s <? p + k then bad n q else got (num o k s p) (p + k)

-- a byte of the pool; where it isn't there, 13 at its place
unfoldable pub byte : Context → List ℕ → ℕ → Got ℕ
byte c s p = byte_or 13 (c.base + p) s p

-- a number of k bytes of the pool, the most significant first; where it doesn't fit, 13 at its first byte
unfoldable pub field : ℕ → Context → List ℕ → ℕ → Got ℕ
field k c s p = field_or 13 (c.base + p) big k s p

-- something was read
abbrev pub Accepted : {X : Type 0} → Got X → Type 0
Accepted {X} g = (x : X) × (e : ℕ) × (g ≡ got x e)
