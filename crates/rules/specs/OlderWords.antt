-- Names and texts as they were before #103, for the law that it left every file that was accepted as it was (`older_accepted` in proofs/OlderWords).
-- Assumes nothing.
use Rattle.std.specs.Prelude.{◌≡◌, ◌⊎◌, List, ℕ, ◌+◌, ◌≤◌, ◌<◌, length}
use Rattle.number.specs.Limits.{name_limit}
use Rattle.number.specs.Number.{be}
use Rattle.number.specs.Part.{part}
use Rattle.typelib.specs.Typelib.{Typelib}
use Rattle.rules.specs.Shows.{ShowsTypelibOf}
use Rattle.rules.specs.Rules.{All, TypelibRuleOf}

-- an ASCII letter, a digit or _
abbrev pub OlderLetter : ℕ → Type 0
OlderLetter b = ((48 ≤ b) × (b ≤ 57)) ⊎ (((65 ≤ b) × (b ≤ 90)) ⊎ ((b ≡ 95) ⊎ ((97 ≤ b) × (b ≤ 122))))

pub record OlderIdentifier (w : List ℕ) : Type 0 where
  pub some : 1 ≤ length w
  pub few : length w ≤ name_limit
  pub letters : All OlderLetter w

-- a text: the number of its bytes in 2 bytes, then these, each below 0x80
pub record OlderText (s : List ℕ) (p : ℕ) (x : List ℕ) (e : ℕ) : Type 0 where
  pub size : be 2 s p ≡ length x
  pub low : All (λ b. b < 0x80) x
  pub ends : e ≡ p + 2 + length x
  pub bytes : part s (p + 2) e ≡ x

-- the file was accepted with this value: today's rules but for names and texts
pub record OlderAccepted (s : List ℕ) (t : Typelib) : Type 0 where
  pub shows : ShowsTypelibOf OlderText s t
  pub obeys : TypelibRuleOf OlderIdentifier (length s) t
