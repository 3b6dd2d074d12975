-- Document 01, what writing a union gives: a refusal, or the bytes that are written; and every byte of the output buffer.
-- Assumes nothing.
use Rattle.std.specs.Prelude.{List, ℕ, length, Err, Ok, Result}
use Rattle.std.proofs.lemmas.List.Edits.{sets}
use Rattle.number.specs.Choice.{when◌then◌else◌, ◌<?◌}
use Rattle.reading.specs.declared.Refusal.{Refusal}
use Rattle.meaning.specs.Facts.Link as facts
use Rattle.meaning.specs.Facts.Link.{stopped, joined}
use Rattle.meaning.specs.Stock.Form.{normal_form}

-- a refusal of kind X, or the bytes that are written
pub data Outcome (X : Type 0) : Type 0 where
  refused : X → Outcome X
  written : List ℕ → Outcome X

-- number and place
unfoldable pub refusal : ℕ → ℕ → Refusal
refusal n q = record { no = n; place = q }

-- the union as its normal form, where `stop` makes a refusal of number and place
unfoldable pub encoded : {X : Type 0} → (ℕ → ℕ → X) → facts.Linked → Outcome X
encoded stop (stopped n q) = refused (stop n q)
encoded stop (joined us) = written (normal_form us)

-- 27, output buffer too short: at the needed length
unfoldable pub in_room : {X : Type 0} → (ℕ → ℕ → X) → ℕ → Outcome X → Outcome X
in_room stop room (refused x) = refused x
in_room stop room (written bytes) = when room <? length bytes then refused (stop 27 (length bytes)) else written bytes

-- the output buffer afterwards: the bytes at its front, and the rest as it was; on a refusal all as it was
unfoldable pub after : {X : Type 0} → Outcome X → List ℕ → List ℕ
after (refused x) out = out
after (written bytes) out = sets out 0 bytes

-- the answer
unfoldable pub normalised_as : Outcome Refusal → Result ℕ Refusal
normalised_as (refused x) = Err x
normalised_as (written bytes) = Ok (length bytes)
