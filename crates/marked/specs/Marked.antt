-- Document 01, "Marked cases": P1 to P14 and the listing of P3, as one table, of what contracts cite. `out` is the output buffer before, whatever it holds.
-- Assumes nothing.
use Rattle.link.specs.declared.LinkRefusal.{LinkRefusal}
use Rattle.reading.specs.declared.Refusal.{Refusal}
use Rattle.std.specs.Prelude.{List, [], ◌∷◌, ℕ, negsuc, Err, Ok, Result as Outcome}
use Rattle.std.proofs.lemmas.List.Edits.{sets}
use Rattle.reader.specs.Reader.{decode, check_of}
use Rattle.reader.specs.Reader.Marked.{P1, P2, P3, P4, P5, P6, P7, P8, P9, P10, P11, P13}
use Rattle.lookup.specs.declared.Search.{Search}
use Rattle.lookup.specs.declared.Search.TheVariants.{Found}
use Rattle.lookup.specs.declared.Value.{Value}
use Rattle.lookup.specs.declared.Value.TheVariants.{I16}
use Rattle.lookup.specs.Question.{ask_constant}
use Rattle.printed.specs.Listing.{printed_of}
use Rattle.printed.specs.Marked.{listed3}
use Rattle.link.specs.declared.Which.TheVariants.{Union}
use Rattle.link.specs.Outcome.{refusal_of, normalise_answer, normalise_buffer, link_answer, link_buffer}

-- what is done with which files
pub data Task : Type 0 where
  check : List ℕ → Task
  -- the constant of this name of the interface of this index
  constant : List ℕ → ℕ → List ℕ → Task
  list : List ℕ → Task
  normalise : List ℕ → Task
  link : List ℕ → List ℕ → Task

pub data Result : Type 0 where
  checked : Outcome ℕ Refusal → Result
  valued : Outcome (Search Value) Refusal → Result
  listed : List ℕ → Result
  -- the answer, and the output buffer afterwards
  normalised : Outcome ℕ Refusal → List ℕ → Result
  linked : Outcome ℕ LinkRefusal → List ℕ → Result

unfoldable pub result_of : List ℕ → Task → Result
result_of out (check s) = checked (check_of s)
result_of out (constant s i w) = valued (ask_constant (decode s) i w)
result_of out (list s) = listed (printed_of s)
result_of out (normalise s) = normalised (normalise_answer s out) (normalise_buffer s out)
result_of out (link a b) = linked (link_answer a b out) (link_buffer a b out)

pub record Case : Type 0 where
  pub task : Task
  pub result : Result

-- refused with this number at this place
unfoldable pub at : ℕ → ℕ → Result
at n q = checked (Err (record { no = n; place = q }))

unfoldable pub table : List ℕ → List Case
table out =
    record { task = check P1; result = checked (Ok 0) }
    ∷ record { task = check P2; result = checked (Ok 1) }
    ∷ record { task = check P3; result = checked (Ok 1) }
    -- P1 to P3 are each its own normal form: it is left at the buffer's front, and the rest of the buffer is as it was
    ∷ record { task = normalise P1; result = normalised (Ok 36) (sets out 0 P1) }
    ∷ record { task = normalise P2; result = normalised (Ok 69) (sets out 0 P2) }
    ∷ record { task = normalise P3; result = normalised (Ok 82) (sets out 0 P3) }
    ∷ record { task = check P4; result = at 29 20 }
    ∷ record { task = check P5; result = at 5 17 }
    ∷ record { task = check P6; result = at 1 31 }
    ∷ record { task = check P7; result = at 19 36 }
    ∷ record { task = check P8; result = at 15 66 }
    ∷ record { task = check P9; result = at 16 76 }
    ∷ record { task = check P10; result = at 14 79 }
    ∷ record { task = check P11; result = at 12 60 }
    -- P12
    ∷ record { task = link P1 P3; result = linked (Ok 82) (sets out 0 P3) }
    -- P13
    ∷ record { task = link P3 P13; result = linked (Err (refusal_of Union 23 1)) out }
    -- P14: constant K of P3 is signed 16-bit, -2
    ∷ record { task = constant P3 1 (0x4b ∷ []); result = valued (Ok (Found (I16 (negsuc 1)))) }
    ∷ record { task = list P3; result = listed listed3 }
    ∷ []
