-- Document 02, "The whole pile", as one claim over all lists of up to 256 accepted files and all contents of buffers of 1,048,576 bytes.
-- Assumes nothing.
use Rattle.link.specs.declared.LinkRefusal.{LinkRefusal}
use Rattle.std.specs.Prelude.{◌≡◌, ◌↔◌, List, [], ◌∷◌, ◌++◌, ℕ, ◌≤◌, length, Err, Ok, Result}
use Rattle.std.proofs.Math.Option.{some}
use Rattle.number.specs.Limits.{pile_limit}
use Rattle.reading.specs.Got.{got}
use Rattle.key.specs.Key.{Key}
use Rattle.reader.specs.Values.{Typelib, entries_in, Entry}
use Rattle.reader.specs.Records.{Bytes}
use Rattle.reader.specs.Rules.{All}
use Rattle.reader.specs.Reader.{decode}
use Rattle.meaning.specs.Facts.Facts.{In, Sub}
use Rattle.meaning.specs.Facts.Union.{union}
use Rattle.meaning.specs.Facts.Conditions.{Fine}
use Rattle.meaning.specs.Stock.Uses.{normal_length}
use Rattle.meaning.specs.Stock.Form.{normal_form}
use Rattle.keyed.specs.Stays.{Stays}
use Rattle.link.specs.Outcome.{link_answer, link_buffer}
use Rattle.link.specs.Demand.{Means, Buffer}
use Rattle.link.specs.Theorems.{FormOf}
use Rattle.pile.specs.declared.Added.{Added}
use Rattle.pile.specs.declared.Added.TheVariants.{Grown, Refused}
use Rattle.pile.specs.Pile.{empty_file, Turn, answer_in, second_in, piled, pile}

-- each file is accepted, and means what stands beside it
abbrev pub MeanAll : List (List ℕ) → List (List (Entry Key)) → Type 0
MeanAll [] [] = Unit {0}
MeanAll [] (A ∷ As) = ⊥
MeanAll (f ∷ fs) [] = ⊥
MeanAll (f ∷ fs) (A ∷ As) = Means f A × MeanAll fs As

-- the facts of all of them together
unfoldable pub said_by : List (List (Entry Key)) → List (Entry Key)
said_by [] = []
said_by (A ∷ As) = A ++ said_by As

-- a pile of accepted files, and its two buffers
pub record Laid (fs : List (List ℕ)) (As : List (List (Entry Key))) (one other : List ℕ) : Type 0 where
  pub means : MeanAll fs As
  pub few : length fs ≤ pile_limit
  pub first : Buffer one
  pub second : Buffer other

pub record Piles : Type 0 where
  -- A pile ends exactly when no condition of 21 to 26 holds of all its files' facts together, with the normal form of their union.
  pub ends : (fs : List (List ℕ)) (As : List (List (Entry Key))) (one other : List ℕ) → Laid fs As one other
      → (b : List ℕ) → (pile fs one other ≡ some b) ↔ (Fine normal_length (said_by As) × (b ≡ normal_form (union (said_by As))))
  -- What it leaves is an accepted file that means the union, and its own normal form.
  pub back : (fs : List (List ℕ)) (As : List (List (Entry Key))) (one other : List ℕ) → Laid fs As one other
      → (b : List ℕ) → pile fs one other ≡ some b → FormOf (union (said_by As)) b
  -- In any other order, with repeats added or dropped, and whatever the buffers hold, it ends exactly when it does, with the same bytes.
  pub free : (fs gs : List (List ℕ)) (As Bs : List (List (Entry Key))) (one other left right : List ℕ) → Laid fs As one other → Laid gs Bs left right
      → Sub fs gs → Sub gs fs → pile fs one other ≡ pile gs left right
  -- An answer given for one of the files stays given.
  pub stays : (fs : List (List ℕ)) (As : List (List (Entry Key))) (one other : List ℕ) → Laid fs As one other
      → (b : List ℕ) → pile fs one other ≡ some b → (f : List ℕ) → In f fs
      → (t u : Typelib) (d e : ℕ) → decode f ≡ got t d → decode b ≡ got u e → Stays (entries_in t) (entries_in u)

-- Only piles of accepted files end; that each file is bytes is in the contract of `add`.
abbrev pub PilesTaken : Type 0
PilesTaken = (fs : List (List ℕ)) (one other b : List ℕ) → All Bytes fs → pile fs one other ≡ some b → (As : List (List (Entry Key))) × MeanAll fs As

-- ---- one file and two, accepted or not

-- what the first link answers
unfoldable pub first_link : Result ℕ LinkRefusal → Added
first_link (Ok n) = Grown (record { files = 2; length = n })
first_link (Err x) = Refused (record { why = x; step = 1 })

-- the answer is that of linking a with b into `out`, and the second buffer is what the link makes of `out`
abbrev pub LinksTo : Turn → List ℕ → List ℕ → List ℕ → Type 0
LinksTo t a b out = (answer_in t ≡ first_link (link_answer a b out)) × (second_in t ≡ link_buffer a b out)

pub record AsLinks : Type 0 where
  -- Two files are answered as their link.
  pub two : (a b one other : List ℕ) → Buffer one → Buffer other → LinksTo (piled (a ∷ (b ∷ [])) one other) a b other
  -- A single one is linked with the empty typelib.
  pub single : (a one other : List ℕ) → Buffer one → Buffer other → LinksTo (piled (a ∷ []) one other) a empty_file other
