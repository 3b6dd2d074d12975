-- Demand 3, as one claim over all accepted files and all contents of buffers of 1,048,576 bytes.
-- Assumes nothing.
use Rattle.link.specs.declared.LinkRefusal.{LinkRefusal}
use Rattle.reading.specs.declared.Refusal.{Refusal}
use Rattle.std.specs.Prelude.{◌≡◌, List, [], ◌++◌, ℕ, length, take, Err, Ok, Result}
use Rattle.std.proofs.Math.Option.{Option, none, some}
use Rattle.std.proofs.lemmas.List.Edits.{sets}
use Rattle.number.specs.Limits.{file_limit}
use Rattle.reading.specs.Got.{got}
use Rattle.key.specs.Key.{Key}
use Rattle.reader.specs.Values.{Typelib, entries_in, Entry}
use Rattle.reader.specs.Records.{Bytes}
use Rattle.reader.specs.Reader.{decode}
use Rattle.meaning.specs.Meaning.{meaning}
use Rattle.meaning.specs.Facts.Union.{union}
use Rattle.meaning.specs.Facts.Conditions.{Fine}
use Rattle.meaning.specs.Facts.Link.{StoppedBy, and_then}
use Rattle.meaning.specs.Stock.Uses.{normal_length}
use Rattle.meaning.specs.Stock.Form.{normal_form}
use Rattle.link.specs.declared.Which.TheVariants.{Union}
use Rattle.link.specs.Outcome.{refusal_of, normalise_answer, normalise_buffer, link_answer, link_buffer}

-- the file a is accepted and means A
pub record Means (a : List ℕ) (A : List (Entry Key)) : Type 0 where
  pub bytes : Bytes a
  pub typelib : Typelib
  pub end : ℕ
  pub decoded : decode a ≡ got typelib end
  pub meant : A ≡ meaning (entries_in typelib)

-- an output buffer of 1,048,576 bytes, whatever it holds
abbrev pub Buffer : List ℕ → Type 0
Buffer out = length out ≡ file_limit

-- the file that a link left in its buffer: the bytes up to its length; none where it refused
unfoldable pub left_in : List ℕ → Result ℕ LinkRefusal → Option (List ℕ)
left_in out (Ok n) = some (take n out)
left_in out (Err x) = none

unfoldable pub left_by : List ℕ → List ℕ → List ℕ → Option (List ℕ)
left_by a b out = left_in (link_buffer a b out) (link_answer a b out)

-- an answer without its place
unfoldable pub placeless : Result ℕ LinkRefusal → Result ℕ LinkRefusal
placeless (Ok n) = Ok n
placeless (Err x) = Err (refusal_of x.which x.why.no 0)

-- the answer of normalising as that of a link
unfoldable pub as_link : Result ℕ Refusal → Result ℕ LinkRefusal
as_link (Ok n) = Ok n
as_link (Err x) = Err (record { which = Union; why = x })

-- linking gives the same answer and the same buffer as normalising
pub record AsNormal (a b c out : List ℕ) : Type 0 where
  pub answer : link_answer a b out ≡ as_link (normalise_answer c out)
  pub buffer : link_buffer a b out ≡ normalise_buffer c out

-- of two accepted files, and any buffer
module _ (a b : List ℕ) (A B : List (Entry Key)) (out : List ℕ) where
  -- the normal form of the union stands at the buffer's front, the rest is as it was, and the answer is its length
  pub record Writes : Type 0 where
    pub answer : link_answer a b out ≡ Ok (length (normal_form (union (A ++ B))))
    pub buffer : link_buffer a b out ≡ sets out 0 (normal_form (union (A ++ B)))

  -- the lowest of the numbers 21 to 26 whose condition holds, with its place, and nothing is written
  pub record Refuses : Type 0 where
    pub number : ℕ
    pub place : ℕ
    pub lowest : StoppedBy normal_length A (A ++ B) number place
    pub answer : link_answer a b out ≡ Err (refusal_of Union number place)
    pub buffer : link_buffer a b out ≡ out

pub record Demand3 : Type 0 where
  -- Linking two files writes the normal form of their union, and answers its length, exactly when no condition of refusals 21 to 26 holds.
  pub writes : (a b : List ℕ) (A B : List (Entry Key)) (out : List ℕ) → Means a A → Means b B → Buffer out → Fine normal_length (A ++ B) → Writes a b A B out
  pub only : (a b : List ℕ) (A B : List (Entry Key)) (out : List ℕ) → Means a A → Means b B → Buffer out → (n : ℕ) → link_answer a b out ≡ Ok n → Fine normal_length (A ++ B)
  -- Otherwise it gives the lowest of these numbers whose condition holds, with its place, and writes nothing.
  pub refuses : (a b : List ℕ) (A B : List (Entry Key)) (out : List ℕ) → Means a A → Means b B → Buffer out → (Fine normal_length (A ++ B) → ⊥) → Refuses a b A B out
  -- For every two files, swapping them changes neither the length, the written bytes nor the refusal number, whatever the two buffers hold.
  pub swapped : (a b : List ℕ) (A B : List (Entry Key)) (out other : List ℕ) → Means a A → Means b B → Buffer out → Buffer other
      → (placeless (link_answer a b out) ≡ placeless (link_answer b a other)) × (left_by a b out ≡ left_by b a other) × (link_buffer a b out ≡ link_buffer b a out)
  -- For every three files, both ways end without a refusal, with the same length and the same written bytes, or neither does. A second link gets the bytes
  -- that the first left in its buffer, and writes another buffer.
  pub grouped : (a b c : List ℕ) (A B C : List (Entry Key)) (ab bc left right : List ℕ) → Means a A → Means b B → Means c C
      → Buffer ab → Buffer bc → Buffer left → Buffer right
      → and_then (left_by a b ab) (λ f. left_by f c left) ≡ and_then (left_by b c bc) (λ f. left_by a f right)
  -- For every file, linking it with itself, or with an empty one in either order, gives the same answer and the same written bytes as normalising it.
  pub itself : (a : List ℕ) (A : List (Entry Key)) (out : List ℕ) → Means a A → Buffer out → AsNormal a a a out
  pub empties : (a z : List ℕ) (A : List (Entry Key)) (out : List ℕ) → Means a A → Means z [] → Buffer out → AsNormal a z a out × AsNormal z a a out
