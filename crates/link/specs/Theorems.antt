-- Theorems on what normalising and linking accepted files write. A file has a normal form unless normalising gives 26.
-- Assumes nothing.
use Rattle.std.specs.Prelude.{◌≡◌, ◌⊎◌, ◌↔◌, List, [], ◌++◌, ℕ, ◌≤◌, ◌<◌, length, get_or, take, Ok}
use Rattle.std.proofs.lemmas.List.Edits.{sets}
use Rattle.number.specs.Limits.{file_limit}
use Rattle.key.specs.Key.{Key}
use Rattle.reader.specs.Values.{Entry}
use Rattle.reader.specs.Records.{Bytes}
use Rattle.reader.specs.Reader.{decode, check_of}
use Rattle.meaning.specs.Index.{keys_of, index_of}
use Rattle.meaning.specs.Facts.Facts.{MeanSame, Within}
use Rattle.meaning.specs.Facts.Union.{union}
use Rattle.meaning.specs.Facts.Link.{Grows}
use Rattle.meaning.specs.Normal.Size.{plain_length}
use Rattle.meaning.specs.Normal.Minor.{Occurs}
use Rattle.meaning.specs.Normal.Normal.{plain_form}
use Rattle.meaning.specs.Stock.Uses.{words_of, always, normal_length}
use Rattle.meaning.specs.Stock.Pool.{pieces_of, plain_at, once_at}
use Rattle.meaning.specs.Stock.Form.{file_with, normal_form}
use Rattle.joining.specs.Outcome.{written}
use Rattle.link.specs.Outcome.{normal_of, normalise_answer, normalise_buffer, link_of, link_answer, link_buffer}
use Rattle.link.specs.Demand.{Means}

-- The length that 26 judges is that of the normal form.
abbrev pub SizedForms : Type 0
SizedForms = (us : List (Entry Key)) → length (normal_form us) ≡ normal_length us

-- b is an accepted file that means us, is no longer than a file may be, and is its own normal form
pub record FormOf (us : List (Entry Key)) (b : List ℕ) : Type 0 where
  pub means : Means b us
  pub short : length b ≤ file_limit
  pub own : normal_of (decode b) ≡ written b

-- The normal form of an accepted file reads back, with the same meaning.
pub record ReadsBack : Type 0 where
  pub form : (a b : List ℕ) (A : List (Entry Key)) → Means a A → normal_of (decode a) ≡ written b → FormOf (union A) b
  pub same : (a : List ℕ) (A : List (Entry Key)) → Means a A → MeanSame (union A) A

-- Two accepted files that both have a normal form have equal ones exactly when they mean the same.
abbrev pub SameForms : Type 0
SameForms = (a b x y : List ℕ) (A B : List (Entry Key)) → Means a A → Means b B → normal_of (decode a) ≡ written x → normal_of (decode b) ≡ written y → MeanSame A B ↔ (x ≡ y)

-- What a link of two accepted files writes reads back, with the union as its meaning.
abbrev pub LinksBack : Type 0
LinksBack = (a b c : List ℕ) (A B : List (Entry Key)) → Means a A → Means b B → link_of (decode a) (decode b) ≡ written c → FormOf (union (A ++ B)) c

-- Byte 17 of a normal form, its minor, is 2 exactly when one of the tags 23 to 25 occurs in what it is written for, else 1.
abbrev pub MinorForms : Type 0
MinorForms = (us : List (Entry Key)) → ((get_or (normal_form us) 17 0 ≡ 2) ↔ Occurs us) × ((get_or (normal_form us) 17 0 ≡ 1) ↔ (Occurs us → ⊥))

-- Of what normalising and linking accepted files write: exactly when one occurs in a descriptor of the file, or of one of the two.
pub record MinorWritten : Type 0 where
  pub normal : (a b : List ℕ) (A : List (Entry Key)) → Means a A → normal_of (decode a) ≡ written b → (get_or b 17 0 ≡ 2) ↔ Occurs A
  pub linked : (a b c : List ℕ) (A B : List (Entry Key)) → Means a A → Means b B → link_of (decode a) (decode b) ≡ written c → (get_or c 17 0 ≡ 2) ↔ (Occurs A ⊎ Occurs B)

-- ---- document 02, "Store each name once": the normal form beside document 01's plain one, which stores the name of every use

-- of an accepted file that means A
pub record Shortened (a : List ℕ) (A : List (Entry Key)) : Type 0 where
  pub exists : normal_of (decode a) ≡ written (normal_form (union A))
  pub shorter : length (normal_form (union A)) ≤ length (plain_form (union A))
  pub normal : Means (normal_form (union A)) (union A)
  pub plain : Means (plain_form (union A)) (union A)

pub record OnceForms : Type 0 where
  -- Where the plain form exists so does the normal form, which is never longer, and both are accepted files with the same meaning.
  pub exists : (a : List ℕ) (A : List (Entry Key)) → Means a A → plain_length (union A) ≤ file_limit → Shortened a A
  -- What is written of any entries, of a file's or of a union's, is never longer than their plain form.
  pub shorter : (us : List (Entry Key)) → length (normal_form us) ≤ length (plain_form us)
  pub sized : (us : List (Entry Key)) → length (plain_form us) ≡ plain_length us
  -- The plain form is the file that differs only in what is stored and where uses point.
  pub plain : (us : List (Entry Key)) → file_with (index_of (keys_of us)) (plain_at (pieces_of us)) always us ≡ plain_form us
  -- Two uses point to one place exactly when they are of one name.
  pub shared : (us : List (Entry Key)) (u v : ℕ) → u < length (words_of us) → v < length (words_of us)
      → (once_at (pieces_of us) u ≡ once_at (pieces_of us) v) ↔ (get_or (words_of us) u [] ≡ get_or (words_of us) v [])
  -- The length never shrinks when entries are added.
  pub grows : Grows normal_length

-- ---- the same of what the contracts cite: answers and buffers, whatever the buffers' lengths and contents

-- an accepted file means something
abbrev pub Meant : List ℕ → Type 0
Meant a = (A : List (Entry Key)) × Means a A

-- Only accepted files are answered so; that they are bytes is in the contracts.
pub record Taken : Type 0 where
  pub checked : (a : List ℕ) (n : ℕ) → Bytes a → check_of a ≡ Ok n → Meant a
  pub normal : (a out : List ℕ) (n : ℕ) → Bytes a → normalise_answer a out ≡ Ok n → Meant a
  pub both : (a b out : List ℕ) (n : ℕ) → Bytes a → Bytes b → link_answer a b out ≡ Ok n → Meant a × Meant b

-- b has n bytes, is an accepted file that means us, and normalising it, into any buffer with room for it, writes it as it is
pub record Left (us : List (Entry Key)) (n : ℕ) (b : List ℕ) : Type 0 where
  pub long : length b ≡ n
  pub form : FormOf us b
  pub again : (out : List ℕ) → n ≤ length out → (normalise_answer b out ≡ Ok n) × (normalise_buffer b out ≡ sets out 0 b)

-- Where normalising an accepted file answers n, the first n bytes of the buffer afterwards are an accepted file of the same meaning, its own normal form.
abbrev pub NormalisedBack : Type 0
NormalisedBack = (a out : List ℕ) (n : ℕ) (A : List (Entry Key)) → Means a A → normalise_answer a out ≡ Ok n
    → Left (union A) n (take n (normalise_buffer a out)) × MeanSame (union A) A

-- Two such are equal exactly when the files mean the same.
abbrev pub NormalisedSame : Type 0
NormalisedSame = (a b out other : List ℕ) (n k : ℕ) (A B : List (Entry Key)) → Means a A → Means b B
    → normalise_answer a out ≡ Ok n → normalise_answer b other ≡ Ok k
    → MeanSame A B ↔ (take n (normalise_buffer a out) ≡ take k (normalise_buffer b other))

-- Where linking two accepted files answers n, the first n bytes of the buffer afterwards are an accepted file that means their union, which says what the
-- two say together.
abbrev pub LinkedBack : Type 0
LinkedBack = (a b out : List ℕ) (n : ℕ) (A B : List (Entry Key)) → Means a A → Means b B → link_answer a b out ≡ Ok n
    → Left (union (A ++ B)) n (take n (link_buffer a b out)) × Within (union (A ++ B)) (A ++ B) × Within (A ++ B) (union (A ++ B))

-- Any two files so left, by normalising or linking, are equal exactly when they mean the same.
abbrev pub LeftSame : Type 0
LeftSame = (us vs : List (Entry Key)) (n k : ℕ) (b c : List ℕ) → Left us n b → Left vs k c → MeanSame us vs ↔ (b ≡ c)
