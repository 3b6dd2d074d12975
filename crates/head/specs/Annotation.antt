-- Document 01, "Annotations", with texts of request #103: refusal 9, at an annotation's first byte.
-- Assumes nothing.
use Rattle.std.specs.Prelude.{List, [], ◌∷◌, ℕ, zero, suc, ◌+◌, ◌%◌, get_or, take}
use Rattle.number.specs.Choice.{when◌then◌else◌, ◌<?◌, ◌≤?◌, ◌=?◌, ◌≠?◌}
use Rattle.number.specs.Number.{be}
use Rattle.number.specs.Part.{part}
use Rattle.utf8.specs.Utf8.{lowest, highest, outside, off_second, off_tail, size_after, size_of, char_size}
use Rattle.reading.specs.Got.{Got, got, bad, next, many}
use Rattle.head.specs.declared.Header.{Header}

-- tag 0 is empty; tag 1 has two texts
pub data Annotation : Type 0 where
  empty : Annotation
  texts : List ℕ → List ℕ → Annotation

-- a character of the annotation at `place`, wholly before the limit; what counts is its end
unfoldable pub read_char : ℕ → ℕ → List ℕ → ℕ → Got ℕ
read_char place limit s p = when char_size (take limit s) p =? 0 then bad 9 place else got p (p + char_size (take limit s) p)

-- A text of that annotation: a 2-byte length, and that many characters, whichever they are.
-- Whoever unfolds it unfolds the characters with it: no crate above names them.
unfoldable pub read_text : ℕ → ℕ → List ℕ → ℕ → Got (List ℕ)
unfolding lowest highest outside off_second off_tail size_after size_of char_size read_char
read_text place limit s p =
    when limit <? p + 2 then bad 9 place else
    next (many (read_char place limit s) (be 2 s p) (p + 2)) λ _ e.
    got (part s (p + 2) e) e

-- what follows an annotation's first byte
unfoldable pub read_body : ℕ → ℕ → List ℕ → ℕ → ℕ → Got Annotation
read_body place limit s tag p =
    when tag =? 0 then got empty p else
    when tag ≠? 1 then bad 9 place else
    next (read_text place limit s p) λ x e.
    next (read_text place limit s e) λ y e.
    got (texts x y) e

-- one annotation: top bit "last", 7 bits tag; one that would start at the limit is at fault
unfoldable pub read_annotation : ℕ → List ℕ → ℕ → Got Annotation
read_annotation limit s p = when limit ≤? p then bad 9 p else read_body p limit s (get_or s p 0 % 128) (p + 1)

-- those from p on, at most f of them, up to the first that is marked last; f is never used up
unfoldable pub annotations_within : ℕ → ℕ → List ℕ → ℕ → Got (List Annotation)
annotations_within zero limit s p = bad 9 p
annotations_within (suc f) limit s p =
    next (read_annotation limit s p) λ a e.
    when 128 ≤? get_or s p 0 then got (a ∷ []) e else
    next (annotations_within f limit s e) λ more e.
    got (a ∷ more) e

-- Annotations start at 32. Each takes a byte at least, so there are never more than `limit`.
unfoldable pub read_annotations : ℕ → List ℕ → Got (List Annotation)
read_annotations limit s = annotations_within limit limit s 32

-- they end at or before the directory, the pool when n = 0
unfoldable pub annotation_limit : Header → ℕ
annotation_limit h = when h.count =? 0 then h.pool else h.directory
