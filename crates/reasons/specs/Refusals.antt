-- The line on standard error for a refusal: the file, the number, the place, the interface and the rule.
-- Assumes nothing.
use Rattle.std.specs.Prelude.{List, [], ◌++◌, ℕ, length}
use Rattle.number.specs.Choice.{when◌then◌else◌, ◌<?◌, ◌=?◌}
use Rattle.ascii.specs.Ascii.{ascii}
use Rattle.decimal.specs.Digits.{digits_of}
use Rattle.text.specs.Line.{newline}
use Rattle.reading.specs.declared.Refusal.{Refusal}
use Rattle.failures.specs.Shown.{shown_word}
use Rattle.sentences.specs.Sentences.{sentence_text}

-- bytes of a key: two identifiers and the dot between them
abbrev pub key_limit : ℕ
key_limit = 512

-- what the place counts: bytes of the file, entries of the first of two, or needed bytes; 20, 25 and 26 have none
unfoldable pub place_text : ℕ → ℕ → List ℕ
place_text n place =
    when n <? 20 then ascii " at byte " ++ digits_of place else
    when n =? 20 then [] else
    when n <? 25 then (ascii " at interface " ++ digits_of place) ++ ascii " of the first" else
    when n =? 27 then ascii " at the needed length " ++ digits_of place else
    when n <? 29 then [] else
    ascii " at byte " ++ digits_of place

-- the key of the interface, after the words before it; left out where it is not known
unfoldable pub key_text : List ℕ → List ℕ → List ℕ
key_text before key = when length key =? 0 then [] else before ++ shown_word key

-- `: refused NO`, the place and the key
unfoldable pub where_text : Refusal → List ℕ → List ℕ → List ℕ
where_text why before key = ((ascii ": refused " ++ digits_of why.no) ++ place_text why.no why.place) ++ key_text before key

-- that and the rule
unfoldable pub why_text : Refusal → ℕ → List ℕ → List ℕ → List ℕ
why_text why rule before key = ((where_text why before key ++ ascii ": ") ++ sentence_text why.no rule) ++ newline

-- the refusal of one file
unfoldable pub refused_text : List ℕ → Refusal → ℕ → List ℕ → List ℕ
refused_text name why rule key = (ascii "xpt: " ++ shown_word name) ++ why_text why rule (ascii ", in ") key

-- that of a question about it, by the word that is at fault
unfoldable pub asked_text : List ℕ → ℕ → List ℕ
asked_text name word = refused_text name (record { no = 20; place = 0 }) word []

-- that of the union of two files; a key is that of an interface of the first
unfoldable pub united_text : List ℕ → List ℕ → Refusal → List ℕ → List ℕ
united_text first second why key = (((ascii "xpt: " ++ shown_word first) ++ ascii " with ") ++ shown_word second) ++ why_text why 0 (ascii ", ") key
