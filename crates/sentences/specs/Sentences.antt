-- The rule that a refusal is of, in plain words, by the refusal's number; for 8, 16 and 20 by a second number, which is 0 where it is not known.
-- Assumes nothing.
use Rattle.std.specs.Prelude.{List, ℕ}
use Rattle.number.specs.Choice.{when◌then◌else◌, ◌<?◌, ◌=?◌}
use Rattle.ascii.specs.Ascii.{ascii}

-- of 8, by the rule (`position_rule` of the crate `broken`): where the directory and the pool may stand; 5 where the file is as libxpt writes it (`is_genuine` of `genuine`)
unfoldable pub position_text : ℕ → List ℕ
position_text rule =
    when rule =? 1 then ascii "the directory's offset is not a multiple of 4" else
    when rule =? 2 then ascii "the directory does not fit between the first annotation and the pool" else
    when rule =? 3 then ascii "the pool's offset is below 33 or past the file's end" else
    when rule =? 4 then ascii "there are no interfaces, but the directory's offset is not 0" else
    when rule =? 5 then ascii "libxpt wrote it so: its directory offset counts from 1; `xpt adopt FILE OUT` writes it in the published layout" else
    ascii "the offset of the pool or the directory does not fit the file"

-- of 16, by the rule: its number among the rules between fields, or 8 for a constant's type
unfoldable pub between_text : ℕ → List ℕ
between_text rule =
    when rule =? 1 then ascii "a type has unique or reference, or a tag from 16 to 25 (23 is utf8string, 24 cstring, 25 the further astring), without the pointer bit" else
    when rule =? 2 then ascii "an argument has retval without out" else
    when rule =? 3 then ascii "a result has in or out" else
    when rule =? 4 then ascii "an argument number does not name an argument of its kind: a pointer to nsIID for interface-is, a uint32 for a size or a length" else
    when rule =? 5 then ascii "a result without retval is not void or uint32, or has the pointer bit, and the method is not marked not-XPCOM" else
    when rule =? 6 then ascii "an interface has more than one constructor" else
    when rule =? 7 then ascii "a setter does not follow right after the getter of its name" else
    when rule =? 8 then ascii "the type of a constant is not 1, 2, 5 or 6" else
    ascii "a rule between fields is broken, or a constant's type is unknown"

-- of 20, by the word that is at fault: 1 the IID, 2 the namespace, 3 the name, 4 the index
unfoldable pub word_text : ℕ → List ℕ
word_text rule =
    when rule =? 1 then ascii "an IID has 32 hexadecimal digits and is not zero" else
    when rule =? 2 then ascii "the namespace is no identifier (1 to 255 bytes of UTF-8, no space or control byte, not - alone)" else
    when rule =? 3 then ascii "the name is no identifier (1 to 255 bytes of UTF-8, no space or control byte, not - alone)" else
    when rule =? 4 then ascii "an index runs from 1 to the number of interfaces" else
    ascii "the question is malformed: an IID has 32 digits and is not zero, a name is an identifier, an index runs from 1 to the number of interfaces"

-- 1 to 5, 7 and 8: the header
unfoldable pub header_text : ℕ → ℕ → List ℕ
header_text n rule =
    when n =? 1 then ascii "the file has fewer bytes than the 32 of a header" else
    when n =? 2 then ascii "the file has more than 1,048,576 bytes" else
    when n =? 3 then ascii "the file does not begin with the magic of a typelib" else
    when n =? 4 then ascii "the major version is not 1" else
    when n =? 5 then ascii "the minor version is not 0, 1 or 2" else
    when n =? 7 then ascii "there are more than 1,024 interfaces" else
    position_text rule

-- 9 to 14: annotations, the directory, pointers and reserved bits
unfoldable pub directory_text : ℕ → List ℕ
directory_text n =
    when n =? 9 then ascii "an annotation has an unknown tag, or a text that is not UTF-8 or does not fit, or none is marked last" else
    when n =? 10 then ascii "the IIDs fall, or one that is not zero stands twice" else
    when n =? 11 then ascii "a name is absent, or has no zero byte after it, or is no identifier (1 to 255 bytes of UTF-8, no space or control byte, not - alone)" else
    when n =? 12 then ascii "an interface has a descriptor but no IID" else
    when n =? 13 then ascii "a pointer leads out of the pool, or a field does not fit in it" else
    ascii "a reserved bit is set, or a type's tag is reserved (with minor 0 also function, dipper and astring; with 0 and 1 also 23 utf8string, 24 cstring and 25 the further astring)"

-- 15 to 20: descriptors, rules across entries, questions
unfoldable pub own_text : ℕ → ℕ → List ℕ
own_text n rule =
    when n =? 15 then ascii "an index names no interface of the directory" else
    when n =? 16 then between_text rule else
    when n =? 17 then ascii "there are more than 1,024 methods or constants, or more than eight arrays one inside another" else
    when n =? 18 then ascii "two interfaces have one namespace and name" else
    when n =? 19 then ascii "the parents of this interface run in a circle" else
    word_text rule

-- 21 to 27: links and outputs
unfoldable pub link_text : ℕ → List ℕ
link_text n =
    when n =? 21 then ascii "one namespace and name has two different IIDs" else
    when n =? 22 then ascii "one IID has two different namespaces or names" else
    when n =? 23 then ascii "one interface has two different descriptors" else
    when n =? 24 then ascii "in the union the parents of this interface run in a circle" else
    when n =? 25 then ascii "the union has more than 1,024 interfaces" else
    when n =? 26 then ascii "the output would have more than 1,048,576 bytes" else
    ascii "the output has room for fewer bytes than are needed"

-- 31 to 37: a types.rdb
unfoldable pub types_text : ℕ → List ℕ
types_text n =
    when n =? 31 then ascii "the file does not begin as a types.rdb does: UNOIDL, byte 255, version 0, and the offset and count of its root map" else
    when n =? 32 then ascii "an offset leads past the end of the file, or a field, a name or a text does not fit, or the length of a text that is pointed to has its top bit set" else
    when n =? 33 then ascii "what an entry leads to does not stand below the record or root map that holds the entry" else
    when n =? 34 then ascii "a kind or a value is reserved, or a name is not US-ASCII, or an annotation not UTF-8" else
    when n =? 35 then ascii "a key stands twice in one map" else
    when n =? 36 then ascii "more than 16 modules stand one inside another" else
    ascii "more than 65,536 entries are visited, each counted whenever its map is read"

-- all of them but 29 and 30, whose sentences have numbers of the file in them (crate `reasons`)
unfoldable pub sentence_text : ℕ → ℕ → List ℕ
sentence_text n rule =
    when n <? 9 then header_text n rule else
    when n <? 15 then directory_text n else
    when n <? 21 then own_text n rule else
    when n <? 31 then link_text n else
    types_text n
