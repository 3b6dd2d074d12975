-- The marked cases of types.rdb, as one table of what contracts cite.
-- Assumes nothing.
use Rattle.rdb_value.specs.declared.Value.{Value}
use Rattle.rdb.specs.declared.Entity.{Entity}
use Rattle.reading.specs.declared.Refusal.{Refusal}
use Rattle.std.specs.Prelude.{true, List, [], ◌∷◌, ℕ, negsuc, Err, None, Ok, Option, Result as Outcome, Some}
use Rattle.std.specs.Float.{binary32, binary64}
use Rattle.std.specs.Float.Ieee.{of_bits}
use Rattle.rdb_text.specs.declared.Text.{Text}
use Rattle.rdb_interface.specs.declared.SetCount.{SetCount}
use Rattle.rdb_interface.specs.declared.SetCount.TheVariants.{Always, UnlessReadOnly}
use Rattle.rdb_value.specs.declared.Value.TheVariants.{Boolean, Byte, Short, UnsignedShort, Long, UnsignedLong, Hyper, UnsignedHyper, Float, Double, FloatNan}
use Rattle.rdb_file.specs.File.{read_file, verdict_of}
use Rattle.rdb.specs.Questions.{ask_entity, ask_constant}
use Rattle.rdb_parts.specs.declared.Part.{Part}
use Rattle.rdb_parts.specs.declared.Part.TheVariants as parts
use Rattle.rdb_parts.specs.declared.Inner.{Inner}
use Rattle.rdb_parts.specs.declared.Inner.TheVariants as inners
use Rattle.rdb_parts.specs.declared.PartAnswer.{PartAnswer}
use Rattle.rdb_parts.specs.declared.PartAnswer.TheVariants as answers
use Rattle.rdb_parts.specs.Parts.{ask_part, ask_inner}
use Rattle.rdb_marked.specs.Files.{office, empty, short, wrong, newer, past, typedef, above, reserved, accent, twice, sixteen, seventeen, readonly, annotated, nan}

-- what is asked of a file
pub data Task : Type 0 where
  check : Task
  entity : List ℕ → Task
  constant : List ℕ → Task
  part : List ℕ → Part → ℕ → Task
  inner : List ℕ → Inner → ℕ → ℕ → Task

pub data Result : Type 0 where
  checked : Outcome ℕ Refusal → Result
  found : Outcome (Option Entity) Refusal → Result
  valued : Outcome (Option Value) Refusal → Result
  told : PartAnswer → Result

unfoldable pub result_of : SetCount → List ℕ → Task → Result
result_of m s check = checked (verdict_of (read_file m s))
result_of m s (entity path) = found (ask_entity (read_file m s) s path)
result_of m s (constant path) = valued (ask_constant (read_file m s) s path)
result_of m s (part path w i) = told (ask_part m (read_file m s) s path w i)
result_of m s (inner path w i j) = told (ask_inner m (read_file m s) s path w i j)

pub record Case : Type 0 where
  pub reading : SetCount
  pub file : List ℕ
  pub task : Task
  pub result : Result

-- refused with this number at this place
unfoldable pub at : ℕ → ℕ → Result
at n q = checked (Err (record { no = n; place = q }))

-- the check, by the reading of document 001
unfoldable pub checks : List ℕ → Result → Case
checks s r = record { reading = Always; file = s; task = check; result = r }

-- the entity at a path of `office`, as office suites write
unfoldable pub leads : List ℕ → Outcome (Option Entity) Refusal → Case
leads path a = record { reading = UnlessReadOnly; file = office; task = entity path; result = found a }

unfoldable pub kind_at : ℕ → ℕ → Outcome (Option Entity) Refusal
kind_at k o = Ok (Some (record { kind = k; offset = o }))

-- the constant t.C.x of `office`
unfoldable pub says : List ℕ → Outcome (Option Value) Refusal → Case
says x a = record { reading = UnlessReadOnly; file = office; task = constant (0x74 ∷ 0x2e ∷ 0x43 ∷ 0x2e ∷ x); result = valued a }

-- a part of the entity t.x of `office`
unfoldable pub has : ℕ → Part → ℕ → PartAnswer → Case
has x w i a = record { reading = UnlessReadOnly; file = office; task = part (0x74 ∷ 0x2e ∷ x ∷ []) w i; result = told a }

unfoldable pub holds : ℕ → Inner → ℕ → ℕ → PartAnswer → Case
holds x w i j a = record { reading = UnlessReadOnly; file = office; task = inner (0x74 ∷ 0x2e ∷ x ∷ []) w i j; result = told a }

-- the first part of a list of the entity x, or of a list of that one
unfoldable pub part_of : SetCount → List ℕ → ℕ → Part → PartAnswer → Case
part_of m s x w a = record { reading = m; file = s; task = part (x ∷ []) w 0; result = told a }

unfoldable pub inner_of : SetCount → List ℕ → ℕ → Inner → PartAnswer → Case
inner_of m s x w a = record { reading = m; file = s; task = inner (x ∷ []) w 0 0; result = told a }

unfoldable pub text : ℕ → ℕ → Text
text a n = record { at = a; len = n }

unfoldable pub table : List Case
table =
    checks empty (checked (Ok 0))
    ∷ checks short (at 31 0)
    ∷ checks wrong (at 31 0)
    ∷ checks newer (at 31 7)
    ∷ checks past (at 32 8)
    ∷ checks typedef (checked (Ok 1))
    ∷ checks above (at 33 23)
    ∷ checks reserved (at 34 18)
    ∷ checks accent (at 34 19)
    ∷ checks twice (at 35 27)
    ∷ checks sixteen (checked (Ok 17))
    ∷ checks seventeen (at 36 37)
    -- both readings accept this one; the number of set exceptions of the one is the number of methods of the other
    ∷ checks readonly (checked (Ok 1))
    ∷ record { reading = UnlessReadOnly; file = readonly; task = check; result = checked (Ok 1) }
    ∷ part_of Always readonly 0x61 parts.Attribute (answers.Typed (record { kind = 2; name = text 36 1; of = text 41 1 }))
    ∷ part_of UnlessReadOnly readonly 0x61 parts.Attribute (answers.Typed (record { kind = 2; name = text 36 1; of = text 41 1 }))
    ∷ inner_of Always readonly 0x61 inners.SetException (answers.Text (text 54 1))
    ∷ inner_of UnlessReadOnly readonly 0x61 inners.SetException answers.None
    ∷ part_of Always readonly 0x61 parts.Method answers.None
    ∷ part_of UnlessReadOnly readonly 0x61 parts.Method (answers.Method (record { name = text 54 1; result = text 59 0 }))
    ∷ checks office (at 32 370)
    ∷ record { reading = UnlessReadOnly; file = office; task = check; result = checked (Ok 14) }
    -- t, t.C, t.E, t.I; a constant is no entity; t.X is none, and so is the empty path, since no key is empty here
    ∷ leads (0x74 ∷ []) (kind_at 0 427)
    ∷ leads (0x74 ∷ 0x2e ∷ 0x43 ∷ []) (kind_at 7 160)
    ∷ leads (0x74 ∷ 0x2e ∷ 0x45 ∷ []) (kind_at 1 245)
    ∷ leads (0x74 ∷ 0x2e ∷ 0x49 ∷ []) (kind_at 5 277)
    ∷ leads (0x74 ∷ 0x2e ∷ 0x43 ∷ 0x2e ∷ 0x42 ∷ []) (Ok None)
    ∷ leads (0x74 ∷ 0x2e ∷ 0x58 ∷ []) (Ok None)
    ∷ leads [] (Ok None)
    -- B, D, F, H, L, S, UH, UL, US and Y; the low half of the DOUBLE is what the writer left there, a binary32 of -0.1: the bits are as stored
    ∷ says (0x42 ∷ []) (Ok (Some (Boolean true)))
    ∷ says (0x44 ∷ []) (Ok (Some (Double (of_bits binary64 0x41414141bdcccccd))))
    ∷ says (0x46 ∷ []) (Ok (Some (Float (of_bits binary32 0x3fc00000))))
    ∷ says (0x48 ∷ []) (Ok (Some (Hyper (negsuc 3))))
    ∷ says (0x4c ∷ []) (Ok (Some (Long (negsuc 2))))
    ∷ says (0x53 ∷ []) (Ok (Some (Short (negsuc 1))))
    ∷ says (0x55 ∷ 0x48 ∷ []) (Ok (Some (UnsignedHyper 5)))
    ∷ says (0x55 ∷ 0x4c ∷ []) (Ok (Some (UnsignedLong 4294967295)))
    ∷ says (0x55 ∷ 0x53 ∷ []) (Ok (Some (UnsignedShort 65535)))
    ∷ says (0x59 ∷ []) (Ok (Some (Byte (negsuc 0))))
    ∷ says (0x58 ∷ []) (Ok None)
    -- the third entry of t is t.I; the second constant of t.C is deprecated, the first is not
    ∷ record { reading = UnlessReadOnly; file = office; task = part (0x74 ∷ []) parts.Entry 2; result = told (answers.Entry (record { key = text 425 1; kind = 5; offset = 277 })) }
    ∷ has 0x43 parts.Entry 1 (answers.Entry (record { key = text 139 1; kind = 0x89; offset = 69 }))
    ∷ has 0x43 parts.Entry 10 answers.None
    ∷ has 0x43 parts.Note 0 answers.None
    ∷ holds 0x43 inners.EntryNote 1 0 (answers.Text (text 86 10))
    ∷ holds 0x43 inners.EntryNote 1 1 answers.None
    ∷ holds 0x43 inners.EntryNote 0 0 answers.None
    -- t.E has three members, and no bases
    ∷ has 0x45 parts.Member 1 (answers.Member (record { name = text 263 1; value = 7 }))
    ∷ has 0x45 parts.Member 3 answers.None
    ∷ has 0x45 parts.Base 0 answers.None
    -- the base of t.I, its attributes, the second with a type that is pointed to, its method and the parameters of that
    ∷ has 0x49 parts.Base 0 (answers.Text (text 286 27))
    ∷ has 0x49 parts.Optional 0 answers.None
    ∷ has 0x49 parts.Attribute 0 (answers.Typed (record { kind = 0; name = text 326 1; of = text 331 4 }))
    ∷ has 0x49 parts.Attribute 1 (answers.Typed (record { kind = 2; name = text 348 1; of = text 331 4 }))
    ∷ has 0x49 parts.Method 0 (answers.Method (record { name = text 365 1; result = text 370 4 }))
    ∷ holds 0x49 inners.Parameter 0 0 (answers.Typed (record { kind = 0; name = text 383 1; of = text 331 4 }))
    ∷ holds 0x49 inners.Parameter 0 2 (answers.Typed (record { kind = 2; name = text 409 1; of = text 414 3 }))
    ∷ holds 0x49 inners.Parameter 0 3 answers.None
    ∷ holds 0x49 inners.SetException 1 0 answers.None
    ∷ has 0x58 parts.Member 0 answers.None
    -- the check comes first
    ∷ record { reading = Always; file = office; task = part (0x74 ∷ []) parts.Entry 0; result = told (answers.Refused (record { no = 32; place = 370 })) }
    -- the parts that `office` has none of
    ∷ checks annotated (checked (Ok 2))
    ∷ part_of Always annotated 0x65 parts.Note (answers.Text (text 51 1))
    ∷ inner_of Always annotated 0x65 inners.MemberNote (answers.Text (text 42 1))
    ∷ part_of Always annotated 0x69 parts.Note (answers.Text (text 175 1))
    ∷ part_of Always annotated 0x69 parts.Optional (answers.Text (text 79 1))
    ∷ inner_of Always annotated 0x69 inners.BaseNote (answers.Text (text 70 1))
    ∷ inner_of Always annotated 0x69 inners.OptionalNote (answers.Text (text 88 1))
    ∷ inner_of Always annotated 0x69 inners.GetException (answers.Text (text 112 1))
    ∷ inner_of Always annotated 0x69 inners.SetException (answers.Text (text 121 1))
    ∷ inner_of Always annotated 0x69 inners.AttributeNote (answers.Text (text 130 1))
    ∷ inner_of Always annotated 0x69 inners.Exception (answers.Text (text 157 1))
    ∷ inner_of Always annotated 0x69 inners.MethodNote (answers.Text (text 166 1))
    -- a.n is a NaN, with the bits as stored
    ∷ record { reading = Always; file = nan; task = constant (0x61 ∷ 0x2e ∷ 0x6e ∷ []); result = valued (Ok (Some (FloatNan 0x7fa00001))) }
    ∷ []
