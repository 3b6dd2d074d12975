-- Document 001, the kind byte of a payload in the root or a module Map.
-- Assumes nothing.
use Rattle.std.specs.Prelude.{Bool, true, false, not, ℕ}
use Rattle.number.specs.Bits.{bit, bits_below}
use Rattle.number.specs.Choice.{when◌then◌else◌, ◌<?◌, ◌=?◌}

-- 0x40 bit: 1 if annotated
unfoldable pub is_annotated : ℕ → Bool
is_annotated k = bit 0x40 k =? 1

-- the remaining bits, below 0x20
abbrev pub kind_of : ℕ → ℕ
kind_of k = bits_below 0x20 k

-- 0, without flags: a module
abbrev pub module_kind : ℕ
module_kind = 0

abbrev pub enum_kind : ℕ
enum_kind = 1

abbrev pub struct_kind : ℕ
struct_kind = 2

abbrev pub exception_kind : ℕ
exception_kind = 4

abbrev pub interface_kind : ℕ
interface_kind = 5

-- a constant group
abbrev pub group_kind : ℕ
group_kind = 7

-- a service with one interface
abbrev pub service_kind : ℕ
service_kind = 8

-- the last kind, a singleton with a service
abbrev pub last_kind : ℕ
last_kind = 11

-- the kinds for which 0x20 may be 1: structs and exceptions with base, services with a default constructor
unfoldable pub may_flag : ℕ → Bool
may_flag k =
    when kind_of k =? struct_kind then true else
    when kind_of k =? exception_kind then true else
    kind_of k =? service_kind

-- 0 is a module; otherwise the kind is 1 to 11, and the flag 0x20 is 1 for certain kinds alone
unfoldable pub is_reserved : ℕ → Bool
is_reserved k =
    when k =? module_kind then false else
    when kind_of k =? module_kind then true else
    when last_kind <? kind_of k then true else
    when bit 0x20 k =? 1 then not (may_flag k) else
    false
