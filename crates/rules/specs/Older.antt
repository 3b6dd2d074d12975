-- Tags as they were while 1 was the newest minor, for the laws that #106 left files of minor 0 and 1 as they were (`older_class_lem`, `older_prefix` in proofs/Older).
-- Assumes nothing.
use Rattle.std.specs.Prelude.{◌≡◌, ℕ, ◌≤◌}
use Rattle.number.specs.Choice.{when◌then◌else◌, ◌≤?◌, ◌=?◌}
use Rattle.number.specs.Bits.{bit}
use Rattle.types.specs.Prefix.{pointer_bit, unique_bit, reference_bit, tag_of, astring_tag}
use Rattle.types.specs.declared.Class.{Class}
use Rattle.types.specs.declared.Class.TheVariants.{Reserved, Plain, Text, Interface, InterfaceIs, Array, Sized}

-- 23 to 31 are reserved, and with minor 0 tag 15
unfoldable pub older_class : ℕ → ℕ → Class
older_class minor tag =
    when tag ≤? 14 then Plain else
    when tag =? astring_tag then (when minor =? 0 then Reserved else Plain) else
    when tag ≤? 17 then Text else
    when tag =? 18 then Interface else
    when tag =? 19 then InterfaceIs else
    when tag =? 20 then Array else
    when tag ≤? 22 then Sized else
    Reserved

pub record OlderPrefixRule (minor b : ℕ) : Type 0 where
  pub known : tag_of b ≤ 22
  pub astring : tag_of b ≡ astring_tag → minor ≡ 0 → ⊥
  pub unique : bit unique_bit b ≡ 1 → pointer_bit ≤ b
  pub reference : bit reference_bit b ≡ 1 → pointer_bit ≤ b
  pub pointer : 16 ≤ tag_of b → pointer_bit ≤ b
