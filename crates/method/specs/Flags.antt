-- Document 01, "Method" and "Parameter": their flags. Hidden, 0x08 of a method, and shared, 0x10 of a parameter, have no rule.
-- Assumes nothing.
use Rattle.std.specs.Prelude.{ℕ}

-- ---- of a method

abbrev pub getter_bit : ℕ
getter_bit = 0x80

abbrev pub setter_bit : ℕ
setter_bit = 0x40

abbrev pub not_xpcom_bit : ℕ
not_xpcom_bit = 0x20

abbrev pub constructor_bit : ℕ
constructor_bit = 0x10

-- ---- of a parameter

abbrev pub in_bit : ℕ
in_bit = 0x80

abbrev pub out_bit : ℕ
out_bit = 0x40

abbrev pub retval_bit : ℕ
retval_bit = 0x20

abbrev pub dipper_bit : ℕ
dipper_bit = 0x08

-- the lowest bit that is not reserved, in both
abbrev pub lowest_flag : ℕ
lowest_flag = 0x08
