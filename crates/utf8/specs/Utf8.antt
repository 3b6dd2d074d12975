-- Characters in UTF-8: the table of RFC 3629, section 4, as a relation, and the test that the code follows.
-- Assumes nothing.
use Rattle.std.specs.Prelude.{◌≡◌, Bool, true, ◌⊎◌, List, ℕ, zero, suc, ◌+◌, ◌≤◌, ◌<◌, length, get_or}
use Rattle.number.specs.Choice.{when◌then◌else◌, ◌<?◌, ◌≤?◌, ◌=?◌}

-- ---- the table

-- UTF8-tail
abbrev pub Tail : ℕ → Type 0
Tail b = (0x80 ≤ b) × (b ≤ 0xbf)

-- the first two bytes of UTF8-2, UTF8-3 and UTF8-4
abbrev pub Two : ℕ → ℕ → Type 0
Two a b = (0xc2 ≤ a) × (a ≤ 0xdf) × Tail b

abbrev pub Three : ℕ → ℕ → Type 0
Three a b =
    ((a ≡ 0xe0) × (0xa0 ≤ b) × (b ≤ 0xbf))
    ⊎ (((0xe1 ≤ a) × (a ≤ 0xec) × Tail b)
    ⊎ (((a ≡ 0xed) × (0x80 ≤ b) × (b ≤ 0x9f))
    ⊎ ((0xee ≤ a) × (a ≤ 0xef) × Tail b)))

abbrev pub Four : ℕ → ℕ → Type 0
Four a b =
    ((a ≡ 0xf0) × (0x90 ≤ b) × (b ≤ 0xbf))
    ⊎ (((0xf1 ≤ a) × (a ≤ 0xf3) × Tail b)
    ⊎ ((a ≡ 0xf4) × (0x80 ≤ b) × (b ≤ 0x8f)))

-- UTF8-char: one stands at p of s and has k bytes; past the end of s stand zeros, which are no tails
pub data CharAt (s : List ℕ) (p k : ℕ) : Type 0 where
  one : k ≡ 1 → p < length s → get_or s p 0 ≤ 0x7f → CharAt s p k
  two : k ≡ 2 → Two (get_or s p 0) (get_or s (p + 1) 0) → CharAt s p k
  three : k ≡ 3 → Three (get_or s p 0) (get_or s (p + 1) 0) → Tail (get_or s (p + 2) 0) → CharAt s p k
  four : k ≡ 4 → Four (get_or s p 0) (get_or s (p + 1) 0) → Tail (get_or s (p + 2) 0) → Tail (get_or s (p + 3) 0) → CharAt s p k

-- n characters from p up to e
abbrev pub Chars : List ℕ → ℕ → ℕ → ℕ → Type 0
Chars s p zero e = p ≡ e
Chars s p (suc n) e = (k : ℕ) × CharAt s p k × Chars s (p + k) n e

-- UTF8-octets
abbrev pub WellFormed : List ℕ → Type 0
WellFormed w = (n : ℕ) × Chars w 0 n (length w)

-- ---- the test

-- the least and the greatest byte that may follow the first byte a
unfoldable pub lowest : ℕ → ℕ
lowest a =
    when a =? 0xe0 then 0xa0 else
    when a =? 0xf0 then 0x90 else
    0x80

unfoldable pub highest : ℕ → ℕ
highest a =
    when a =? 0xed then 0x9f else
    when a =? 0xf4 then 0x8f else
    0xbf

unfoldable pub outside : ℕ → ℕ → ℕ → Bool
outside l h b = when b <? l then true else h <? b

-- b does not follow the first byte a, and b is no tail
unfoldable pub off_second : ℕ → ℕ → Bool
off_second a b = outside (lowest a) (highest a) b

unfoldable pub off_tail : ℕ → Bool
off_tail b = outside 0x80 0xbf b

-- how many bytes a character has whose first byte is a; 0 where none starts so
unfoldable pub size_after : ℕ → ℕ
size_after a =
    when a <? 0x80 then 1 else
    when a <? 0xc2 then 0 else
    when a <? 0xe0 then 2 else
    when a <? 0xf0 then 3 else
    when a <? 0xf5 then 4 else
    0

-- the size of the character at p of s whose first byte calls for n bytes, or 0
unfoldable pub size_of : ℕ → List ℕ → ℕ → ℕ
size_of n s p =
    when n ≤? 1 then n else
    when off_second (get_or s p 0) (get_or s (p + 1) 0) then 0 else
    when n =? 2 then 2 else
    when off_tail (get_or s (p + 2) 0) then 0 else
    when n =? 3 then 3 else
    when off_tail (get_or s (p + 3) 0) then 0 else
    4

-- the size of the character at p of s, or 0 where none stands
unfoldable pub char_size : List ℕ → ℕ → ℕ
char_size s p = when length s ≤? p then 0 else size_of (size_after (get_or s p 0)) s p
