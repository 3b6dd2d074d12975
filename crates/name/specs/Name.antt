-- Identifiers, and the pool pointers that lead to them.
-- Assumes nothing.
use Rattle.std.specs.Prelude.{Bool, false, List, [], ℕ, zero, suc, ◌+◌, ◌-◌, ◌<◌, length, get_or}
use Rattle.number.specs.Limits.{name_limit}
use Rattle.number.specs.Choice.{when◌then◌else◌, ◌<?◌, ◌≤?◌, ◌=?◌}
use Rattle.utf8.specs.Utf8.{lowest, highest, outside, off_second, off_tail, size_after, size_of, char_size}
use Rattle.reading.specs.Got.{Got, got, bad, next, field}
use Rattle.reading.specs.declared.Context.{Context}
use Rattle.key.specs.Word.{word_end, word_at}

-- The size of the character at p of s, or 0 where none stands that an identifier may hold; such characters are called letters here.
-- Bytes up to 0x20 and 0x7f are excluded, and stand in no character of several bytes.
unfoldable pub letter_size : List ℕ → ℕ → ℕ
letter_size s p =
    when get_or s p 0 ≤? 0x20 then 0 else
    when get_or s p 0 =? 0x7f then 0 else
    char_size s p

-- where the letters from p on end, at most f of them
unfoldable pub letters_end : ℕ → List ℕ → ℕ → ℕ
letters_end zero s p = p
letters_end (suc f) s p = when letter_size s p =? 0 then p else letters_end f s (p + letter_size s p)

-- n bytes of s from p on are letters of one byte
pub record Plain (s : List ℕ) (p n : ℕ) : Type 0 where
  pub each : (k : ℕ) → k < n → (0x20 < get_or s (p + k) 0) × (get_or s (p + k) 0 < 0x7f)

-- a lone `-`
unfoldable pub is_dash : List ℕ → Bool
is_dash w = when length w =? 1 then get_or w 0 0 =? 0x2d else false

-- Request #103, of the bytes before the zero byte: 1 to 255 of them, letters up to their end, and not a lone `-`. The rule is asked of all of them at once.
-- Whoever unfolds it unfolds the letters with it: no crate above names them.
unfoldable pub is_identifier : List ℕ → Bool
unfolding lowest highest outside off_second off_tail size_after size_of char_size letter_size letters_end is_dash
is_identifier w =
    when length w =? 0 then false else
    when name_limit <? length w then false else
    when is_dash w then false else
    letters_end (length w) w 0 =? length w

-- how far the end of an identifier at p is looked for: 256 bytes, or up to the end of s
unfoldable pub search_end : List ℕ → ℕ → ℕ
search_end s p = when (name_limit + 1) <? length s - p then p + (name_limit + 1) else length s

-- the identifier at p; a fault is that of the pointer field at `place`
unfoldable pub read_identifier : List ℕ → ℕ → ℕ → Got (List ℕ)
read_identifier s place p =
    when length s ≤? word_end s p then bad 11 place else
    when is_identifier (word_at s p) then got (word_at s p) (word_end s p + 1) else
    bad 11 place

-- Document 01, "Pool pointer": what the pointer q leads to, 1 being the pool's first byte, where an identifier must be present
unfoldable pub follow : List ℕ → ℕ → ℕ → Got (List ℕ)
follow s place q =
    when q =? 0 then bad 11 place else
    when length s <? q then bad 13 place else
    read_identifier s place (q - 1)

-- a namespace may be absent: the default, which has no bytes (nobody uses the end that is given here)
unfoldable pub follow_space : List ℕ → ℕ → ℕ → Got (List ℕ)
follow_space s place q = when q =? 0 then got [] 0 else follow s place q

-- a name pointer of four bytes in the pool, and the identifier it leads to
unfoldable pub read_name : Context → List ℕ → ℕ → Got (List ℕ)
read_name c s p =
    next (field 4 c s p) λ q e.
    next (follow s (c.base + p) q) λ w _.
    got w e
