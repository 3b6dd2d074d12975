-- An IID as people write it: `00112233-4455-6677-8899-aabbccddeeff`, bare or in braces.
-- Assumes nothing.
use Rattle.std.specs.Prelude.{◌≡◌, Bool, false, List, ◌++◌, ℕ, length, get_or, take, drop}
use Rattle.number.specs.Choice.{when◌then◌else◌, ◌=?◌, ◌≠?◌}

-- 36 bytes with a hyphen at 8, 13, 18 and 23
unfoldable pub is_hyphened : List ℕ → Bool
is_hyphened w =
    when length w ≠? 36 then false else
    when get_or w 8 0 ≠? 45 then false else
    when get_or w 13 0 ≠? 45 then false else
    when get_or w 18 0 ≠? 45 then false else
    get_or w 23 0 =? 45

-- the 32 bytes of such a word that are not these hyphens
unfoldable pub unhyphened : List ℕ → List ℕ
unhyphened w = (((take 8 w ++ take 4 (drop 9 w)) ++ take 4 (drop 14 w)) ++ take 4 (drop 19 w)) ++ take 12 (drop 24 w)

-- 38 bytes, the first of them `{` and the last `}`
unfoldable pub is_braced : List ℕ → Bool
is_braced w =
    when length w ≠? 38 then false else
    when get_or w 0 0 ≠? 123 then false else
    get_or w 37 0 =? 125

-- what stands between the braces of such a word; any other word
unfoldable pub unbraced : List ℕ → List ℕ
unbraced w = when is_braced w then take 36 (drop 1 w) else w

-- what a word stands for: in either form its bytes without hyphens and braces, else itself
unfoldable pub plain_of : List ℕ → List ℕ
plain_of w = when is_hyphened (unbraced w) then unhyphened (unbraced w) else w

-- of a word with or without hyphens: whether it has them, and then its other bytes in place of those before
pub record Spells (w before : List ℕ) (r : Bool) (after : List ℕ) : Type 0 where
  pub told : r ≡ is_hyphened w
  pub bytes : after ≡ (when is_hyphened w then unhyphened w else before)
