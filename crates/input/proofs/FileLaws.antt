-- Bytes that came into a part of a buffer; a file's first bytes in another room.
-- Assumes nothing.
use Rattle.std.specs.Prelude.{Err, Ok, Result, ℕ, ℤ}
use mathlib.Core.Path.{◌≡◌, sym, ap, subst, ◌∙◌}
use mathlib.Core.List.{List, ◌++◌}
use Prim.Native.Nat.{ℕ, ◌+◌, ◌≤◌, ◌<◌}
use native.Mathlib.Omega.{arith}
use lib.IntN.{ℤ}
use lib.ListN.{length, take, drop}
use lib.Seq.{sets, take-add, length-take-le, take-append_seam}
use Rattle.decimal.proofs.Stores.{front}
use Rattle.input.specs.Came.{CameIn}
use Rattle.input.specs.File.{StandsBehind, Comes, FirstBytes, ReadIn}

-- a part from `from` on was lent, and its first bytes are those that came
pub came_behind : (front rest : List ℕ) (from got : ℕ) → length front ≡ from → take (from + got) (front ++ rest) ≡ front ++ take got (drop from (front ++ rest))
came_behind front rest from got e =
    take-add from got (front ++ rest)
    ∙ ap (λ (z : List ℕ). z ++ take got (drop from (front ++ rest))) (rw (← e) (take-append_seam front rest))

-- bytes that were put at the front of a buffer
pub put_first : (buf bytes after : List ℕ) (n : ℕ) → length bytes ≤ length buf → n ≡ 0 + length bytes → after ≡ sets buf 0 bytes → take n after ≡ bytes
put_first buf bytes after n room long put =
    let e : n ≡ length bytes = omega arith in
    ap (λ (k : ℕ). take k after) e
    ∙ ap (take (length bytes)) put
    ∙ front buf bytes room

-- calls of `read` until the file ended or the buffer was full give its first bytes
pub read_first : (name : List ℕ) (fd : ℤ) (from : ℕ) (r : Result ℕ ℤ) (buf : List ℕ) → CameIn from (length buf) r → Comes name fd r buf → ReadIn name r buf
read_first name fd from (Ok n) buf h s =
    let e = length-take-le n buf h.1 in
    (h.1, record { within = subst (λ (k : ℕ). k ≤ length buf) (sym e) h.1; came = (fd, s.0); whole = λ g. s.1 (subst (λ (k : ℕ). k < length buf) e g) })
read_first name fd from (Err e) buf h s = s

-- a full buffer holds as many of its first bytes as there was room for
pub full_first : (name : List ℕ) (fd : ℤ) (bytes : List ℕ) → StandsBehind name fd bytes → FirstBytes name (length bytes) bytes
full_first name fd bytes s = record { within = omega arith; came = (fd, s); whole = λ h. absurd (omega arith) }

-- a file that ended is as whole in any other room that it fits
pub in_room_lem : (name bytes : List ℕ) (room other : ℕ) → FirstBytes name room bytes → length bytes < room → length bytes ≤ other → FirstBytes name other bytes
in_room_lem name bytes room other f h k = record { within = k; came = f.came; whole = λ _. f.whole h }
