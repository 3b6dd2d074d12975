-- Why a call of the system failed, in words, by the number that it gave (errno).
-- Assumes nothing.
use Rattle.std.specs.Prelude.{List, ◌++◌, ℕ}
use Rattle.number.specs.Choice.{when◌then◌else◌, ◌=?◌}
use Rattle.ascii.specs.Ascii.{ascii}
use Rattle.decimal.specs.Digits.{digits_of}

-- 36 and above, and all numbers that have no words
unfoldable pub rare_text : ℕ → List ℕ
rare_text n =
    when n =? 36 then ascii "the name is too long" else
    when n =? 39 then ascii "the folder is not empty" else
    when n =? 40 then ascii "symbolic links lead in a circle" else
    when n =? 75 then ascii "the file is too large to be opened" else
    when n =? 116 then ascii "the file is gone from its server" else
    when n =? 122 then ascii "the disk quota is used up" else
    ascii "the system gives error " ++ digits_of n

-- 22 to 30, and those
unfoldable pub full_text : ℕ → List ℕ
full_text n =
    when n =? 22 then ascii "the system does not take this request" else
    when n =? 23 then ascii "the system has too many files open" else
    when n =? 24 then ascii "the program has too many files open" else
    when n =? 26 then ascii "it is a program that runs" else
    when n =? 27 then ascii "the file would be too large" else
    when n =? 28 then ascii "no space is left" else
    when n =? 30 then ascii "the file system is read-only" else
    rare_text n

-- 12 to 21, and those
unfoldable pub path_text : ℕ → List ℕ
path_text n =
    when n =? 12 then ascii "memory is used up" else
    when n =? 13 then ascii "permission denied" else
    when n =? 16 then ascii "it is in use" else
    when n =? 17 then ascii "it is there already" else
    when n =? 18 then ascii "it lies in another file system" else
    when n =? 20 then ascii "a part of the path is not a folder" else
    when n =? 21 then ascii "it is a folder" else
    full_text n

-- all of them
unfoldable pub reason_text : ℕ → List ℕ
reason_text n =
    when n =? 1 then ascii "the system does not permit it" else
    when n =? 2 then ascii "there is no such file or folder" else
    when n =? 4 then ascii "a signal broke in" else
    when n =? 5 then ascii "the disk or device failed" else
    when n =? 6 then ascii "there is no such device" else
    when n =? 9 then ascii "it is not open for this" else
    when n =? 11 then ascii "it is not ready" else
    path_text n
