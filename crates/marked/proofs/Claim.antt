-- The marked cases hold, all of them by one claim, over every output buffer with room for the longest of their files, the 82 bytes of P3.
-- Assumes nothing.
use Rattle.reading.specs.declared.Refusal.{Refusal}
use Rattle.std.specs.Prelude.{Ok, Result, ℕ}
use mathlib.Core.Path.{◌≡◌, ap}
use mathlib.Core.List.{List, [], ◌∷◌, map}
use Prim.Native.Nat.{ℕ, ◌≤◌}
use native.Mathlib.Omega.{arith}
use lib.ListN.{length, get_or}
use Rattle.reader.specs.Reader.{check_of}
use Rattle.reader.specs.Reader.Marked as reader
use Rattle.lookup.proofs.Answers.{P14}
use Rattle.printed.proofs.Examples.{prints3}
use Rattle.link.proofs.Marked.{normalises1, normalises2, normalises3, links12, links13}
use Rattle.marked.specs.Marked.{checked, valued, listed, normalised, linked, result_of, Case, at, table}

-- the reader's verdict on the file in row k of its table
verdict : (k : ℕ) → get_or (map (λ (c : reader.Case). check_of c.file) reader.table) k (Ok 0) ≡ get_or reader.verdicts k (Ok 0)
verdict k = ap (λ (vs : List (Result ℕ Refusal)). get_or vs k (Ok 0)) reader.answers

pub claim : (out : List ℕ) → 82 ≤ length out → map (λ (c : Case). result_of out c.task) (table out) ≡ map (λ (c : Case). c.result) (table out)
unfolding table result_of at reader.table reader.verdicts
claim out room =
    let n1 = normalises1 out (omega arith) in
    let n2 = normalises2 out (omega arith) in
    let n3 = normalises3 out room in
    let l12 = links12 out room in
    let l13 = links13 out in
    λ i.
    checked (verdict 0 i)
    ∷ checked (verdict 1 i)
    ∷ checked (verdict 2 i)
    ∷ normalised (n1.0 i) (n1.1 i)
    ∷ normalised (n2.0 i) (n2.1 i)
    ∷ normalised (n3.0 i) (n3.1 i)
    ∷ checked (verdict 3 i)
    ∷ checked (verdict 4 i)
    ∷ checked (verdict 5 i)
    ∷ checked (verdict 6 i)
    ∷ checked (verdict 7 i)
    ∷ checked (verdict 8 i)
    ∷ checked (verdict 9 i)
    ∷ checked (verdict 10 i)
    ∷ linked (l12.0 i) (l12.1 i)
    ∷ linked (l13.0 i) (l13.1 i)
    ∷ valued (P14 i)
    ∷ listed (prints3 i)
    ∷ []
