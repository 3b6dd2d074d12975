-- The claim on piles holds.
-- Assumes nothing.
use mathlib.Core.Path.{◌≡◌, refl, sym, ap, ◌∙◌}
use mathlib.Core.List.{List}
use mathlib.Core.Option.{some}
use Prim.Native.Nat.{ℕ}
use native.Mathlib.Omega.{arith}
use lib.ListN.{length}
use Rattle.reading.specs.Got.{got}
use Rattle.key.specs.Key.{Key}
use Rattle.reader.specs.Values.{Typelib, entries_in, Entry}
use Rattle.reader.specs.Reader.{decode}
use Rattle.meaning.specs.Meaning.{meaning}
use Rattle.meaning.specs.Facts.Facts.{In, Within}
use Rattle.meaning.specs.Facts.Union.{union}
use Rattle.meaning.specs.Facts.Valid.{Valid}
use Rattle.meaning.specs.Facts.Link.{joined, normal_entries}
use Rattle.meaning.proofs.Facts.Said.{Within-Sub, Within-through}
use Rattle.meaning.proofs.Facts.Algebra.{union_says, union_again, normal_exactly}
use Rattle.meaning.proofs.Facts.Links.{not_over}
use Rattle.meaning.specs.Stock.Uses.{normal_length}
use Rattle.meaning.proofs.Stock.Lengths.{length_normal}
use Rattle.keyed.specs.Stays.{Stays}
use Rattle.keyed.proofs.Stays.{file_Stays}
use Rattle.joining.specs.Outcome.{written, refusal, encoded}
use Rattle.link.specs.Demand.{Means}
use Rattle.link.specs.Theorems.{FormOf}
use Rattle.link.proofs.Files.{accepted_Valid, normal_of_lem, form_Means}
use Rattle.link.proofs.Unions.{Fine-Readable}
use Rattle.pile.specs.Pile.{pile}
use Rattle.pile.specs.Claim.{said_by, Laid, Piles}
use Rattle.pile.proofs.Piles.{all_Told, pile-Ended, file_In, Means-one, free}

module _ (fs : List (List ℕ)) (As : List (List (Entry Key))) (one other : List ℕ) (l : Laid fs As one other) (b : List ℕ) (h : pile fs one other ≡ some b) where
  means : Means b (union (said_by As))
  means =
      let x = (pile-Ended fs As one other l).reached b h in
      let t = all_Told fs As l.means in
      rw x.1 (form_Means (union (said_by As)) (Fine-Readable (said_by As) t.each t.closed x.0))

  form : FormOf (union (said_by As)) b
  unfolding encoded
  form =
      let x = (pile-Ended fs As one other l).reached b h in
      let U = union (said_by As) in
      let again : union U ≡ U = union_again (said_by As) x.0.agree in
      let short = not_over x.0.short in
      let j : normal_entries normal_length U ≡ joined U = (normal_exactly normal_length U U).1 ((λ g. omega (arith, g, short, ap normal_length again)), sym again) in
      record {
        means = means;
        short = omega (arith, short, ap length x.1, length_normal U);
        own = normal_of_lem b U means ∙ ap (encoded refusal) j ∙ ap (λ (c : List ℕ). written c) (sym x.1);
      }

  answers : (f : List ℕ) → In f fs → (t u : Typelib) (d e : ℕ) → decode f ≡ got t d → decode b ≡ got u e → Stays (entries_in t) (entries_in u)
  answers f i t u d e p q =
      let U = union (said_by As) in
      let x = (pile-Ended fs As one other l).reached b h in
      let a = file_In fs As l.means f i in
      let s : a.0 ≡ meaning (entries_in t) = Means-one f a.0 (meaning (entries_in t)) a.1 (record { bytes = a.1.bytes; typelib = t; end = d; decoded = p; meant = refl }) in
      let v : U ≡ meaning (entries_in u) = Means-one b U (meaning (entries_in u)) means (record { bytes = means.bytes; typelib = u; end = e; decoded = q; meant = refl }) in
      let w : Within a.0 U = Within-through (Within-Sub a.0 (said_by As) a.2) (union_says (said_by As) x.0.agree).1 in
      let z : Valid U = accepted_Valid b U means in
      file_Stays f b t u d e p q (rw (s, v) at w) (rw v at z)

pub piles : Piles
piles = record {
  ends = λ fs As one other l b. let x = pile-Ended fs As one other l in (x.reached b, (λ t. x.reaches t.0 ∙ ap (λ (c : List ℕ). some c) (sym t.1)));
  back = form;
  free = free;
  stays = answers;
}
