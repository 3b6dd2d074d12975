use Rattle.std.proofs.Common.{arith, refl, sym, ℕ, take}
use lib.Seq.{length-take-le}
use Rattle.number.proofs.Tools.{subst}
use Rattle.key.proofs.Orders.{same_word_lem}
use Rattle.ascii.specs.Ascii.{ascii}
use Rattle.input.specs.File.{FirstBytes}
use Rattle.check_file.proofs.run.Goals as goal

pub slice_bounds-report-end : goal.slice_bounds-report-end
slice_bounds-report-end c =
    let r = c.in-Ok.ensures (ascii "-") (same_word_lem (ascii "-") (ascii "-") refl) in
    sym (length-take-le c.in-Ok.n c.read_input.new.buf r.0)

pub report-requires : goal.report-requires
report-requires c =
    let r = c.in-Ok.ensures (ascii "-") (same_word_lem (ascii "-") (ascii "-") refl) in
    subst (λ (i : ℕ). FirstBytes (ascii "-") i (take c.in-Ok.n c.read_input.new.buf)) (omega (arith, c.told-buf)) r.1
