use Rattle.std.proofs.Common.{arith, ◌≡◌, ◌+◌, length, Ok}
use borrow.Rule.Slice.PartMut.{mid_len}
use Rattle.number.specs.Limits.{file_most}
use Rattle.number.proofs.Tools.{subst}
use Rattle.input.specs.declared.Begun.{Begun}
use Rattle.input.specs.File.{number_of, Begins}
use Rattle.store.proofs.LoadLaws.{read_full, read_whole}
use Rattle.store.proofs.read_from.Goals as goal

pub returns-in-Full : goal.returns-in-Full
returns-in-Full c =
    let k = c.begin in
    let a = c.args in
    let l = mid_len a.from (a.from + file_most) a.store.now (omega arith) in
    let whole : length k.new.buf ≡ file_most = omega (arith, l, k.auto.buf) in
    let b = subst (λ (b : Begun). Begins a.name.now (Ok b) k.new.buf) c.in-Full.is c.in_ok-source.ensures in
    read_full a.name.now a.store.now k.new.buf a.from (omega arith) whole (number_of c.in-Full.source) b

pub returns-in-Whole : goal.returns-in-Whole
returns-in-Whole c =
    let k = c.begin in
    let a = c.args in
    let l = mid_len a.from (a.from + file_most) a.store.now (omega arith) in
    let whole : length k.new.buf ≡ file_most = omega (arith, l, k.auto.buf) in
    let b = subst (λ (b : Begun). Begins a.name.now (Ok b) k.new.buf) c.in-Whole.is c.in_ok-source.ensures in
    read_whole a.name.now a.store.now k.new.buf a.from (omega arith) whole c.in-Whole.n b.0 b.1
