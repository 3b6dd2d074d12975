-- `adopt::adopt` meets its contract.
-- Assumes nothing.
use Rattle.number.proofs.Tools.{arith}
use Rattle.head.proofs.HeaderLaws.{header_read, header_refused}
use Rattle.genuine.proofs.Front.{read_Headed, refused_Headed}
use Rattle.adopt.proofs.Answers as answers
use Rattle.adopt.proofs.adopt.Goals as goal

pub adopt_headed-requires : goal.adopt_headed-requires
adopt_headed-requires c = read_Headed _ _ 32 (header_read c.args.file.now c.read_header.ensures c.in-Ok.is)

pub returns-then-why-ne8 : goal.returns-then-why-ne8
returns-then-why-ne8 c =
    let w = answers.whole_number c.args.file.now c.args.out.now c.in-Err.why (header_refused c.args.file.now c.read_header.ensures c.in-Err.is) (λ e. omega arith) in
    (w.0, w.1, record { small = λ i. omega (arith, c.type_inv.file i) })

pub returns-then-why-ne24 : goal.returns-then-why-ne24
returns-then-why-ne24 c =
    let w = answers.whole_place c.args.file.now c.args.out.now c.in-Err.why (header_refused c.args.file.now c.read_header.ensures c.in-Err.is) (omega arith) (λ e. omega arith) in
    (w.0, w.1, record { small = λ i. omega (arith, c.type_inv.file i) })

pub adopt_headed-requires-in-Err : goal.adopt_headed-requires-in-Err
adopt_headed-requires-in-Err c = refused_Headed _ c.in-Err.why (header_refused c.args.file.now c.read_header.ensures c.in-Err.is) (omega arith) (omega arith)

pub returns-in-Ok : goal.returns-in-Ok
returns-in-Ok c =
    let w = answers.whole_read c.args.file.now c.args.out.now _ 32 (header_read c.args.file.now c.read_header.ensures c.in-Ok.is) c.adopt_headed.ensures in
    (w.0, w.1, record { small = λ i. omega (arith, c.type_inv.file i) })

pub returns-else-why-ne24 : goal.returns-else-why-ne24
returns-else-why-ne24 c =
    let w = answers.whole_moved c.args.file.now c.args.out.now c.in-Err.why (header_refused c.args.file.now c.read_header.ensures c.in-Err.is) (omega arith) (omega arith) c.adopt_headed-in-Err.ensures in
    (w.0, w.1, record { small = λ i. omega (arith, c.type_inv.file i) })
