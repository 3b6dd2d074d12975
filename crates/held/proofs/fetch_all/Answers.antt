-- `held::fetch_all` meets its contract: no file, one, or two.
-- Assumes nothing.
use Rattle.number.proofs.Tools.{arith}
use Rattle.held.proofs.HeldLaws.{had_found, first_Held, none_Held}
use Rattle.held.proofs.fetch_all.Goals as goal

pub returns-then-n-eq0 : goal.returns-then-n-eq0
returns-then-n-eq0 c =
    rw (← c.task_of.ensures, ← c.files_of-n.ensures, c.if-n-eq0.true)
    (record { tidy = c.requires.0; held = none_Held _ _ _ _ })

pub fetch-asked-requires : goal.fetch-asked-requires
fetch-asked-requires c =
    let p = c.requires in
    (omega arith, (p.0, (omega (arith, p.1.0), omega (arith, p.1.1))))

pub returns-then-n-eq1 : goal.returns-then-n-eq1
returns-then-n-eq1 c =
    rw (← c.task_of.ensures, ← c.files_of-n.ensures)
    (record { tidy = c.fetch-asked.ensures.tidy; held = first_Held _ _ _ _ _ c.if-n-eq1.true c.first_wanting-wanting.result (had_found _ _ _ _ _ _ _ _ c.fetch-asked.ensures c.first_wanting-wanting.result c.first_wanting-wanting.ensures) })

pub fetch_next-requires : goal.fetch_next-requires
fetch_next-requires c =
    let p = c.requires in
    ((c.fetch-asked.ensures.tidy, (omega (arith, p.1.0, c.fetch-asked.ensures.few), omega (arith, p.1.1, c.fetch-asked.ensures.used))), had_found _ _ _ _ _ _ _ _ c.fetch-asked.ensures c.first_wanting-wanting.result c.first_wanting-wanting.ensures)

pub returns : goal.returns
returns c = c.fetch_next.ensures _
