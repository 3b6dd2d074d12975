-- `gather::lead_held` meets its contract.
-- Assumes nothing.
use Rattle.number.proofs.Tools.{arith, ◌∙◌}
use Rattle.gather.proofs.Leads as laws
use Rattle.gather.proofs.lead_held.Goals as goal

pub returns-then-h-eq0 : goal.returns-then-h-eq0
returns-then-h-eq0 c = laws.held_zero _ _ _ (omega arith)

pub offset_bounds-own-h : goal.offset_bounds-own-h
offset_bounds-own-h c = omega (arith, c.requires.0.row)

pub bounds-own-h : goal.bounds-own-h
bounds-own-h c = omega (arith, c.requires.0.row)

pub lead-requires : goal.lead-requires
lead-requires c = laws.held_small _ _ c.requires.0 (λ e. omega arith)

pub returns : goal.returns
returns c = c.lead.ensures ∙ laws.held_row _ _ _ (λ e. omega arith)
