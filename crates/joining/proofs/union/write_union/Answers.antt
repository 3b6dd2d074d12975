-- `joining::union::write_union` meets its contract.
-- Assumes nothing.
use Rattle.joining.proofs.Writes as writes
use Rattle.joining.proofs.Stops.{stops}
use Rattle.number.proofs.Tools.{arith}
use Rattle.joining.proofs.union.write_union.Goals as goal

pub returns-then-c-gt-ENTRY_LIMIT : goal.returns-then-c-gt-ENTRY_LIMIT
returns-then-c-gt-ENTRY_LIMIT c = stops 25 0 _ (cc) (writes.stop_25 _ _ _ _ _ _ _ _ _ _ _ _ c.requires.1 (omega arith))

pub lead_view-requires : goal.lead_view-requires
lead_view-requires c =
    let p = c.requires in
    (writes.Given-whole _ _ _ _ _ _ p.0, (writes.viewed _ _ _ _ _ _ _ _ _ _ _ _ p.1 p.0 (omega arith), (p.2, (p.3, (omega arith, (omega arith, omega arith))))))

pub view_minor-minor-requires : goal.view_minor-minor-requires
view_minor-minor-requires c =
    let p = c.requires in
    (p.0, writes.viewed _ _ _ _ _ _ _ _ _ _ _ _ p.1 p.0 c.if-c-gt-ENTRY_LIMIT.false, p.2, p.3)

pub put_file-requires : goal.put_file-requires
put_file-requires c =
    let p = c.requires in
    let few = c.if-c-gt-ENTRY_LIMIT.false in
    let l = c.lead_view.ensures.0 in
    let m = c.view_minor-minor.ensures in
    (record { value = _; shown = writes.ready _ _ _ _ _ _ _ _ _ _ _ _ p.1 few _ _ _ _ l m p.0.value p.0.shown }, (c.lead_view.ensures.1.0, p.6))

pub returns-in-Err-Long : goal.returns-in-Err-Long
returns-in-Err-Long c =
    let p = c.requires in
    let few = c.if-c-gt-ENTRY_LIMIT.false in
    let l = c.lead_view.ensures.0 in
    let m = c.view_minor-minor.ensures in
    writes.ends_26 _ _ _ _ _ _ _ _ _ _ _ _ p.1 few _ _ c.put_file.result (λ x h. c.put_file.ensures _ (writes.ready _ _ _ _ _ _ _ _ _ _ _ _ p.1 few _ _ _ _ l m x h)) (cc) (cc)

pub returns-in-Err-Short : goal.returns-in-Err-Short
returns-in-Err-Short c =
    let p = c.requires in
    let few = c.if-c-gt-ENTRY_LIMIT.false in
    let l = c.lead_view.ensures.0 in
    let m = c.view_minor-minor.ensures in
    writes.ends_27 _ _ _ _ _ _ _ _ _ _ _ _ p.1 few _ _ c.put_file.result (λ x h. c.put_file.ensures _ (writes.ready _ _ _ _ _ _ _ _ _ _ _ _ p.1 few _ _ _ _ l m x h)) c.in-Err-Short.size (cc) (cc)

pub returns-in-Ok : goal.returns-in-Ok
returns-in-Ok c =
    let p = c.requires in
    let few = c.if-c-gt-ENTRY_LIMIT.false in
    let l = c.lead_view.ensures.0 in
    let m = c.view_minor-minor.ensures in
    writes.ends_written _ _ _ _ _ _ _ _ _ _ _ _ p.1 few _ _ c.put_file.result (λ x h. c.put_file.ensures _ (writes.ready _ _ _ _ _ _ _ _ _ _ _ _ p.1 few _ _ _ _ l m x h)) _ c.in-Ok.is
