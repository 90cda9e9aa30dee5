use Rattle.pm_state.proofs.PlannedLemmas.{is_change, is_refused}
use Rattle.pm_state.proofs.change.plan_change.Goals as goal

pub returns-in-Ok-change_of : goal.returns-in-Ok-change_of
returns-in-Ok-change_of c =
    let a = c.args in
    let answer = c.in-Ok.ensures.answer in
    let ready = c.in-Ok.ensures.ready in
    is_change a.inventory.now a.jobs.now a.closer.now a.moment a.side a.ask.now c.in-Ok.plan c.in-Ok-change_of.change answer.0 answer.1 ready.0 ready.1
    (rw c.id_of.ensures at c.in-Ok-change_of.ensures.planned) c.in-Ok-change_of.ensures.made

pub returns-in-Err : goal.returns-in-Err
returns-in-Err c = rw (c.refused.ensures, c.code.ensures) (is_refused c.args.inventory.now c.args.jobs.now c.args.moment c.args.side c.args.ask.now _ c.in-Err.e c.in-Err.ensures.answer)
