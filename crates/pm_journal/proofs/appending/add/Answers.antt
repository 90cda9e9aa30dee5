use Rattle.std.proofs.Common.{◌++◌, [], ◌∷◌, ◌∙◌, ap, arith}
use Rattle.pm_disk.proofs.MomentLemmas.{at_end, run_on, weaken}
use Rattle.pm_disk.specs.Area.{AreaState}
use Rattle.pm_journal.proofs.AppendingLemmas.{either_staging, either_opening, staged_from, stored_is}
use Rattle.pm_journal.proofs.appending.add.Goals as goal

pub returns-in_err-stage-clause-any_moment : goal.returns-in_err-stage-clause-any_moment
returns-in_err-stage-clause-any_moment g c = λ told items fits end gate_is.
    weaken _ _ _ _ (λ state at. either_staging c.args.area _ _ state items (items ++ c.args.bytes.now ∷ []) fits end (omega (arith, c.requires.small)) at) (c.stage.ensures.any_moment told)

pub returns-clause-stored : goal.returns-clause-stored
returns-clause-stored g c = λ told items end gate_is.
    let item = c.args.bytes.now in
    let seen_is = ap (λ (a : AreaState). a.seen) (c.in_ok-stage.ensures.staged told) ∙ staged_from _ item items end in
    stored_is c.args.gate end.gate _ items item _ c.open_gate.result gate_is seen_is (c.open_gate.ensures.opened told)

pub returns-clause-any_moment : goal.returns-clause-any_moment
returns-clause-any_moment g c = λ told items fits end gate_is.
    let item = c.args.bytes.now in
    let after = items ++ item ∷ [] in
    let seen_is = ap (λ (a : AreaState). a.seen) (c.in_ok-stage.ensures.staged told) ∙ staged_from _ item items end in
    let first = c.stage.ensures.any_moment told in
    let that_is = (at_end _ _ _ first).that in
    run_on _ _ _ _ (weaken _ _ _ _ (λ state at. either_staging c.args.area _ _ state items after fits end (omega (arith, c.requires.small)) at) first)
    (weaken _ _ _ _ (λ state at. either_opening c.args.area c.args.gate end.gate _ _ state items item fits c.requires.small gate_is seen_is that_is at) (c.open_gate.ensures.any_moment told))
