use Rattle.std.proofs.Common.{true, refl, sym, subst, arith}
use Rattle.pm_history.specs.declared.entry.Entry.TheVariants.{Boot}
use Rattle.pm_history.specs.History.{Start, ◌▷◌, IsHistory}
use Rattle.pm_jobs.specs.State.{JobsState}
use Rattle.pm_jobs.specs.Stands.{Stands}
use Rattle.pm_state.specs.Closing.{ClosingStands}
use Rattle.pm_state.proofs.ClosingLemmas.{closing-same}
use Rattle.pm_state.proofs.closing.begun.Goals as goal

pub returns-clause-stands : goal.returns-clause-stands
returns-clause-stands c = λ current.
    let inventory = c.args.inventory.now in
    let jobs = c.args.jobs.now in
    let m = c.args.moment in
    let none = c.requires.none in
    let is : IsHistory (Start ▷ Boot m) = (tt, record { moment = c.requires.in_range; value = omega arith; later = omega arith; beside = λ no. absurd (cc (no)) }) in
    let stand = subst (λ (j : JobsState). ClosingStands inventory j Start c.in_ok-closing.closing) (sym none) c.in_ok-closing.ensures.stands in
    let stands : Stands inventory jobs Start = subst (λ (j : JobsState). Stands inventory j Start) (sym none)
    (record { of_jobs = record { listed = refl; each = tt }; of_monitors = record { listed = refl; each = tt } }) in
    let end = c.in_ok-ended.ensures.end Start stand stands is current in
    c.enact.ensures.stands inventory jobs Start true
    (closing-same inventory jobs Start c.in_ok-closing.closing c.end.new.self c.end.ensures.closer c.end.ensures.files c.end.ensures.notices stand) is end
