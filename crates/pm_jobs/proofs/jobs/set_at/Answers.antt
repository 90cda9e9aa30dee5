use Rattle.std.proofs.Common.{◌∙◌, ap, set}
use Rattle.pm_jobs.specs.declared.standing.Standing.{Standing}
use Rattle.pm_jobs.specs.Plan.{with_state}
use Rattle.pm_jobs.proofs.ItemLemmas.{set-moved_at}
use Rattle.pm_jobs.proofs.jobs.set_at.Goals as goal

pub returns-in-Some : goal.returns-in-Some
returns-in-Some c =
    let a = c.args in
    let items = a.items.now.items in
    let item = c.in-Some.ensures.value in
    ap (λ (s : Standing). set items a.place s) (c.set_state.ensures ∙ ap (with_state a.moment a.unlocked) item)
    ∙ set-moved_at a.moment a.unlocked a.place items c.in-Some.item.now c.requires
