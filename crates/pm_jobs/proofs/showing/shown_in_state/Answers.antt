use Rattle.std.proofs.Common.{ap, ◌∙◌}
use Rattle.pm_form.specs.Names.{job_id}
use Rattle.pm_jobs.specs.declared.standing.Standing.{Standing}
use Rattle.pm_jobs.proofs.ShownLemmas.{id_at}
use Rattle.pm_jobs.proofs.showing.shown_in_state.Goals as goal

pub item_shown_in-requires : goal.item_shown_in-requires
item_shown_in-requires c =
    ap (λ (s : Standing). job_id s.id) c.index-items-place.is
    ∙ id_at c.args.side c.args.items.now c.in-Some.place c.index-items-place.result c.requires c.in-Some.ensures.within
