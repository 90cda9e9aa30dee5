use Rattle.std.proofs.Common.{◌≤◌, ◌++◌, ℕ, sym, ap, subst, ◌∙◌}
use Rattle.std.specs.List.{filter}
use Rattle.pm_history.specs.History.{last_moment}
use Rattle.pm_notify.specs.Kept.{lasts}
use Rattle.pm_notify.proofs.KeptLemmas.{stand-next}
use Rattle.pm_notify.proofs.notices.Notices.step.Goals as goal

pub returns-clause-stands : goal.returns-clause-stands
returns-clause-stands c =
    λ inventory h e le at adds stand.
    let old = c.args.self.now in
    let posted = c.args.added.notices.items in
    stand-next inventory h e old c.renew.new.self posted (subst (λ (m : ℕ). last_moment h ≤ m) (sym at) le) adds
    (c.renew.ensures.kept ∙ ap (λ (m : ℕ). filter (lasts m) (old.kept ++ posted)) (sym at)) c.renew.ensures.total stand
