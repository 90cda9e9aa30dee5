use Rattle.pm_disk.proofs.MomentLemmas.{run_on}
use Rattle.pm_history.specs.History.{Start, ◌▷◌}
use Rattle.pm_ledger.specs.Between.{EachBetween}
use Rattle.pm_engine.proofs.BetweenLemmas.{started}
use Rattle.pm_engine.proofs.opening.open_begun.Goals as goal

pub returns-in-Ok-clause-any_moment : goal.returns-in-Ok-clause-any_moment
returns-in-Ok-clause-any_moment g c = λ told inventory e adds all.
    run_on (EachBetween inventory Start (Start ▷ e)) _ _ _
    (started inventory e _ _ (c.in-Ok.ensures.any_moment told inventory Start Start all))
    (c.begun.ensures.any_moment told inventory e adds (c.in-Ok.ensures.empty told inventory))

pub returns-in-Err-clause-any_moment : goal.returns-in-Err-clause-any_moment
returns-in-Err-clause-any_moment g c = λ told inventory e adds all.
    started inventory e _ _ (c.open_empty.ensures.any_moment told inventory Start Start all)
