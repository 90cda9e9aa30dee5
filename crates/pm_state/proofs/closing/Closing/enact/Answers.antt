use Rattle.std.proofs.Common.{◌≤◌, Bool, sym, subst, arith}
use Rattle.pm_history.specs.History.{◌▷◌, IsHistory, last_moment}
use Rattle.pm_close.specs.Closer.{CloserStands}
use Rattle.pm_close.specs.DueReports.{ended_by}
use Rattle.pm_state.proofs.ClosingLemmas.{ended-moment}
use Rattle.pm_state.proofs.closing.Closing.enact.Goals as goal

pub returns-clause-stands : goal.returns-clause-stands
returns-clause-stands c = λ inventory jobs h boot stand is end.
    let m = c.args.moment in
    let at = ended-moment boot m in
    let later : last_moment h ≤ m = omega (arith, at, is.1.later) in
    record {
      closer =
          subst (λ (b : Bool). CloserStands inventory jobs (h ▷ ended_by b m) c.enact.new.self) end.boot_is
          (c.enact.ensures.stands inventory jobs h m stand.closer (subst (λ (b : Bool). IsHistory (h ▷ ended_by b m)) (sym end.boot_is) is) end.booking);
      files = c.step.ensures.stands inventory h (ended_by boot m) end.files.added later at end.files.adds end.files.are stand.files;
      notices = c.step-2.ensures.stands inventory h (ended_by boot m) later at end.notices stand.notices;
    }
