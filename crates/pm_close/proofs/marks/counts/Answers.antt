use Rattle.pm_close.proofs.MarkLemmas.{counts-now}
use Rattle.pm_close.proofs.marks.counts.Goals as goal

pub returns-clause-counted : goal.returns-clause-counted
returns-clause-counted c =
    λ terms side h m id s is after changed unlocked cut from to.
    counts-now terms side h m id s c.args.cut c.args.unlocked _ c.args.changed c.args.tick is after changed unlocked cut from to
    c.ran_untouched.ensures
