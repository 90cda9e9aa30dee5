use Rattle.std.proofs.Common.{arith}
use Rattle.pm_disk.proofs.MomentLemmas.{look_on}
use Rattle.pm_journal.proofs.OpeningLemmas.{lists_stay, lists_refreshed}
use Rattle.pm_journal.proofs.opening.begin.Goals as goal

pub returns-in_err-n-clause-any_moment : goal.returns-in_err-n-clause-any_moment
returns-in_err-n-clause-any_moment g c = λ told. lists_stay c.args.area _ _ (c.measure.ensures.untouched told)

pub returns-then-limit-clause-any_moment : goal.returns-then-limit-clause-any_moment
returns-then-limit-clause-any_moment g c = λ told. lists_stay c.args.area _ _ (c.measure.ensures.untouched told)

pub returns-in_err-refresh-clause-any_moment : goal.returns-in_err-refresh-clause-any_moment
returns-in_err-refresh-clause-any_moment g c = λ told.
    lists_refreshed c.args.area _ _ _ (g.met.D.Disk.reads_image c.args.disk.now c.args.area told) (omega (arith, c.in_ok-n.ensures.length told, c.if-n.true)) (c.measure.ensures.untouched told) (c.refresh.ensures.any_moment told)

pub returns-then-n-clause-any_moment : goal.returns-then-n-clause-any_moment
returns-then-n-clause-any_moment g c = λ told.
    lists_refreshed c.args.area _ _ _ (g.met.D.Disk.reads_image c.args.disk.now c.args.area told) (omega (arith, c.in_ok-n.ensures.length told, c.if-n.true)) (c.measure.ensures.untouched told) (c.refresh.ensures.any_moment told)

pub returns-then-n-limit-clause-any_moment : goal.returns-then-n-limit-clause-any_moment
returns-then-n-limit-clause-any_moment g c = λ told. lists_stay c.args.area _ _ (c.measure.ensures.untouched told)

pub returns-in_err-is_marked-clause-any_moment : goal.returns-in_err-is_marked-clause-any_moment
returns-in_err-is_marked-clause-any_moment g c = λ told. look_on _ _ _ _ (c.is_marked.ensures.told told) (lists_stay c.args.area _ _ (c.measure.ensures.untouched told))

pub returns-in_err-is_marked-clause-untouched : goal.returns-in_err-is_marked-clause-untouched
returns-in_err-is_marked-clause-untouched g c = λ told long. look_on _ _ _ _ (c.is_marked.ensures.told told) (c.measure.ensures.untouched told)

pub returns-then-not-branch-clause-any_moment : goal.returns-then-not-branch-clause-any_moment
returns-then-not-branch-clause-any_moment g c = λ told. look_on _ _ _ _ (c.is_marked.ensures.told told) (lists_stay c.args.area _ _ (c.measure.ensures.untouched told))

pub returns-then-not-branch-clause-untouched : goal.returns-then-not-branch-clause-untouched
returns-then-not-branch-clause-untouched g c = λ told long. look_on _ _ _ _ (c.is_marked.ensures.told told) (c.measure.ensures.untouched told)

pub returns-clause-any_moment : goal.returns-clause-any_moment
returns-clause-any_moment g c = λ told. look_on _ _ _ _ (c.is_marked.ensures.told told) (lists_stay c.args.area _ _ (c.measure.ensures.untouched told))

pub returns-clause-untouched : goal.returns-clause-untouched
returns-clause-untouched g c = λ told long. look_on _ _ _ _ (c.is_marked.ensures.told told) (c.measure.ensures.untouched told)
