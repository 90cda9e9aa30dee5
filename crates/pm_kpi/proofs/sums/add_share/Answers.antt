use Rattle.pm_kpi.proofs.SumLemmas.{share_added, share_stays}
use Rattle.pm_kpi.proofs.sums.add_share.Goals as goal

pub returns-in-Some-clause-added : goal.returns-in-Some-clause-added
returns-in-Some-clause-added c =
    share_added c.args.share.now.key c.args.sums.now (c.get_mut.follows.lender c.plus.result) c.in-Some.totals.now c.plus.result c.args.share.now.adds
    c.in-Some.ensures.value c.plus.ensures (c.get_mut.follows.holds c.plus.result).3

pub returns-in-Some-clause-stays : goal.returns-in-Some-clause-stays
returns-in-Some-clause-stays c =
    share_stays c.args.share.now.key c.args.sums.now (c.get_mut.follows.lender c.plus.result) c.in-Some.totals.now c.plus.result
    c.in-Some.ensures.value (c.get_mut.follows.holds c.plus.result).3
