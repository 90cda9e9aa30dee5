use Rattle.pm_kpi.proofs.SumLemmas.{put_same, put_stays}
use Rattle.pm_kpi.proofs.sums.put_key.Goals as goal

pub returns-clause-same : goal.returns-clause-same
returns-clause-same c =
    put_same c.in_ok-copy.copy c.args.key.now c.args.sums.now c.insert.new.self c.none.result c.in_ok-copy.ensures c.none.ensures
    c.if-contains_key.ensures c.in_ok-insert.ensures.updates

pub returns-clause-stays : goal.returns-clause-stays
returns-clause-stays c = put_stays c.in_ok-copy.copy c.args.sums.now c.insert.new.self c.none.result c.in_ok-insert.ensures.updates
