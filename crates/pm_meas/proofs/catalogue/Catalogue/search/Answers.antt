use Rattle.std.proofs.Common.{arith}
use Rattle.pm_meas.proofs.CatalogueLemmas.{Stands-at}
use Rattle.pm_meas.proofs.catalogue.Catalogue.search.Goals as goal

pub returns : goal.returns
returns c = λ stands.
    let at = Stands-at c.args.self.now c.args.name.now stands in
    c.loop-metric.invariant at.0 (omega (arith, at.1, c.len-metric-end.ensures.value)) at.2
