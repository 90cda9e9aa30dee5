use Rattle.pm_meas.proofs.CatalogueLemmas.{found-only}
use Rattle.pm_meas.proofs.catalogue.Catalogue.find.Goals as goal

pub returns-clause-only : goal.returns-clause-only
returns-clause-only c = found-only c.args.self.now c.args.name.now c.search.result c.guess.ensures.catalogue c.search.ensures
