use Rattle.pm_collect.proofs.RowLemmas.{rows_are}
use Rattle.pm_collect.proofs.collector.Collector.held.Goals as goal

pub returns-clause-rows : goal.returns-clause-rows
returns-clause-rows c = λ disk files holds. rows_are files c.args.self.now.names c.at.ensures.rising holds.places
