use Rattle.pm_collect.proofs.RowLemmas.{rows_are}
use Rattle.pm_collect.proofs.collector.Collector.files.Goals as goal

pub returns-clause-rows : goal.returns-clause-rows
returns-clause-rows c = λ disk files holds. rows_are files c.args.self.now.names c.held.ensures.rising holds.places
