use Rattle.pm_collect.proofs.RowLemmas.{rising_rows}
use Rattle.pm_collect.proofs.names.Names.held.Goals as goal

pub returns-clause-rising : goal.returns-clause-rising
returns-clause-rising c = rising_rows c.args.self.now.held.entries c.iter.ensures.ordered
