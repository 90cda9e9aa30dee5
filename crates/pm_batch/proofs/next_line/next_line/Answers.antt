use Rattle.pm_batch.proofs.ReadingLemmas.{lines-cut, cut-shorter}
use Rattle.pm_batch.proofs.next_line.next_line.Goals as goal

pub returns-in-Some-clause-line : goal.returns-in-Some-clause-line
returns-in-Some-clause-line c = lines-cut c.args.bytes.now c.in-Some.line.now c.in-Some.behind.now c.in-Some.ensures

pub returns-in-Some-clause-shorter : goal.returns-in-Some-clause-shorter
returns-in-Some-clause-shorter c = cut-shorter c.args.bytes.now c.in-Some.line.now c.in-Some.behind.now c.in-Some.ensures
