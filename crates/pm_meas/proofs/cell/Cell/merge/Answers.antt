use Rattle.pm_meas.proofs.CellLemmas.{merged-in_order, merged-in_other_order}
use Rattle.pm_meas.proofs.cell.Cell.merge.Goals as goal

pub returns-clause-fold : goal.returns-clause-fold
returns-clause-fold c = λ xs ys mine others. rw (c.max-self.ensures, c.min-self.ensures) (merged-in_order _ _ xs ys mine others)

pub returns-clause-either_order : goal.returns-clause-either_order
returns-clause-either_order c = λ xs ys mine others. rw (c.max-self.ensures, c.min-self.ensures) (merged-in_other_order _ _ xs ys mine others)
