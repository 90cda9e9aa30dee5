use Rattle.std.proofs.Common.{◌∙◌, sym, ap}
use Rattle.pm_meas.specs.Cell.{with_value}
use Rattle.pm_meas.proofs.CellLemmas.{cell_of-push}
use Rattle.pm_meas.proofs.cell.Cell.add.Goals as goal

pub returns-clause-fold : goal.returns-clause-fold
returns-clause-fold c = λ values is.
    rw (c.from.ensures, c.max-self.ensures, c.min-self.ensures) (ap (λ d. with_value d c.args.value) is ∙ sym (cell_of-push values c.args.value c.ranges.value.fits))
