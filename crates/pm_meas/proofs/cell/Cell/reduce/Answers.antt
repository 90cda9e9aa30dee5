use Rattle.std.proofs.Common.{◌<◌, arith}
use Rattle.pm_meas.proofs.CellLemmas.{reduced-Min}
use Rattle.pm_meas.proofs.cell.Cell.reduce.Goals as goal

pub returns-in-Min-clause-fold : goal.returns-in-Min-clause-fold
returns-in-Min-clause-fold c = λ values is.
    let fits : c.args.self.now.max < 4294967296 = omega arith in
    rw (c.then_some-in-Min.ensures, c.from-in-Min.ensures, c.in-Min.is) (reduced-Min _ values is fits)
