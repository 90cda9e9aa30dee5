use Rattle.std.proofs.Common.{◌<◌, ◌++◌, length, get_or, sym, ap, ◌∙◌, arith}
use Rattle.pm_meas.specs.declared.cell.Cell.{Cell}
use Rattle.pm_close.specs.Closer.{filled_one}
use Rattle.pm_close.proofs.FilledLemmas.{filled-more}
use Rattle.pm_close.proofs.filling.filled_cells.Goals as goal

pub loop-slot-preserved : goal.loop-slot-preserved
loop-slot-preserved c =
    let row = c.args.row.now in
    let k = c.loop-slot.slot in
    let none : Cell = record { n = 0; sum = 0; max = 0; min = 0 } in
    let lt : k < length row = omega (arith, c.loop-slot-test.true) in
    c.in_ok-push_filled.ensures
    ∙ (ap (λ cells. cells ++ filled_one k (get_or row k none)) c.loop-slot.invariant ∙ sym (filled-more k row none lt))
