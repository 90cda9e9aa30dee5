use Rattle.std.proofs.Common.{◌≡◌, ℕ, ◌<◌, [], length, set, get_or, take, sym, ap, subst, ◌∙◌, arith}
use Rattle.std.proofs.lemmas.List.{length-set, get_or_default}
use Rattle.pm_meas.specs.declared.cell.Cell.{Cell}
use Rattle.pm_meas.specs.Cell.{cell_of}
use Rattle.pm_close.specs.Rows.{AreSmall}
use Rattle.pm_store.specs.Stored.{cell_at}
use Rattle.pm_replay.proofs.RowLemmas.{row-more}
use Rattle.pm_replay.proofs.SmallLemmas.{in_range-small, small-set}
use Rattle.pm_replay.proofs.cells.row_of.Goals as goal

pub loop-pair-preserved : goal.loop-pair-preserved
loop-pair-preserved c =
    let i = c.loop-pair.pair-index in
    let cells = c.args.cells.now in
    let none : ℕ × Cell = (0, record { n = 0; sum = 0; max = 0; min = 0 }) in
    let pair : ℕ × Cell = get_or cells i none in
    let lt : i < length cells = omega (arith, c.loop-pair-test.true) in
    let own : pair ≡ get_or cells i pair = get_or_default cells i none pair lt in
    let fits = c.requires i none lt in
    let at : c.from-in-loop-pair.result ≡ pair.0 = c.from-in-loop-pair.ensures in
    let wide = c.loop-pair.invariant.wide in
    let row = c.loop-pair.row.items in
    let in_row : pair.0 < length row = omega (arith, fits.0, wide) in
    record {
      wide = length-set row c.from-in-loop-pair.result pair.1 ∙ wide;
      small =
          subst (λ slot. AreSmall (set row slot pair.1)) (sym at)
          (small-set row pair.0 pair.1 in_row (in_range-small pair.1 fits.1) c.loop-pair.invariant.small);
      each = λ rise slot within.
          ap (λ s. get_or (set row s pair.1) slot (cell_of [])) at
          ∙ row-more c.args.width i slot cells pair row wide lt own rise fits.0 within (c.loop-pair.invariant.each rise slot within);
    }
