use Rattle.std.proofs.Common.{length-append, arith}
use Rattle.std.specs.List.{flat_map}
use Rattle.std.specs.Int.{w64, to_be_bytes}
use Rattle.pm_store.specs.Rows.{cell_bytes, cell_row, cursor_row}
use Rattle.pm_store.proofs.CellLemmas.{cell_exact, cursor_exact}
use Rattle.pm_store.proofs.RowExactLemmas.{size_of_rows}
use Rattle.pm_store.proofs.encoding.booked_size.Goals as goal

pub returns-clause-size : goal.returns-clause-size
returns-clause-size c tick =
    omega (
      arith,
      size_of_rows cell_row cell_exact c.args.cells.now,
      size_of_rows cursor_row cursor_exact c.args.cursors.now,
      length-append (flat_map cell_bytes c.args.cells.now) (Rattle.std.proofs.Common.◌∷◌ (Rattle.std.proofs.Common.length c.args.cursors.now) (flat_map (to_be_bytes w64) c.args.cursors.now)),
    )
