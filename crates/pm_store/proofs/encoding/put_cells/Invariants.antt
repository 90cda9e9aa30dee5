use Rattle.std.proofs.Common.{◌≡◌, ◌++◌, take}
use Rattle.std.specs.List.{flat_map}
use Rattle.pm_store.specs.Rows.{cell_bytes}
use Rattle.pm_store.proofs.encoding.put_cells.Given as goal

abbrev pub invariant-loop-pair : goal.invariant-loop-pair
invariant-loop-pair l = l.out.items ≡ l.fn.out.items ++ flat_map cell_bytes (take l.pair-index l.cells)
