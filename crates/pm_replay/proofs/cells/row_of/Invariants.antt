use Rattle.std.proofs.Common.{◌≡◌, ℕ, ◌<◌, [], take, length, get_or}
use Rattle.std.proofs.Common.{true}
use Rattle.pm_meas.specs.Cell.{cell_of}
use Rattle.pm_close.specs.Rows.{AreSmall}
use Rattle.pm_store.specs.Rows.{are_rising}
use Rattle.pm_store.specs.Stored.{cell_at}
use Rattle.pm_replay.proofs.cells.row_of.Given as goal

abbrev pub invariant-loop-pair : goal.invariant-loop-pair
invariant-loop-pair l = record {
  wide : length l.row.items ≡ l.width;
  small : AreSmall l.row.items;
  each : are_rising l.cells ≡ true → (slot : ℕ) → slot < l.width → get_or l.row.items slot (cell_of []) ≡ cell_at (take l.pair-index l.cells) slot;
}
