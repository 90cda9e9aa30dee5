use Rattle.std.proofs.Common.{◌≤◌, ◌<◌, ◌+◌, ℕ, slice_index_or}
use Rattle.pm_close.specs.declared.cells.TickCells.{TickCells}
use Rattle.pm_close.specs.declared.open_monitors.KeptMonitor.{KeptMonitor}
use Rattle.pm_close.specs.declared.limits.TheConstants.{MOST_TICKS}
use Rattle.pm_close.specs.OpenMonitors.{AllGoOn, NeedsFrom}
use Rattle.pm_close.proofs.open_monitors_enact.first_of.Given as goal

abbrev pub invariant-loop-k : goal.invariant-loop-k
invariant-loop-k l = record {
  needs : (j : ℕ) (d : KeptMonitor) → j < l.k → l.first ≤ (slice_index_or l.monitors j d).open.marks.begin;
  most : l.first ≤ l.tick;
  last : (other : ℕ) → other ≤ l.tick → NeedsFrom other l.monitors → other ≤ l.first;
  near : (cells : TickCells) → AllGoOn cells l.tick l.monitors → l.tick < l.first + MOST_TICKS;
}
