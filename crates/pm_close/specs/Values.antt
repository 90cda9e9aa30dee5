-- What is known of the ticks of a granularity period that ends, and the values that it has.
use Rattle.std.specs.Prelude.{ℕ, zero, suc, ◌+◌, ◌-◌, ◌<◌, ◌≤◌, ◌≡◌, ◌==◌, Bool, false, List, [], length, nat_lt, slice_index_or, if◌then◌else◌, Option}
use Rattle.pm_meas.specs.declared.cell.Cell.{Cell}
use Rattle.pm_meas.specs.declared.kind.Reduce.{Reduce}
use Rattle.pm_meas.specs.Cell.{cell_of, merged}
use Rattle.pm_inventory.specs.Inventory.{SlotKey}
use Rattle.pm_history.specs.declared.entry.Side.{Side}
use Rattle.pm_history.specs.declared.metric.Metric.{Metric}
use Rattle.pm_history.specs.History.{History, is_cut}
use Rattle.pm_history.specs.Terms.{Terms}
use Rattle.pm_history.specs.Standing.{Making}
use Rattle.pm_history.specs.Value.{measured_value}
use Rattle.pm_close.specs.declared.cells.TickCells.{TickCells}
use Rattle.pm_close.specs.declared.marks.Marks.{Marks}
use Rattle.pm_close.specs.Rows.{tick_cell, cell_at}
use Rattle.pm_close.specs.Marks.{mark_at, PeriodStands}

-- The cell of a slot in a tick, by the rows that are kept and the row of the tick that was open; without values in other ticks.
abbrev pub known_cell : TickCells → List Cell → ℕ → ℕ → Cell
known_cell kept row slot tick =
    if nat_lt tick kept.first then cell_of []
    else (if nat_lt tick (kept.first + kept.ticks) then cell_at kept.cells.items kept.slots slot (tick - kept.first)
    else (if tick == kept.first + kept.ticks then slice_index_or row slot (cell_of []) else cell_of []))

-- From the first kept tick on, what is known of a tick that no Boot cuts is its cells.
pub record KnowsCells (slots : List SlotKey) (h : History) (kept : TickCells) (row : List Cell) : Type 0 where
  pub wide : kept.slots ≡ length slots
  pub known : (slot tick : ℕ) (key : SlotKey) → slot < length slots → slice_index_or slots slot key ≡ key → kept.first ≤ tick
      → is_cut h tick ≡ false
      → known_cell kept row slot tick ≡ tick_cell h tick key

-- The merge of the cells of a run of ticks that pass a test.
abbrev pub merged_where : (ℕ → Bool) → (ℕ → Cell) → ℕ → ℕ → Cell
merged_where passes cell first zero = cell_of []
merged_where passes cell first (suc n) =
    if passes (first + n) then merged (merged_where passes cell first n) (cell (first + n)) else merged_where passes cell first n

-- No tick before the first kept one is counted.
abbrev pub IsCovered : TickCells → Marks → Type 0
IsCovered kept period = (k : ℕ) → k < period.count → period.begin + k < kept.first → mark_at period k ≡ false

-- An answer is the value over the period, in each history in which the cells are known and the marks say which ticks are counted.
abbrev pub IsValue : TickCells → List Cell → ℕ → Marks → Reduce → Option ℕ → Type 0
IsValue kept row slot period reduce answer =
    (terms : Side → List ℕ → Terms) (slots : List SlotKey) (h : History) (w : Making) (key : SlotKey) (metric : Metric)
    (granularity end : ℕ)
    → KnowsCells slots h kept row → slice_index_or slots slot key ≡ key → metric.number ≡ key.metric → metric.reduce ≡ reduce
    → PeriodStands terms h w granularity end period
    → answer ≡ measured_value terms h w key.object metric period.begin granularity
