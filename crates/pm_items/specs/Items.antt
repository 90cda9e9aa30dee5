-- The items of a history, and the history up to its last item (this project's own).
use Rattle.std.specs.Prelude.{ℕ, Bool, true, false, List, [], ◌++◌, if◌then◌else◌, Option, Some, None, nat_lt, option_to_list}
use Rattle.std.specs.Option.{is_some}
use Rattle.pm_base.specs.Moment.{tick_of}
use Rattle.pm_meas.specs.declared.cell.Cell.{Cell}
use Rattle.pm_meas.specs.Cell.{cell_of}
use Rattle.pm_history.specs.declared.entry.Entry.{Entry}
use Rattle.pm_history.specs.declared.entry.Entry.TheVariants.{Boot, Now, Event}
use Rattle.pm_history.specs.Entry.{moment_of}
use Rattle.pm_history.specs.History.{History, Start, ◌▷◌, last_moment}
use Rattle.pm_history.specs.Value.{value_where}

-- An item: a Boot; a Now in a later tick, with the tick that it takes and the cell of each object and metric in it; or a change.
pub data Item : Type 0 where
  Opened : (moment : ℕ) → Item
  Booked : (moment tick : ℕ) → (ℕ → ℕ → Cell) → Item
  Changed : Entry → Item

-- Whether a Now after h lies in a later tick than the entry before it. The first entry always does.
abbrev pub is_later : History → ℕ → Bool
is_later Start moment = true
is_later (h ▷ e) moment = nat_lt (tick_of (moment_of e)) (tick_of moment)

-- Whether the entry after h ends what was open: a Boot, or a Now in a later tick.
abbrev pub ends_tick : History → Entry → Bool
ends_tick h (Boot moment) = true
ends_tick h (Now moment) = is_later h moment
ends_tick h _ = false

-- The values of the registered events of an object and a metric since the last entry that ended what was open.
abbrev pub open_values : ℕ → ℕ → History → List ℕ
open_values object metric Start = []
open_values object metric (h ▷ e) =
    if ends_tick h e then [] else open_values object metric h ++ value_where object metric (λ tick. true) e

-- Their cells.
abbrev pub open_cells : History → ℕ → ℕ → Cell
open_cells h object metric = cell_of (open_values object metric h)

-- The item of the entry after h, if it has one. The tick taken is that of the moment before.
abbrev pub item_of : History → Entry → Option Item
item_of h (Boot moment) = Some (Opened moment)
item_of h (Now moment) = if is_later h moment then Some (Booked moment (tick_of (last_moment h)) (open_cells h)) else None
item_of h (Event moment object metric value registered) = None
item_of h e = Some (Changed e)

-- The items of a history, in order.
abbrev pub items_of : History → List Item
items_of Start = []
items_of (h ▷ e) = items_of h ++ option_to_list (item_of h e)

-- The history up to its last entry that has an item.
abbrev pub kept : History → History
kept Start = Start
kept (h ▷ e) = if is_some (item_of h e) then h ▷ e else kept h
