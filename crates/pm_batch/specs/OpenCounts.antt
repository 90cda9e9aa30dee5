-- How many events there are since the last entry that ended what was open: a Boot, or a Now in a later tick (this project's own).
use Rattle.std.specs.Prelude.{ℕ, ◌+◌, Bool, false, ◌&&◌, ◌==◌, if◌then◌else◌}
use Rattle.pm_base.specs.Moment.{tick_of}
use Rattle.pm_history.specs.declared.entry.Entry.{Entry}
use Rattle.pm_history.specs.declared.entry.Entry.TheVariants.{Event}
use Rattle.pm_history.specs.Entry.{moment_of}
use Rattle.pm_history.specs.History.{History, Start, ◌▷◌}
use Rattle.pm_items.specs.Items.{ends_tick}

abbrev pub one_if : Bool → ℕ
one_if test = if test then 1 else 0

-- Whether an entry is an event of the object and the metric.
abbrev pub is_event_of : ℕ → ℕ → Entry → Bool
is_event_of object metric (Event moment o m value registered) = o == object && m == metric
is_event_of object metric _ = false

-- Whether an entry is a registered event.
abbrev pub is_registered_event : Entry → Bool
is_registered_event (Event moment object metric value registered) = registered
is_registered_event _ = false

-- Of an object and a metric, registered or not.
abbrev pub open_events : ℕ → ℕ → History → ℕ
open_events object metric Start = 0
open_events object metric (h ▷ e) = if ends_tick h e then 0 else open_events object metric h + one_if (is_event_of object metric e)

-- Of all objects and metrics, those that are registered.
abbrev pub open_registered : History → ℕ
open_registered Start = 0
open_registered (h ▷ e) = if ends_tick h e then 0 else open_registered h + one_if (is_registered_event e)

-- Of an object and a metric, registered or not, those whose moments lie in a tick.
abbrev pub events_in : ℕ → ℕ → ℕ → History → ℕ
events_in object metric tick Start = 0
events_in object metric tick (h ▷ e) = events_in object metric tick h + one_if (is_event_of object metric e && tick_of (moment_of e) == tick)
