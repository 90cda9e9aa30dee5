-- What one entry of a history says.
use Rattle.std.specs.Prelude.{ℕ, Bool, true, false, List, Option, Some, None, if◌then◌else◌}
use Rattle.std.specs.Str.{bytes_eq}
use Rattle.pm_history.specs.declared.entry.Side.{Side}
use Rattle.pm_history.specs.declared.entry.Side.TheVariants.{Job, Monitor}
use Rattle.pm_history.specs.declared.entry.Entry.{Entry}
use Rattle.pm_history.specs.declared.entry.Entry.TheVariants.{Boot, Now, Event, JobMade, JobState, JobDeleted, MonitorMade, MonitorState, MonitorDeleted, Subscribed, Unsubscribed}

-- When it happened.
abbrev pub moment_of : Entry → ℕ
moment_of (Boot moment) = moment
moment_of (Now moment) = moment
moment_of (Event moment object metric value registered) = moment
moment_of (JobMade moment id body) = moment
moment_of (JobState moment id unlocked) = moment
moment_of (JobDeleted moment id) = moment
moment_of (MonitorMade moment id body) = moment
moment_of (MonitorState moment id unlocked) = moment
moment_of (MonitorDeleted moment id) = moment
moment_of (Subscribed moment id port path) = moment
moment_of (Unsubscribed moment id) = moment

-- The value of an event; 0 of any other entry.
abbrev pub value_of : Entry → ℕ
value_of (Event moment object metric value registered) = value
value_of _ = 0

-- Whether it may come after an entry of an earlier moment.
abbrev pub is_opening : Entry → Bool
is_opening (Boot moment) = true
is_opening (Now moment) = true
is_opening _ = false

-- What an entry does to a job or a monitor: it makes it with a body, sets it to UNLOCKED or not, or deletes it.
pub data Change : Type 0 where
  Made : List ℕ → Change
  Moved : Bool → Change
  Deleted : Change

-- The change, where the name is the id.
abbrev pub if_named : List ℕ → List ℕ → Change → Option Change
if_named id name change = if bytes_eq name id then Some change else None

-- What an entry does to what stands under an id of a side, if anything.
abbrev pub change_of : Side → List ℕ → Entry → Option Change
change_of Job id (JobMade moment name body) = if_named id name (Made body)
change_of Job id (JobState moment name unlocked) = if_named id name (Moved unlocked)
change_of Job id (JobDeleted moment name) = if_named id name Deleted
change_of Monitor id (MonitorMade moment name body) = if_named id name (Made body)
change_of Monitor id (MonitorState moment name unlocked) = if_named id name (Moved unlocked)
change_of Monitor id (MonitorDeleted moment name) = if_named id name Deleted
change_of _ id _ = None
