-- What an entry leaves of a monitor.
use Rattle.std.proofs.Common.{ℕ, ◌≤◌, List, sym, subst}
use Rattle.pm_base.specs.Moment.{tick_of}
use Rattle.pm_inventory.specs.Inventory.{SlotKey}
use Rattle.pm_history.specs.declared.entry.Side.{Side}
use Rattle.pm_history.specs.declared.entry.Entry.{Entry}
use Rattle.pm_history.specs.Entry.{moment_of}
use Rattle.pm_history.specs.History.{History, ◌▷◌, last_moment}
use Rattle.pm_history.specs.Terms.{Terms, Watched}
use Rattle.pm_history.specs.Standing.{Making}
use Rattle.pm_history.proofs.StayLemmas.{value_sequence-stays}
use Rattle.pm_thresh.specs.Watch.{StandsAfter}
use Rattle.pm_close.specs.declared.watched.WatchedObject.{WatchedObject}
use Rattle.pm_close.specs.declared.monitor.OpenMonitor.{OpenMonitor}
use Rattle.pm_close.specs.Watched.{ObjectStands, MonitorStands}
use Rattle.pm_close.proofs.StayLemmas.{marks-stay}

object-stays : (terms : Side → List ℕ → Terms) (slots : List SlotKey) (h : History) (e : Entry) (w : Making) (granularity : ℕ)
    (watched : Watched) (armed tick : ℕ) (object : WatchedObject)
    → last_moment h ≤ moment_of e → tick ≤ tick_of (last_moment h)
    → ObjectStands terms slots h w granularity watched armed tick object
    → ObjectStands terms slots (h ▷ e) w granularity watched armed tick object
object-stays terms slots h e w granularity watched armed tick object le over old =
    let was = old.watch in
    record {
      slot = old.slot;
      watch = record {
        high = was.high;
        low = was.low;
        up = was.up;
        down = was.down;
        sequence = subst (StandsAfter object.watch)
            (sym (value_sequence-stays terms h e w granularity object.object watched.metric armed tick le over)) was.sequence;
      };
    }

pub monitors-stay : (terms : Side → List ℕ → Terms) (slots : List SlotKey) (h : History) (e : Entry) (w :
    Making) (granularity : ℕ)
    (watched : List Watched) (armed tick : ℕ) (monitor : OpenMonitor)
    → last_moment h ≤ moment_of e → tick ≤ tick_of (last_moment h)
    → MonitorStands terms slots h w granularity watched armed tick monitor
    → MonitorStands terms slots (h ▷ e) w granularity watched armed tick monitor
monitors-stay terms slots h e w granularity watched armed tick monitor le over old = record {
  armed_before = old.armed_before;
  marks = marks-stay terms h e w granularity tick monitor.marks le over old.marks;
  watches = record {
    are = old.watches.are;
    each = λ k d lt j z within.
        object-stays terms slots h e w granularity _ armed tick _ le over (old.watches.each k d lt j z within);
  };
}
