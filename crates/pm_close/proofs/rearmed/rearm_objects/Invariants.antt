use Rattle.std.proofs.Common.{◌≡◌, ◌≤◌, ◌<◌, ℕ, List, slice_index_or}
use Rattle.pm_base.specs.Moment.{tick_of}
use Rattle.pm_inventory.specs.Inventory.{SlotKey}
use Rattle.pm_history.specs.declared.entry.Side.{Side}
use Rattle.pm_history.specs.History.{History}
use Rattle.pm_history.specs.Terms.{Terms, Watched}
use Rattle.pm_history.specs.Standing.{Making}
use Rattle.pm_close.specs.declared.watched.WatchedObject.{WatchedObject}
use Rattle.pm_close.specs.Watched.{ObjectStands, ObjectsStand, SameObjects}
use Rattle.pm_close.proofs.rearmed.rearm_objects.Given as goal

abbrev pub invariant-loop-k : goal.invariant-loop-k
invariant-loop-k l = record {
  same : SameObjects l.fn.objects l.objects;
  later : (j : ℕ) (d : WatchedObject) → l.k ≤ j → slice_index_or l.objects j d ≡ slice_index_or l.fn.objects j d;
  stand : (terms : Side → List ℕ → Terms) (slots : List SlotKey) (h g : History) (w : Making) (granularity : ℕ)
      (watched : Watched)
      (before armed tick : ℕ)
      → ObjectsStand terms slots h w granularity watched before tick l.fn.objects
      → (j : ℕ) (d : WatchedObject) → j < l.k
      → ObjectStands terms slots g w granularity watched armed (tick_of armed) (slice_index_or l.objects j d);
}
