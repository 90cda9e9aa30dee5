use Rattle.std.proofs.Common.{◌≡◌, ◌≤◌, ◌<◌, ◌+◌, ◌++◌, ℕ, List, take, slice_index_or}
use Rattle.std.specs.List.{flat_map}
use Rattle.pm_inventory.specs.Inventory.{SlotKey}
use Rattle.pm_history.specs.declared.entry.Side.{Side}
use Rattle.pm_history.specs.History.{History}
use Rattle.pm_history.specs.Terms.{Terms}
use Rattle.pm_history.specs.Standing.{Making}
use Rattle.pm_history.specs.Value.{is_suspect}
use Rattle.pm_history.specs.Notices.{crossing_at}
use Rattle.pm_close.specs.declared.watched.WatchedObject.{WatchedObject}
use Rattle.pm_close.specs.Watched.{PeriodEnds, ObjectStands, ObjectsStand, SameObjects, watched_on, object_numbers, all_crossed}
use Rattle.pm_close.proofs.ended.end_objects.Given as goal

abbrev pub invariant-loop-k : goal.invariant-loop-k
invariant-loop-k l = record {
  same : SameObjects l.fn.objects l.objects;
  later : (j : ℕ) (d : WatchedObject) → l.k ≤ j → slice_index_or l.objects j d ≡ slice_index_or l.fn.objects j d;
  stand : (terms : Side → List ℕ → Terms) (slots : List SlotKey) (h : History) (w : Making) (granularity armed
      tick : ℕ) (numbers : List ℕ)
      → PeriodEnds terms slots h w granularity armed tick l.kept l.row l.period
      → l.suspect ≡ is_suspect terms h w l.period.begin granularity
      → ObjectsStand terms slots h w granularity (watched_on l.of numbers) armed tick l.fn.objects
      → (j : ℕ) (d : WatchedObject) → j < l.k
      → ObjectStands terms slots h w granularity (watched_on l.of numbers) armed (tick + 1) (slice_index_or l.objects j d);
  crossed : (terms : Side → List ℕ → Terms) (slots : List SlotKey) (h : History) (w : Making) (granularity
      armed tick : ℕ) (numbers : List ℕ)
      → PeriodEnds terms slots h w granularity armed tick l.kept l.row l.period
      → l.suspect ≡ is_suspect terms h w l.period.begin granularity
      → ObjectsStand terms slots h w granularity (watched_on l.of numbers) armed tick l.fn.objects
      → all_crossed w.id (tick + 1) l.crossings.items ≡ all_crossed w.id (tick + 1) l.fn.crossings.items
      ++ flat_map (crossing_at terms h w granularity armed (tick + 1) (watched_on l.of numbers)) (take l.k
      (object_numbers l.fn.objects));
}
