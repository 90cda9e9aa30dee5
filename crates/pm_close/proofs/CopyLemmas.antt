-- A copy of a monitor's watches stands for what the watches stand for.
use Rattle.std.proofs.Common.{◌≡◌, ◌<◌, ℕ, List, length, get_or, sym, subst, ◌∙◌, arith}
use Rattle.pm_inventory.specs.Inventory.{SlotKey}
use Rattle.pm_history.specs.declared.entry.Side.{Side}
use Rattle.pm_history.specs.History.{History}
use Rattle.pm_history.specs.Terms.{Terms, Watched}
use Rattle.pm_history.specs.Standing.{Making}
use Rattle.pm_close.specs.declared.watches.MetricWatches.{MetricWatches}
use Rattle.pm_close.specs.Watched.{ObjectsStand, WatchesStand, watched_by, watched_on, object_numbers}
use Rattle.pm_close.specs.MonitorPlans.{SameMetric, SameWatches}
use Rattle.pm_close.proofs.WatchesLemmas.{map-same}

same-watched : (old new : MetricWatches) → SameMetric old new → watched_by new ≡ watched_by old
same-watched old new same =
    let of = same.of in
    let objects = same.objects in
    λ i. watched_on (of i) (object_numbers (objects i))

-- the copy has the same value sequences
pub copy-stands : (terms : Side → List ℕ → Terms) (slots : List SlotKey) (h : History) (w : Making) (granularity : ℕ)
    (watched : List Watched) (armed tick : ℕ) (old new : List MetricWatches) → SameWatches old new
    → WatchesStand terms slots h w granularity watched armed tick old
    → WatchesStand terms slots h w granularity watched armed tick new
copy-stands terms slots h w granularity watched armed tick old new same stand =
    let as_many = same.as_many in
    record {
      are = map-same watched_by old new as_many (λ j d lt. same-watched (get_or old j d) (get_or new j d) (same.each j d lt)) ∙ stand.are;
      each = λ k d lt.
          let less : k < length old = omega (arith, as_many, lt) in
          let was = get_or old k d in
          let copy = get_or new k d in
          let one = same.each k d less in
          subst (λ (x : Watched). ObjectsStand terms slots h w granularity x armed tick copy.objects.items) (sym (same-watched was copy one))
          (subst (ObjectsStand terms slots h w granularity (watched_by was) armed tick) (sym one.objects) (stand.each k d less));
    }
