-- The crossings of a history can be told: their monitors have ids, and the inventory has their objects and metrics.
use Rattle.std.proofs.Common.{◌≡◌, ℕ, ◌*◌, ◌<◌, ◌≤◌, Bool, true, List, [], ◌∷◌, length, map, Option, Some, None, sym, subst, ◌∙◌, arith}
use Rattle.std.specs.List.{filter, enumerate_from, AllByRecursion}
use Rattle.pm_base.specs.Moment.{tick_of}
use Rattle.pm_dn.specs.Tree.{numbers_where}
use Rattle.pm_history.specs.declared.entry.Side.TheVariants.{Monitor}
use Rattle.pm_history.specs.declared.entry.Entry.TheVariants.{Now}
use Rattle.pm_history.specs.History.{History, ◌▷◌, before, last_moment}
use Rattle.pm_history.specs.Terms.{Watched}
use Rattle.pm_history.specs.Standing.{Standing, making_of, standing_after, ids_after}
use Rattle.pm_history.specs.Notices.{crossed, crossed_last, crossing_at, crossings_by, crossings_of, crossings_under, crossings_at}
use Rattle.pm_history.proofs.HistoryLemmas.{before_all, before-stays}
use Rattle.pm_history.proofs.DistinctLemmas.{each-map}
use Rattle.pm_inventory.specs.Inventory.{InventoryState}
use Rattle.pm_form.specs.Names.{job_id}
use Rattle.pm_asked.specs.Body.{Threshold, MonitorBody}
use Rattle.pm_asked.specs.BodyReading.{monitor_body}
use Rattle.pm_asked.specs.Asked.{Numbered, is_asked, is_of_class, metrics_asked, objects_asked, watched_of, watched_asked, monitor_terms, or_no_terms, terms_of}
use Rattle.pm_jobs.specs.declared.standing.Standing as items
use Rattle.pm_jobs.specs.State.{JobsState}
use Rattle.pm_jobs.specs.Stands.{StandsFor, Stands}
use Rattle.pm_notify.specs.Tellable.{IsTellable}
use Rattle.pm_notify.proofs.ListLemmas.{each-flat, each-any, each-of_map, each-filter, each-below}

-- ---- what a monitor watches

-- The inventory has the metric and the objects.
record IsOver (inventory : InventoryState) (w : Watched) : Type 0 where
  metric : w.metric.number < length inventory.measures
  objects : AllByRecursion (λ (object : ℕ). object < length inventory.objects) w.objects

module _ (inventory : InventoryState) where
  objects-below : (passes : List ℕ → Bool) → AllByRecursion (λ (object : ℕ). object < length inventory.objects) (numbers_where passes inventory.objects)
  objects-below passes =
      each-of_map (λ (object : ℕ). object < length inventory.objects) (λ (item : ℕ × List ℕ). item.0)
      (filter (λ (item : ℕ × List ℕ). passes item.1) (enumerate_from 0 inventory.objects))
      (each-filter (λ (item : ℕ × List ℕ). item.0 < length inventory.objects) (λ (item : ℕ × List ℕ). passes item.1)
      (enumerate_from 0 inventory.objects) (each-below inventory.objects))

  metrics-over : (objects : List ℕ) (threshold : ℕ × Threshold) (metrics : List Numbered)
      → AllByRecursion (λ (object : ℕ). object < length inventory.objects) objects
      → AllByRecursion (λ (m : Numbered). m.0 < length inventory.measures) metrics
      → AllByRecursion (IsOver inventory) (map (watched_of inventory objects threshold) metrics)
  metrics-over objects threshold [] below all = tt
  metrics-over objects threshold (m ∷ ms) below all = (
    record {
      metric = all.0;
      objects = each-filter (λ (object : ℕ). object < length inventory.objects) (is_of_class inventory m.1.class) objects below;
    },
    metrics-over objects threshold ms below all.1,
  )

  thresholds-over : (objects : List ℕ) (thresholds : List Threshold) → AllByRecursion (λ (object : ℕ). object < length inventory.objects) objects
      → AllByRecursion (IsOver inventory) (watched_asked inventory objects thresholds)
  thresholds-over objects thresholds below =
      each-flat (λ (threshold : ℕ × Threshold). Unit {0}) (IsOver inventory)
      (λ (threshold : ℕ × Threshold). map (watched_of inventory objects threshold) (metrics_asked inventory threshold.1.metrics))
      (enumerate_from 0 thresholds)
      (λ threshold any. metrics-over objects threshold (metrics_asked inventory threshold.1.metrics) below
      (each-filter (λ (m : Numbered). m.0 < length inventory.measures) _ (enumerate_from 0 inventory.measures) (each-below inventory.measures)))
      (each-any (λ (threshold : ℕ × Threshold). Unit {0}) (enumerate_from 0 thresholds) (λ threshold. tt))

  body-over : (o : Option MonitorBody) → AllByRecursion (IsOver inventory) (or_no_terms (monitor_terms inventory) o).watched
  body-over None = tt
  body-over (Some body) =
      thresholds-over (objects_asked inventory body.objects body.roots) body.thresholds (objects-below (is_asked body.objects body.roots))

  watched-over : (text : List ℕ) → AllByRecursion (IsOver inventory) (terms_of inventory Monitor text).watched
  unfolding terms_of
  watched-over text = body-over (monitor_body text)

  -- ---- crossings

  crossed-told : (id : List ℕ) (w : Watched) (object end value : ℕ) (o : Option Bool) → job_id id ≡ true → object < length inventory.objects
      → w.metric.number < length inventory.measures → AllByRecursion (IsTellable inventory) (crossed id w object end value o)
  crossed-told id w object end value None named there metric = tt
  crossed-told id w object end value (Some up) named there metric = (record { monitor = named; object = there; metric = metric }, tt)

  last-told : (id : List ℕ) (w : Watched) (object end : ℕ) (values last : List ℕ) → job_id id ≡ true → object < length inventory.objects
      → w.metric.number < length inventory.measures → AllByRecursion (IsTellable inventory) (crossed_last id w object end values last)
  last-told id w object end values [] named there metric = tt
  last-told id w object end values (value ∷ rest) named there metric = crossed-told id w object end value _ named there metric

  of-told : (h : History) (id : List ℕ) (end : ℕ) (o : Option Standing) → job_id id ≡ true
      → AllByRecursion (IsTellable inventory) (crossings_of (terms_of inventory) h id end o)
  of-told h id end None named = tt
  of-told h id end (Some s) named =
      let w = making_of Monitor id s in
      let granularity = (terms_of inventory Monitor s.body).granularity in
      each-flat (IsOver inventory) (IsTellable inventory) (crossings_by (terms_of inventory) h w granularity s.armed end)
      (terms_of inventory Monitor s.body).watched
      (λ watched over. each-flat (λ (object : ℕ). object < length inventory.objects) (IsTellable inventory)
      (crossing_at (terms_of inventory) h w granularity s.armed end watched) watched.objects
      (λ object there. last-told id watched object end _ _ named there over.metric) over.objects)
      (watched-over s.body)

  -- those of monitors with ids
  at-told : (h : History) (end : ℕ) → AllByRecursion (λ (id : List ℕ). job_id id ≡ true) (ids_after Monitor (before (60 * end) h))
      → AllByRecursion (IsTellable inventory) (crossings_at (terms_of inventory) h end)
  at-told h end named =
      each-flat (λ (id : List ℕ). job_id id ≡ true) (IsTellable inventory) (crossings_under (terms_of inventory) h end)
      (ids_after Monitor (before (60 * end) h))
      (λ id is. of-told h id end (standing_after (terms_of inventory) Monitor (before (60 * end) h) id) is) named

  -- ---- monitors that stand

  ids-named : (jobs : JobsState) (h : History) → Stands inventory jobs h → AllByRecursion (λ (id : List ℕ). job_id id ≡ true) (ids_after Monitor h)
  ids-named jobs h stands =
      let side = stands.of_monitors in
      subst (AllByRecursion (λ (id : List ℕ). job_id id ≡ true)) side.listed
      (each-of_map (λ (id : List ℕ). job_id id ≡ true) (λ (s : items.Standing). s.id) jobs.monitors
      (each-map (StandsFor inventory Monitor h) (λ (s : items.Standing). job_id s.id ≡ true) jobs.monitors (λ s is. is.keeps.named) side.each))

  -- the crossings at an end that comes with a request
  pub now-told : (jobs : JobsState) (h : History) (m end : ℕ) → Stands inventory jobs h → tick_of (last_moment h) < end → end ≤ tick_of m
      → AllByRecursion (IsTellable inventory) (crossings_at (terms_of inventory) (h ▷ Now m) end)
  now-told jobs h m end stands after within =
      let begun : before (60 * end) (h ▷ Now m) ≡ h =
      before-stays h (Now m) (60 * end) (omega (arith, within)) ∙ before_all h (60 * end) (omega (arith, after)) in
      at-told (h ▷ Now m) end
      (subst (λ (b : History). AllByRecursion (λ (id : List ℕ). job_id id ≡ true) (ids_after Monitor b)) (sym begun) (ids-named jobs h stands))
