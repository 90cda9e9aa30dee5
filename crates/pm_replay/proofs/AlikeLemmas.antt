-- What is kept of jobs and monitors and what is open of them stands as well for another history with the same items.
use Rattle.std.proofs.Common.{◌≡◌, ℕ, suc, ◌+◌, ◌*◌, ◌<◌, ◌≤◌, Bool, true, false, cond, List, [], ◌∷◌, ◌++◌, length, map, get_or, Option, Some, None, refl, sym, ap, ◌∙◌, subst, arith, suc-mul}
use Rattle.std.specs.List.{AllByRecursion}
use Rattle.std.specs.Option.{option_map}
use Rattle.std.proofs.lemmas.Nat.{mul-le}
use Rattle.pm_base.specs.Moment.{tick_of}
use Rattle.pm_history.specs.declared.entry.Side.{Side}
use Rattle.pm_history.specs.declared.entry.Side.TheVariants.{Job, Monitor}
use Rattle.pm_history.specs.History.{History, last_moment, IsHistory, is_cut}
use Rattle.pm_history.specs.Terms.{Terms, Watched}
use Rattle.pm_history.specs.Standing as history
use Rattle.pm_history.specs.Standing.{Making, making_of, standing_after}
use Rattle.pm_history.specs.Notices.{value_sequence}
use Rattle.pm_history.proofs.TickLemmas.{at_some-same}
use Rattle.pm_inventory.specs.Inventory.{InventoryState, SlotKey, slots}
use Rattle.pm_asked.specs.Asked.{terms_of}
use Rattle.pm_thresh.specs.Watch.{StandsAfter}
use Rattle.pm_items.specs.Items.{items_of}
use Rattle.pm_items.specs.Alike.{AreAlike, unplaced}
use Rattle.pm_items.proofs.AlikeLemmas.{same_items}
use Rattle.pm_items.proofs.MeasuredLemmas.{HaveSame, suspect-same, measured-same, have-same}
use Rattle.pm_items.proofs.SequenceLemmas.{sequence-same}
use Rattle.pm_items.proofs.StandingLemmas.{map_some}
use Rattle.pm_jobs.specs.declared.standing.Standing.{Standing}
use Rattle.pm_jobs.specs.State.{JobsState, ids}
use Rattle.pm_jobs.specs.Stands.{Told, told, told_of, StandsFor, SideStands, Stands}
use Rattle.pm_close.specs.declared.cells.TickCells.{TickCells}
use Rattle.pm_close.specs.declared.marks.Marks.{Marks}
use Rattle.pm_close.specs.declared.part.PartValues.{PartValues}
use Rattle.pm_close.specs.declared.report.OpenReport.{OpenReport}
use Rattle.pm_close.specs.declared.open_job.OpenJob.{OpenJob}
use Rattle.pm_close.specs.declared.open_monitors.KeptMonitor.{KeptMonitor}
use Rattle.pm_close.specs.declared.monitor.OpenMonitor.{OpenMonitor}
use Rattle.pm_close.specs.declared.closer.Closer.{Closer}
use Rattle.pm_close.specs.Rows.{cells_in, blank, row_at}
use Rattle.pm_close.specs.Cells.{CellsStand}
use Rattle.pm_close.specs.Flags.{WatchStands}
use Rattle.pm_close.specs.Marks.{MarksStand}
use Rattle.pm_close.specs.Parts.{Quantity, quantities_of}
use Rattle.pm_close.specs.Reports.{ReportStands}
use Rattle.pm_close.specs.Watched.{MonitorStands}
use Rattle.pm_close.specs.OpenJobs.{StandsAt, JobOpen, JobsOpen}
use Rattle.pm_close.specs.OpenMonitors.{IsKept, IsKeptUnder, AreKept, MonitorsOpen}
use Rattle.pm_close.specs.Closer.{CloserStands}
use Rattle.pm_close.proofs.RowLemmas.{rows-same}

-- ---- of one making in each

module _ (terms : Side → List ℕ → Terms) (g h : History) (v w : Making) (last : ℕ) (same : HaveSame terms g h v w last) where
  marks-same : (granularity tick : ℕ) (marks : Marks) → tick ≤ last → MarksStand terms g v granularity tick marks
      → MarksStand terms h w granularity tick marks
  marks-same granularity tick marks within old =
      let reach = old.reach in
      record {
        periods = old.periods;
        begins = old.begins;
        reach = reach;
        within = old.within;
        counted = λ k lt. old.counted k lt ∙ same.counted (marks.begin + k) (omega (arith, reach, lt, within));
      }

  report-same : (t : Terms) (tick : ℕ) (earlier : List PartValues) (report : OpenReport) → tick ≤ last
      → ReportStands terms g v t tick earlier report → ReportStands terms h w t tick earlier report
  report-same t tick earlier report within old =
      let parts = earlier ++ report.parts.items in
      let at = old.at in
      let reach = old.marks.reach in
      record {
        reports = old.reports;
        begins = old.begins;
        earlier_are = old.earlier_are;
        marks = marks-same t.granularity tick report.marks within old.marks;
        at = at;
        unfinished = old.unfinished;
        parts = λ k d lt.
            let is = old.parts k d lt in
            let one_more = suc-mul k t.granularity in
            let inside = mul-le (suc k) t.granularity (length parts) t.granularity (omega (arith, lt)) (omega arith) in
            let room : report.begin + k * t.granularity + t.granularity ≤ last = omega (arith, at, reach, within, one_more, inside) in
            record {
              values = is.values ∙ (λ i. map
                  (λ (q : Quantity). measured-same terms g h v w last same q.object q.metric (report.begin + k * t.granularity)
                  t.granularity room i) (quantities_of t.measured));
              suspect = is.suspect ∙ suspect-same terms g h v w last same (report.begin + k * t.granularity) t.granularity room;
            };
        counted = old.counted
            ∙ at_some-same (length parts * t.granularity) _ _ (λ k lt. same.counted (report.begin + k) (omega (arith, at, reach, within, lt)));
      }

  monitor-same : (inventory : InventoryState) (granularity : ℕ) (watched : List Watched) (armed tick : ℕ) (monitor : OpenMonitor)
      → tick ≤ last → MonitorStands terms (slots inventory) g v granularity watched armed tick monitor
      → MonitorStands terms (slots inventory) h w granularity watched armed tick monitor
  monitor-same inventory granularity watched armed tick monitor within old = record {
    armed_before = old.armed_before;
    marks = marks-same granularity tick monitor.marks within old.marks;
    watches = record {
      are = old.watches.are;
      each = λ k d lt j o in_objects.
          let object = old.watches.each k d lt j o in_objects in
          record {
            slot = object.slot;
            watch = record {
              high = object.watch.high;
              low = object.watch.low;
              up = object.watch.up;
              down = object.watch.down;
              sequence = subst (StandsAfter _) (sequence-same terms g h v w last same granularity _ _ armed tick within) object.watch.sequence;
            };
          };
    };
  }

-- ---- of all that exists

map-told : (o : Option history.Standing) → option_map told (option_map unplaced o) ≡ option_map told o
map-told None = refl
map-told (Some s) = refl

module _ (inventory : InventoryState) (g h : History) (ig : IsHistory g) (alike : AreAlike (terms_of inventory) g h) where
  -- what exists in the one exists in the other, but for its place
  pub record Counterpart (side : Side) (id : List ℕ) (s : history.Standing) : Type 0 where
    pub other : history.Standing
    pub there : standing_after (terms_of inventory) side g id ≡ Some other
    pub same : unplaced other ≡ unplaced s

  counterpart : (side : Side) (id : List ℕ) (s : history.Standing) → standing_after (terms_of inventory) side h id ≡ Some s
      → Counterpart side id s
  counterpart side id s is =
      let found = map_some unplaced (unplaced s) (standing_after (terms_of inventory) side g id) (alike.standing side id ∙ ap (option_map unplaced) is) in
      record { other = found.0; there = found.1; same = found.2 }

  have : (side : Side) (id : List ℕ) (s : history.Standing) (is : standing_after (terms_of inventory) side h id ≡ Some s) (c : Counterpart side id s)
      → HaveSame (terms_of inventory) g h (making_of side id c.other) (making_of side id s) (tick_of (last_moment g))
  have side id s is c = have-same (terms_of inventory) g h side id c.other s ig alike c.there is

  -- ---- cells

  row-alike : (t : ℕ) → t < tick_of (last_moment g) → row_at (slots inventory) g t ≡ row_at (slots inventory) h t
  row-alike t lt = by (is_cut g t) refl
    where
      by : (b : Bool) → is_cut g t ≡ b → row_at (slots inventory) g t ≡ row_at (slots inventory) h t
      by true is =
          ap (λ b. cond b (blank (slots inventory)) (cells_in (slots inventory) g t)) is
          ∙ sym (ap (λ b. cond b (blank (slots inventory)) (cells_in (slots inventory) h t)) (sym (alike.cut t) ∙ is))
      by false is =
          ap (λ b. cond b (blank (slots inventory)) (cells_in (slots inventory) g t)) is
          ∙ ((λ i. map (λ (key : SlotKey). alike.cells key.object key.metric t lt is i) (slots inventory))
          ∙ sym (ap (λ b. cond b (blank (slots inventory)) (cells_in (slots inventory) h t)) (sym (alike.cut t) ∙ is)))

  cells-alike : (kept : TickCells) → CellsStand (slots inventory) g kept → CellsStand (slots inventory) h kept
  cells-alike kept old =
      let reach = old.reach in
      record {
        wide = old.wide;
        reach = reach ∙ alike.tick;
        rows = old.rows ∙ rows-same (slots inventory) g h kept.first kept.ticks (λ t from lt. row-alike t (omega (arith, reach, lt)));
      }

  -- ---- jobs

  job-alike : (s : Standing) (job : OpenJob) → JobOpen inventory g s job → JobOpen inventory h s job
  job-alike s job old = record { asked = old.asked; report = report }
    where
      report : StandsAt inventory h s (tick_of (last_moment h)) [] job.report
      report made is =
          let c = counterpart Job s.id made is in
          subst (λ t. ReportStands (terms_of inventory) h (making_of Job s.id made) (terms_of inventory Job s.body) t [] job.report) alike.tick
          (report-same (terms_of inventory) g h (making_of Job s.id c.other) (making_of Job s.id made) (tick_of (last_moment g)) (have Job s.id made is c)
          (terms_of inventory Job s.body) (tick_of (last_moment g)) [] job.report (omega arith) (old.report c.other c.there))

  jobs-alike : (jobs : List Standing) (kept : List OpenJob) → JobsOpen inventory g jobs kept → JobsOpen inventory h jobs kept
  jobs-alike jobs kept old = record {
    as_many = old.as_many;
    each = λ k s job lt. job-alike (get_or jobs k s) (get_or kept k job) (old.each k s job lt);
  }

  -- ---- monitors

  kept-alike : (id : List ℕ) (m : KeptMonitor) → IsKeptUnder inventory g (tick_of (last_moment g)) id m
      → IsKeptUnder inventory h (tick_of (last_moment h)) id m
  kept-alike id m old s is =
      let c = counterpart Monitor id s is in
      let body : c.other.body ≡ s.body = ap (λ (x : history.Standing). x.body) c.same in
      let armed : c.other.armed ≡ s.armed = ap (λ (x : history.Standing). x.armed) c.same in
      let kept = old c.other c.there in
      let there = monitor-same (terms_of inventory) g h (making_of Monitor id c.other) (making_of Monitor id s) (tick_of (last_moment g)) (have Monitor id s is c)
      inventory m.granularity (terms_of inventory Monitor c.other.body).watched c.other.armed (tick_of (last_moment g)) m.open (omega arith) kept.stands in
      record {
        granularity = kept.granularity ∙ ap (λ b. (terms_of inventory Monitor b).granularity) body;
        stands =
            subst (λ t. MonitorStands (terms_of inventory) (slots inventory) h (making_of Monitor id s) m.granularity (terms_of inventory Monitor s.body).watched s.armed t m.open) alike.tick
            (subst (λ a. MonitorStands (terms_of inventory) (slots inventory) h (making_of Monitor id s) m.granularity (terms_of inventory Monitor s.body).watched a (tick_of (last_moment g)) m.open) armed
            (subst (λ b. MonitorStands (terms_of inventory) (slots inventory) h (making_of Monitor id s) m.granularity (terms_of inventory Monitor b).watched c.other.armed (tick_of (last_moment g)) m.open) body there));
      }

  all_kept-alike : (is : List (List ℕ)) (ms : List KeptMonitor) → AreKept inventory g (tick_of (last_moment g)) is ms
      → AreKept inventory h (tick_of (last_moment h)) is ms
  all_kept-alike [] [] all = tt
  all_kept-alike [] (m ∷ ms) all = absurd all
  all_kept-alike (id ∷ is) [] all = absurd all
  all_kept-alike (id ∷ is) (m ∷ ms) all = (kept-alike id m all.0, all_kept-alike is ms all.1)

  pub closer-alike : (jobs : JobsState) (closer : Closer) → CloserStands inventory jobs g closer → CloserStands inventory jobs h closer
  closer-alike jobs closer old = record {
    cells = cells-alike closer.cells old.cells;
    boots = sym (alike.cut (tick_of (last_moment h))) ∙ (ap (is_cut g) (sym alike.tick) ∙ old.boots);
    open_jobs = jobs-alike jobs.jobs closer.jobs.jobs.items old.open_jobs;
    open_monitors = all_kept-alike (ids jobs.monitors) closer.monitors.monitors.items old.open_monitors;
  }

  -- ---- what stands

  told-alike : (side : Side) (id : List ℕ) → option_map told (standing_after (terms_of inventory) side h id) ≡ option_map told (standing_after (terms_of inventory) side g id)
  told-alike side id =
      sym (map-told (standing_after (terms_of inventory) side h id))
      ∙ (ap (option_map told) (sym (alike.standing side id)) ∙ map-told (standing_after (terms_of inventory) side g id))

  each-alike : (side : Side) (items : List Standing) → AllByRecursion (StandsFor inventory side g) items → AllByRecursion (StandsFor inventory side h) items
  each-alike side [] all = tt
  each-alike side (s ∷ ss) all = (record { told = told-alike side s.id ∙ all.0.told; keeps = all.0.keeps }, each-alike side ss all.1)

  pub stands-alike : (jobs : JobsState) → Stands inventory jobs g → Stands inventory jobs h
  stands-alike jobs old = record {
    of_jobs = record { listed = old.of_jobs.listed ∙ alike.ids Job; each = each-alike Job jobs.jobs old.of_jobs.each };
    of_monitors = record { listed = old.of_monitors.listed ∙ alike.ids Monitor; each = each-alike Monitor jobs.monitors old.of_monitors.each };
  }
