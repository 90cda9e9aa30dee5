-- What is kept over all jobs, before and after what ends ticks.
use Rattle.std.proofs.Common.{◌≡◌, ◌≤◌, ◌<◌, ◌+◌, ◌*◌, ◌-◌, ◌++◌, [], ℕ, Bool, true, false, None, cond, List, length, max, replicate, refl, sym, ap, subst, ◌∙◌, arith, inl, inr, get_or, le-leb}
use Rattle.std.specs.List.{flat_map}
use Rattle.std.proofs.lemmas.Bool.{cases_lt, or_right, and_from, or_from}
use Rattle.std.proofs.lemmas.List.{length-replicate}
use Rattle.std.proofs.lemmas.List.Folds.{flat_map-map}
use Rattle.pm_base.specs.Moment.{tick_of}
use Rattle.pm_meas.specs.declared.cell.Cell.{Cell}
use Rattle.pm_meas.specs.Cell.{cell_of}
use Rattle.pm_inventory.specs.Inventory.{InventoryState, SlotKey, slots}
use Rattle.pm_history.specs.declared.entry.Side.TheVariants.{Job, Monitor}
use Rattle.pm_history.specs.declared.entry.Entry.{Entry}
use Rattle.pm_history.specs.declared.entry.Entry.TheVariants.{Boot, Now, Event, Subscribed, Unsubscribed}
use Rattle.pm_history.specs.Entry.{moment_of, change_of}
use Rattle.pm_history.specs.History.{History, Start, ◌▷◌, IsHistory, is_cut, cuts, last_moment, before}
use Rattle.pm_history.specs.Ticks.{behind}
use Rattle.pm_history.specs.Standing.{ids_after}
use Rattle.pm_history.specs.Files.{files_of, files_at, file_at}
use Rattle.pm_history.proofs.HistoryLemmas.{before_all, before-stays, is_cut-past}
use Rattle.pm_history.proofs.TickLemmas.{or_false, behind-same}
use Rattle.pm_history.proofs.StayLemmas.{files_of-next}
use Rattle.pm_asked.specs.Asked.{terms_of}
use Rattle.pm_jobs.specs.declared.standing.Standing.{Standing}
use Rattle.pm_jobs.specs.State.{JobsState}
use Rattle.pm_jobs.specs.Stands.{Stands}
use Rattle.pm_close.specs.declared.cells.TickCells.{TickCells}
use Rattle.pm_close.specs.declared.report.OpenReport.{OpenReport}
use Rattle.pm_close.specs.declared.due_report.DueReport.{DueReport}
use Rattle.pm_close.specs.declared.open_job.OpenJob.{OpenJob}
use Rattle.pm_close.specs.declared.closer.Closer.{Closer}
use Rattle.pm_close.specs.Rows.{AreSmall, blank, cells_in}
use Rattle.pm_close.specs.Cells.{CellsStand, AreOpen}
use Rattle.pm_close.specs.Values.{KnowsCells}
use Rattle.pm_close.specs.OpenJobs.{StandsAt, ReportsFit, JobsOpen, ReportsStand, AreAsked, PlansStand}
use Rattle.pm_close.specs.DueReports.{AllEnd, TicksEnd, GapEnds, AreFiles, ended_by, files_with}
use Rattle.pm_close.specs.Closer.{CloserStands, AreCurrent, AddsFiles, CloserStays, filled_from, stored_cells}
use Rattle.pm_items.specs.Unstored.{IsUnstored}
use Rattle.pm_items.proofs.UnstoredLemmas.{unstored_in_tick}
use Rattle.pm_close.specs.declared.limits.TheConstants.{MOST_TICKS}
use Rattle.pm_close.specs.declared.filled.FilledCell.{FilledCell}
use Rattle.pm_close.proofs.SmallLemmas.{AreSmall-replicate}
use Rattle.pm_close.proofs.KnownLemmas.{knows-now, knows-boot}
use Rattle.pm_close.proofs.StayLemmas.{cells-stay}
use Rattle.pm_close.proofs.PlanLemmas.{monitors-open-stay}
use Rattle.pm_close.proofs.JobFollowLemmas.{IsNoMaking, stands-on, all-on}

-- ---- the row of the open tick

pub row-open : (keys : List SlotKey) (h : History) (cells row : List Cell) (cut : Bool)
    → is_cut h (tick_of (last_moment h)) ≡ cut → AreCurrent keys h cells → length cells ≡ length keys
    → row ≡ cond cut (replicate (length cells) (cell_of [])) cells → AreOpen keys h row
row-open keys h cells row cut is current wide row_is =
    row_is ∙ (ap (λ b. cond b (replicate (length cells) (cell_of [])) cells) (sym is) ∙ by (is_cut h (tick_of (last_moment h))) refl)
  where
    by : (b : Bool) → is_cut h (tick_of (last_moment h)) ≡ b
        → cond b (replicate (length cells) (cell_of [])) cells ≡ cond b (blank keys) (cells_in keys h (tick_of (last_moment h)))
    by true at = ap (λ n. replicate n (cell_of [])) wide
    by false at = current at

pub row-small : (cells row : List Cell) (cut : Bool) → AreSmall cells → row ≡ cond cut (replicate (length cells) (cell_of [])) cells
    → AreSmall row
row-small cells row true small is = subst AreSmall (sym is) (AreSmall-replicate (length cells))
row-small cells row false small is = subst AreSmall (sym is) small

pub row-wide : (cells row : List Cell) (cut : Bool) → row ≡ cond cut (replicate (length cells) (cell_of [])) cells
    → length row ≡ length cells
row-wide cells row true is = ap length is ∙ length-replicate (length cells) (cell_of [])
row-wide cells row false is = ap length is

-- ---- before ticks end

pub later-than : (h : History) (boot : Bool) (m : ℕ) → IsHistory (h ▷ ended_by boot m) → last_moment h ≤ m
later-than h true m is = is.1.later
later-than h false m is = is.1.later

pub history-of : (h : History) (boot : Bool) (m : ℕ) → IsHistory (h ▷ ended_by boot m) → IsHistory h
history-of h true m is = is.0
history-of h false m is = is.0

reports-begin : (inventory : InventoryState) (jobs : JobsState) (h : History) (boot : Bool) (m : ℕ) (kept : List OpenJob)
    → last_moment h ≤ m → JobsOpen inventory h jobs.jobs kept
    → ReportsStand inventory (h ▷ ended_by boot m) (tick_of (last_moment h)) jobs.jobs kept
reports-begin inventory jobs h true m kept later open_jobs k s job lt =
    stands-on inventory h (Boot m) (get_or jobs.jobs k s) (tick_of (last_moment h)) [] (get_or kept k job).report later (omega arith) tt
    (open_jobs.each k s job lt).report
reports-begin inventory jobs h false m kept later open_jobs k s job lt =
    stands-on inventory h (Now m) (get_or jobs.jobs k s) (tick_of (last_moment h)) [] (get_or kept k job).report later (omega arith) tt
    (open_jobs.each k s job lt).report

pub asked-of : (inventory : InventoryState) (jobs : JobsState) (h : History) (kept : List OpenJob) → JobsOpen inventory h jobs.jobs kept
    → AreAsked inventory jobs.jobs kept
asked-of inventory jobs h kept open_jobs k s job lt = (open_jobs.each k s job lt).asked

knows : (inventory : InventoryState) (h : History) (boot : Bool) (m : ℕ) (kept : TickCells) (row : List Cell) → IsHistory h
    → AreOpen (slots inventory) h row → CellsStand (slots inventory) h kept → KnowsCells (slots inventory) (h ▷ ended_by boot m) kept row
knows inventory h true m kept row is row_is stand = knows-boot (slots inventory) h m kept row is row_is stand
knows inventory h false m kept row is row_is stand = knows-now (slots inventory) h m kept row is row_is stand

-- plans that were made go on as they end
pub all-end : (inventory : InventoryState) (jobs : JobsState) (h : History) (m : ℕ) (boot : Bool) (closer : Closer) (row : List Cell)
    (tick : ℕ) (plans : List OpenReport)
    → CloserStands inventory jobs h closer → Stands inventory jobs h → IsHistory (h ▷ ended_by boot m)
    → AreOpen (slots inventory) h row → tick ≡ tick_of m
    → ((g : History) → ReportsStand inventory g (tick_of (last_moment h)) jobs.jobs closer.jobs.jobs.items
    → PlansStand inventory g (tick_of (last_moment h)) jobs.jobs closer.jobs.jobs.items plans)
    → AllEnd inventory h m boot closer.cells row closer.cut tick jobs.jobs closer.jobs.jobs.items plans
all-end inventory jobs h m boot closer row tick plans stand stands is row_is to planned = record {
  is = history-of h boot m is;
  knows = knows inventory h boot m closer.cells row (history-of h boot m is) row_is stand.cells;
  reach = stand.cells.reach;
  to = to;
  boots = stand.boots;
  stands = stands.of_jobs;
  asked = asked-of inventory jobs h closer.jobs.jobs.items stand.open_jobs;
  plans_stand =
      planned (h ▷ ended_by boot m)
      (reports-begin inventory jobs h boot m closer.jobs.jobs.items (later-than h boot m is) stand.open_jobs);
}

pub ticks-of : (inventory : InventoryState) (h : History) (m : ℕ) (boot : Bool) (kept : TickCells) (row : List Cell) (cut : Bool) (tick : ℕ)
    (jobs : List Standing) (open_jobs : List OpenJob) (plans : List OpenReport) → boot ≡ false
    → AllEnd inventory h m boot kept row cut tick jobs open_jobs plans → TicksEnd inventory h m kept row cut tick jobs open_jobs plans
ticks-of inventory h m true kept row cut tick jobs open_jobs plans at ends = absurd cc
ticks-of inventory h m false kept row cut tick jobs open_jobs plans at ends = record {
  is = ends.is;
  knows = ends.knows;
  reach = ends.reach;
  to = ends.to;
  boots = ends.boots;
  stands = ends.stands;
  asked = ends.asked;
  plans_stand = ends.plans_stand;
}

pub gap-of : (inventory : InventoryState) (h : History) (m : ℕ) (boot : Bool) (kept : TickCells) (row : List Cell) (cut : Bool) (tick : ℕ)
    (jobs : List Standing) (open_jobs : List OpenJob) (plans : List OpenReport) → boot ≡ true → tick_of (last_moment h) ≤ tick
    → AllEnd inventory h m boot kept row cut tick jobs open_jobs plans → GapEnds inventory h m kept row tick jobs open_jobs plans
gap-of inventory h m true kept row cut tick jobs open_jobs plans at from ends = record {
  boot = record { is = ends.is; knows = ends.knows; from = from; to = sym ends.to };
  stands = ends.stands;
  asked = ends.asked;
  plans_stand = ends.plans_stand;
}
gap-of inventory h m false kept row cut tick jobs open_jobs plans at from ends = absurd cc

-- ---- the files of an entry

pub moment-of : (boot : Bool) (m : ℕ) → moment_of (ended_by boot m) ≡ m
moment-of true m = refl
moment-of false m = refl

files-with : (inventory : InventoryState) (jobs : JobsState) (h : History) (e : Entry) (end : ℕ) → Stands inventory jobs h
    → tick_of (last_moment h) < end → end ≤ tick_of (moment_of e)
    → files_at (terms_of inventory) (h ▷ e) end ≡ files_with inventory jobs.jobs (h ▷ e) end
files-with inventory jobs h e end stands after le =
    let begun : before (60 * end) (h ▷ e) ≡ h =
    before-stays h e (60 * end) (omega (arith, le)) ∙ before_all h (60 * end) (omega (arith, after)) in
    ap (λ g. flat_map (file_at (terms_of inventory) (h ▷ e) end) (ids_after Job g)) begun
    ∙ (ap (flat_map (file_at (terms_of inventory) (h ▷ e) end)) (sym stands.of_jobs.listed)
    ∙ flat_map-map (file_at (terms_of inventory) (h ▷ e) end) (λ (s : Standing). s.id) jobs.jobs)

pub adds-files : (inventory : InventoryState) (jobs : JobsState) (h : History) (boot : Bool) (m : ℕ) (closer : Closer)
    (reports : List DueReport)
    → Stands inventory jobs h → IsHistory (h ▷ ended_by boot m)
    → AreFiles inventory jobs.jobs closer.jobs.jobs.items
    (behind (files_with inventory jobs.jobs (h ▷ ended_by boot m)) (tick_of (last_moment h)) (tick_of m - tick_of (last_moment h))) reports
    → AddsFiles inventory jobs h (ended_by boot m) closer reports
adds-files inventory jobs h boot m closer reports stands is are =
    let e = ended_by boot m in
    let at = moment-of boot m in
    let later = later-than h boot m is in
    let next = files_of-next (terms_of inventory) h e (omega (arith, later, at)) in
    let n : tick_of (moment_of e) - tick_of (last_moment h) ≡ tick_of m - tick_of (last_moment h) =
    ap (λ k. tick_of k - tick_of (last_moment h)) at in
    let same = behind-same (files_at (terms_of inventory) (h ▷ e)) (files_with inventory jobs.jobs (h ▷ e)) (tick_of (last_moment h))
    (tick_of m - tick_of (last_moment h))
    (λ end after le. files-with inventory jobs h e end stands after (omega (arith, le, at, after))) in
    record {
      added = behind (files_with inventory jobs.jobs (h ▷ e)) (tick_of (last_moment h)) (tick_of m - tick_of (last_moment h));
      adds = next ∙ ap (λ fs. files_of (terms_of inventory) h ++ fs) (ap (behind (files_at (terms_of inventory) (h ▷ e)) (tick_of (last_moment h))) n ∙ same);
      are = are;
    }

-- ---- after ticks ended

pub boots-after : (h : History) (boot : Bool) (m : ℕ) → IsHistory (h ▷ ended_by boot m)
    → (boot ≡ false → tick_of (last_moment h) < tick_of m) → is_cut (h ▷ ended_by boot m) (tick_of (moment_of (ended_by boot m))) ≡ boot
boots-after h false m is after =
    or_from (is_cut h (tick_of m)) false (is_cut-past h (tick_of m) is.0 (after refl)) refl
boots-after Start true m is after =
    let here = le-leb (tick_of m) (tick_of m) (omega arith) in
    or_right (is_cut Start (tick_of m)) _ (and_from _ _ here here)
boots-after (h ▷ e) true m is after =
    let later = is.1.later in
    let from = le-leb (tick_of (moment_of e)) (tick_of m) (omega (arith, later)) in
    let to = le-leb (tick_of m) (tick_of m) (omega arith) in
    or_right (is_cut (h ▷ e) (tick_of m)) _ (and_from _ _ from to)

pub jobs-open : (inventory : InventoryState) (jobs : List Standing) (h : History) (boot : Bool) (m : ℕ) (kept : List OpenJob)
    → length kept ≡ length jobs → AreAsked inventory jobs kept
    → ReportsStand inventory (h ▷ ended_by boot m) (tick_of m) jobs kept → JobsOpen inventory (h ▷ ended_by boot m) jobs kept
jobs-open inventory jobs h boot m kept as_many asked stand = record {
  as_many = as_many;
  each = λ k s job lt. record {
    asked = asked k s job lt;
    report =
        subst (λ n. StandsAt inventory (h ▷ ended_by boot m) (get_or jobs k s) (tick_of n) [] (get_or kept k job).report)
        (sym (moment-of boot m)) (stand k s job lt);
  };
}

-- open reports fit the cells that are kept from then on
pub reports-covered : (old new : TickCells) (from tick : ℕ) (jobs : List OpenJob) → new.first ≡ max old.first from
    → ReportsFit old tick jobs → ((k : ℕ) (job : OpenJob) → k < length jobs → from ≤ (get_or jobs k job).report.marks.begin)
    → ReportsFit new tick jobs
reports-covered old new from tick jobs first fit begun k job lt =
    let one = fit k job lt in
    let late = begun k job lt in
    record {
      within = one.within;
      reach = one.reach;
      covered = λ j within early.
          elim (cases_lt ((get_or jobs k job).report.marks.begin + j) old.first) [
            | inl past ↦ one.covered j within past
            | inr kept ↦ absurd (omega (arith, kept, early, late, first))
          ];
      unfinished = one.unfinished;
    }

-- a granularity period is at most so long
pub reports-near : (kept : TickCells) (tick : ℕ) (jobs : List OpenJob) → ReportsFit kept tick jobs
    → (k : ℕ) (job : OpenJob) → k < length jobs → tick < (get_or jobs k job).report.marks.begin + MOST_TICKS
reports-near kept tick jobs fit k job lt =
    let own = fit k job lt in
    let reach = own.reach in
    let within = own.within in
    let few = (get_or jobs k job).few in
    omega (arith, reach, within, few)

-- what is stored
pub stored-is : (boot : Bool) (cells : List Cell) (stored : List FilledCell)
    → stored ≡ cond boot [] (filled_from 0 cells) → stored ≡ stored_cells boot cells
stored-is true cells stored is = is
stored-is false cells stored is = is

-- ---- entries that end nothing

quiet-stays : (inventory : InventoryState) (jobs : JobsState) (h : History) (e : Entry) (closer : Closer)
    → cuts h e (tick_of (last_moment h)) ≡ false → ((id : List ℕ) → change_of Job id e ≡ None)
    → ((id : List ℕ) → change_of Monitor id e ≡ None)
    → last_moment h ≤ moment_of e → tick_of (moment_of e) ≡ tick_of (last_moment h)
    → CloserStands inventory jobs h closer → CloserStands inventory jobs (h ▷ e) closer
quiet-stays inventory jobs h e closer uncut none neither later same stand = record {
  cells = cells-stay (slots inventory) h e closer.cells later same stand.cells;
  boots =
      ap (is_cut (h ▷ e)) same
      ∙ (or_false (is_cut h (tick_of (last_moment h))) (cuts h e (tick_of (last_moment h))) uncut ∙ stand.boots);
  open_jobs =
      all-on inventory h e jobs.jobs closer.jobs.jobs.items later same
      (λ k s lt. subst IsNoMaking (sym (none (get_or jobs.jobs k s).id)) tt) stand.open_jobs;
  open_monitors =
      monitors-open-stay inventory jobs h e closer.monitors.monitors.items later same neither stand.open_monitors;
}

pub unstored-stays : (inventory : InventoryState) (jobs : JobsState) (h : History) (e : Entry) (closer : Closer)
    → IsUnstored h e → CloserStands inventory jobs h closer → CloserStands inventory jobs (h ▷ e) closer
unstored-stays inventory jobs h (Now m) closer quiet stand =
    quiet-stays inventory jobs h (Now m) closer refl (λ id. refl) (λ id. refl) quiet.follows.later (unstored_in_tick h (Now m) quiet).1 stand
unstored-stays inventory jobs h (Event m o k v r) closer quiet stand =
    quiet-stays inventory jobs h (Event m o k v r) closer refl (λ id. refl) (λ id. refl) quiet.follows.later
    (unstored_in_tick h (Event m o k v r) quiet).1 stand
unstored-stays inventory jobs h _ closer quiet stand = let none = quiet.without in absurd cc

pub closer-stays : CloserStays
closer-stays = record {
  unstored = unstored-stays;
  subscribed = λ inventory jobs h moment id port path closer follows stand.
      quiet-stays inventory jobs h (Subscribed moment id port path) closer refl (λ i. refl) (λ i. refl) follows.later
      (ap tick_of (follows.beside refl).1) stand;
  unsubscribed = λ inventory jobs h moment id closer follows stand.
      quiet-stays inventory jobs h (Unsubscribed moment id) closer refl (λ i. refl) (λ i. refl) follows.later
      (ap tick_of (follows.beside refl).1) stand;
}
