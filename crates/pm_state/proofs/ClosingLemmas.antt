-- What ends with ticks, after each entry.
use Rattle.std.proofs.Common.{◌≡◌, ℕ, zero, suc, ◌*◌, ◌≤◌, Bool, true, false, cond, List, [], ◌∷◌, refl, sym, ap, ◌∙◌, subst, arith}
use Rattle.std.specs.List.{AllByRecursion}
use Rattle.std.proofs.lemmas.List.Elements.{All-head, All-tail}
use Rattle.pm_base.specs.Moment.{tick_of}
use Rattle.pm_meas.specs.declared.cell.Cell.{Cell}
use Rattle.pm_meas.specs.declared.cell.TheConstants.{MAX_VALUE}
use Rattle.pm_events.specs.declared.event.TheConstants.{MOST_REGISTERED}
use Rattle.pm_inventory.specs.Inventory.{InventoryState, slots}
use Rattle.pm_history.specs.declared.entry.Side.{Side}
use Rattle.pm_history.specs.declared.entry.Entry.{Entry}
use Rattle.pm_history.specs.declared.entry.Entry.TheVariants.{Boot, Now}
use Rattle.pm_history.specs.Entry.{moment_of}
use Rattle.pm_history.specs.History.{History, ◌▷◌, grown, last_moment, IsHistory}
use Rattle.pm_items.specs.Unstored.{IsUnstored, AreUnstored}
use Rattle.pm_items.proofs.UnstoredLemmas.{unstored_in_tick}
use Rattle.pm_batch.specs.declared.open_events.OpenEvents.{OpenEvents}
use Rattle.pm_batch.specs.OpenEvents.{EventsStand}
use Rattle.pm_batch.specs.Phases as phases
use Rattle.pm_batch.proofs.LawLemmas.{tick-cells}
use Rattle.pm_jobs.specs.State.{JobsState}
use Rattle.pm_jobs.specs.Stands.{Keeps, StandsFor}
use Rattle.pm_jobs.specs.declared.standing.Standing.{Standing}
use Rattle.pm_close.specs.Rows.{AreSmall}
use Rattle.pm_close.specs.Closer.{AreCurrent, CloserStands}
use Rattle.pm_close.specs.DueReports.{ended_by}
use Rattle.pm_close.proofs.CloserLemmas.{closer-stays}
use Rattle.pm_ready.specs.Files.{File}
use Rattle.pm_ready.specs.Kept.{FilesStand}
use Rattle.pm_ready.proofs.KeptLemmas.{stand-same}
use Rattle.pm_notify.specs.Kept.{NoticesState, NoticesStand}
use Rattle.pm_notify.proofs.KeptLemmas as of_notices
use Rattle.pm_state.specs.declared.closing.Closing.{Closing}
use Rattle.pm_state.specs.Closing.{ClosingStands, IsKept}
use Rattle.pm_state.specs.ChangeItem.{AreChangesAt}
use Rattle.pm_state.specs.Opening.{is_boot, opening_in}

-- ---- entries without an item

pub closing-unstored : (inventory : InventoryState) (jobs : JobsState) (h : History) (e : Entry) (closing : Closing) → IsUnstored h e
    → ClosingStands inventory jobs h closing → ClosingStands inventory jobs (h ▷ e) closing
closing-unstored inventory jobs h e closing unstored stand = record {
  closer = closer-stays.unstored inventory jobs h e closing.closer unstored stand.closer;
  files = stand-same inventory h e closing.files.files unstored.follows.later (unstored_in_tick h e unstored).1 stand.files;
  notices = of_notices.stand-same inventory h e closing.notices unstored.follows.later (unstored_in_tick h e unstored).1 stand.notices;
}

pub closing-batch : (inventory : InventoryState) (jobs : JobsState) (h : History) (es : List Entry) (closing : Closing) → AreUnstored h es
    → ClosingStands inventory jobs h closing → ClosingStands inventory jobs (grown h es) closing
closing-batch inventory jobs h [] closing are stand = stand
closing-batch inventory jobs h (e ∷ es) closing are stand =
    closing-batch inventory jobs (h ▷ e) es closing are.1 (closing-unstored inventory jobs h e closing are.0 stand)

-- ---- changes

pub files-changed : (inventory : InventoryState) (h : History) (moment : ℕ) (es : List Entry) (files : List File) → moment ≡ last_moment h
    → AreChangesAt moment es → FilesStand inventory h files → FilesStand inventory (grown h es) files
files-changed inventory h moment [] files is all stand = stand
files-changed inventory h moment (e ∷ es) files is all stand =
    files-changed inventory (h ▷ e) moment es files (sym all.0.moment_is) all.1
    (stand-same inventory h e files (omega (arith, all.0.moment_is, is)) (ap tick_of (all.0.moment_is ∙ is)) stand)

pub notices-changed : (inventory : InventoryState) (h : History) (moment : ℕ) (es : List Entry) (s : NoticesState) → moment ≡ last_moment h
    → AreChangesAt moment es → NoticesStand inventory h s → NoticesStand inventory (grown h es) s
notices-changed inventory h moment [] s is all stand = stand
notices-changed inventory h moment (e ∷ es) s is all stand =
    notices-changed inventory (h ▷ e) moment es s (sym all.0.moment_is) all.1
    (of_notices.stand-same inventory h e s (omega (arith, all.0.moment_is, is)) (ap tick_of (all.0.moment_is ∙ is)) stand)

-- ---- ticks that end

pub current : (inventory : InventoryState) (h : History) (events : OpenEvents) → IsHistory h → EventsStand inventory h [] events
    → AreCurrent (slots inventory) h events.tick.cells.items
current inventory h events is stand = λ whole. tick-cells inventory h events.tick is whole stand.tick

pub small : (cells : List Cell) → phases.AreSmall MOST_REGISTERED cells → AreSmall cells
small [] all k lt = absurd (omega (arith, lt))
small (c ∷ cs) all zero lt = All-head (λ (x : Cell). (x.n ≤ MOST_REGISTERED) × (x.sum ≤ x.n * MAX_VALUE)) c cs all
small (c ∷ cs) all (suc k) lt =
    small cs (All-tail (λ (x : Cell). (x.n ≤ MOST_REGISTERED) × (x.sum ≤ x.n * MAX_VALUE)) c cs all) k (omega (arith, lt))

pub ended-is : (last moment : ℕ) → ended_by (is_boot last moment) moment ≡ opening_in last moment
ended-is last moment = by (is_boot last moment)
  where
    by : (b : Bool) → ended_by b moment ≡ cond b (Boot moment) (Now moment)
    by true = refl
    by false = refl

pub all-keep : (inventory : InventoryState) (side : Side) (h : History) (items : List Standing) → AllByRecursion (StandsFor inventory side h) items
    → AllByRecursion (Keeps inventory side) items
all-keep inventory side h [] all = tt
all-keep inventory side h (s ∷ ss) all = (all.0.keeps, all-keep inventory side h ss all.1)

-- ---- the closing

notices-same : (inventory : InventoryState) (h : History) (old new : NoticesState) → IsKept old new → NoticesStand inventory h old
    → NoticesStand inventory h new
notices-same inventory h old new same stand = record {
  all = stand.all;
  told = stand.told;
  total = same.total ∙ stand.total;
  kept = same.kept ∙ stand.kept;
}

pub closing-same : (inventory : InventoryState) (jobs : JobsState) (h : History) (old new : Closing) → new.closer ≡ old.closer
    → new.files.files ≡ old.files.files → IsKept old.notices new.notices → ClosingStands inventory jobs h old
    → ClosingStands inventory jobs h new
closing-same inventory jobs h old new closer files kept stand = record {
  closer = subst (CloserStands inventory jobs h) (sym closer) stand.closer;
  files = subst (FilesStand inventory h) (sym files) stand.files;
  notices = notices-same inventory h old.notices new.notices kept stand.notices;
}

pub ended-moment : (boot : Bool) (moment : ℕ) → moment_of (ended_by boot moment) ≡ moment
ended-moment true moment = refl
ended-moment false moment = refl
