-- The notices that an entry adds, by its files and its crossings.
use Rattle.std.proofs.Common.{◌≡◌, ℕ, ◌+◌, ◌-◌, ◌*◌, ◌<◌, ◌≤◌, List, [], ◌++◌, length, map, Result, Ok, Err, IfOk, sym, ap, subst, ◌∙◌, arith, append-nil}
use Rattle.std.specs.List.{flat_map}
use Rattle.std.proofs.lemmas.List.{append_cancel_left}
use Rattle.pm_base.specs.Moment.{tick_of}
use Rattle.pm_history.specs.declared.entry.Side.TheVariants.{Monitor}
use Rattle.pm_history.specs.declared.entry.Entry.{Entry}
use Rattle.pm_history.specs.declared.entry.Entry.TheVariants.{Boot, Now}
use Rattle.pm_history.specs.Entry.{moment_of}
use Rattle.pm_history.specs.History.{History, Start, ◌▷◌, IsHistory, last_moment}
use Rattle.pm_history.specs.Ticks.{behind}
use Rattle.pm_history.specs.Standing.{ids_after}
use Rattle.pm_history.specs.Files.{Report, files_at, files_of}
use Rattle.pm_history.specs.Notices as history
use Rattle.pm_history.proofs.HistoryLemmas.{before-stays}
use Rattle.pm_history.proofs.StayLemmas.{files_of-next, notices_of-next}
use Rattle.pm_history.proofs.StepLemmas.{files_of-same_tick, notices_of-same_tick}
use Rattle.pm_inventory.specs.Inventory.{InventoryState}
use Rattle.pm_asked.specs.Asked.{terms_of}
use Rattle.pm_jobs.specs.State.{JobsState}
use Rattle.pm_jobs.specs.Stands.{Stands}
use Rattle.pm_close.specs.declared.open_monitors_tick.EndCrossings.{EndCrossings}
use Rattle.pm_close.specs.MonitorPlans.{AreCrossings}
use Rattle.pm_close.proofs.BootLemmas.{no-crossings}
use Rattle.pm_notice.specs.declared.notice.Notice.{Notice}
use Rattle.pm_ready.specs.declared.ready.ReadyFile.{ReadyFile}
use Rattle.pm_ready.specs.Files.{AreFilesOf, file_of}
use Rattle.pm_notify.specs.Notices.{AreNoticesFrom}
use Rattle.pm_notify.specs.Kept.{notices_of, AddsNotices}
use Rattle.pm_notify.specs.Ends.{AreEnds}
use Rattle.pm_notify.proofs.EndLemmas.{only-files}
use Rattle.pm_notify.proofs.TellableLemmas.{now-told}

module _ (inventory : InventoryState) where
  -- the reports that an entry adds are those of the ends that come with it
  reports-are : (h : History) (e : Entry) (reports : List Report) → last_moment h ≤ moment_of e
      → files_of (terms_of inventory) (h ▷ e) ≡ files_of (terms_of inventory) h ++ reports
      → behind (files_at (terms_of inventory) (h ▷ e)) (tick_of (last_moment h)) (tick_of (moment_of e) - tick_of (last_moment h)) ≡ reports
  reports-are h e reports le grows =
      append_cancel_left (files_of (terms_of inventory) h) _ reports (sym (files_of-next (terms_of inventory) h e le) ∙ grows)

  -- what a request ends
  pub now-ends : (jobs : JobsState) (h : History) (m from : ℕ) (reports : List Report) (files : List ReadyFile) (crossings : List EndCrossings)
      → IsHistory (h ▷ Now m) → Stands inventory jobs h → tick_of (last_moment h) ≡ from
      → files_of (terms_of inventory) (h ▷ Now m) ≡ files_of (terms_of inventory) h ++ reports → AreFilesOf inventory reports (map file_of files)
      → AreCrossings inventory jobs (h ▷ Now m) from (tick_of m) crossings
      → AreEnds inventory jobs (h ▷ Now m) from files crossings
  now-ends jobs h m from reports files crossings is stands at grows are told =
      let moment = is.1.moment in
      let later = is.1.later in
      let many = told.as_many in
      let count : tick_of m - tick_of (last_moment h) ≡ length crossings = omega (arith, at, many) in
      let own : behind (files_at (terms_of inventory) (h ▷ Now m)) from (length crossings) ≡ reports =
      (λ i. behind (files_at (terms_of inventory) (h ▷ Now m)) (sym at i) (sym count i)) ∙ reports-are h (Now m) reports later grows in
      record {
        ready = subst (λ (rs : List Report). AreFilesOf inventory rs (map file_of files)) (sym own) are;
        crossed = told.each;
        tellable = λ k lt. now-told inventory jobs h m (from + k + 1) stands (omega (arith, at)) (omega (arith, lt, many));
        in_range = omega (arith, moment, many);
      }

  -- the notices of those ends are the ones that it adds
  pub now-adds : (h : History) (m from n first : ℕ) (posted : List Notice) → last_moment h ≤ m → tick_of (last_moment h) ≡ from → from + n ≡ tick_of m
      → AreNoticesFrom inventory first (behind (history.notices_at (terms_of inventory) (h ▷ Now m)) from n) posted
      → AddsNotices inventory h (Now m) first posted
  now-adds h m from n first posted later at many told =
      let count : tick_of m - tick_of (last_moment h) ≡ n = omega (arith, at, many) in
      record {
        added = behind (history.notices_at (terms_of inventory) (h ▷ Now m)) from n;
        grows = notices_of-next (terms_of inventory) h (Now m) later
            ∙ (λ i. notices_of inventory h ++ behind (history.notices_at (terms_of inventory) (h ▷ Now m)) (at i) (count i));
        told = told;
      }

  -- a request in the tick of the last moment adds none
  pub same-adds : (h : History) (m first : ℕ) (reports : List Report) (posted : List Notice) → last_moment h ≤ m → tick_of m ≡ tick_of (last_moment h)
      → files_of (terms_of inventory) (h ▷ Now m) ≡ files_of (terms_of inventory) h ++ reports
      → AreNoticesFrom inventory first (map history.FileReady reports) posted → AddsNotices inventory h (Now m) first posted
  same-adds h m first reports posted later same grows told =
      let none : [] ≡ reports =
      append_cancel_left (files_of (terms_of inventory) h) [] reports
      (append-nil (files_of (terms_of inventory) h) ∙ sym (files_of-same_tick (terms_of inventory) h (Now m) later same) ∙ grows) in
      record {
        added = map history.FileReady reports;
        grows = notices_of-same_tick (terms_of inventory) h (Now m) later same ∙ sym (append-nil (notices_of inventory h))
            ∙ ap (λ (rs : List Report). notices_of inventory h ++ map history.FileReady rs) none;
        told = told;
      }

  -- a start of the program has no crossings, also where it is the first entry
  boot-none : (h : History) (m end : ℕ) → tick_of (last_moment h) < end → end ≤ tick_of m
      → history.crossings_at (terms_of inventory) (h ▷ Boot m) end ≡ []
  boot-none Start m end after within =
      ap (λ (b : History). flat_map (history.crossings_under (terms_of inventory) (Start ▷ Boot m) end) (ids_after Monitor b))
      (before-stays Start (Boot m) (60 * end) (omega (arith, within)))
  boot-none (h ▷ e) m end after within = no-crossings (terms_of inventory) (h ▷ e) m end (omega arith) after within

  -- its notices are those of its files
  pub boot-adds : (h : History) (m first : ℕ) (reports : List Report) (posted : List Notice) → last_moment h ≤ m
      → files_of (terms_of inventory) (h ▷ Boot m) ≡ files_of (terms_of inventory) h ++ reports
      → AreNoticesFrom inventory first (map history.FileReady reports) posted → AddsNotices inventory h (Boot m) first posted
  boot-adds h m first reports posted later grows told =
      let from = tick_of (last_moment h) in
      let n = tick_of m - from in
      let files : behind (history.notices_at (terms_of inventory) (h ▷ Boot m)) from n ≡ map history.FileReady reports =
      only-files (terms_of inventory) (h ▷ Boot m) from n (λ end lt le. boot-none h m end lt (omega (arith, le, lt)))
      ∙ ap (map history.FileReady) (reports-are h (Boot m) reports later grows) in
      record {
        added = map history.FileReady reports;
        grows = notices_of-next (terms_of inventory) h (Boot m) later ∙ ap (λ ns. notices_of inventory h ++ ns) files;
        told = told;
      }

-- what an answer says, where it says more
pub if_ok : {A E : Type 0} (P Q : A → Type 0) (r : Result A E) → ((a : A) → P a → Q a) → IfOk r P → IfOk r Q
if_ok P Q (Ok a) f is = f a is
if_ok P Q (Err e) f is = tt
