use Rattle.std.proofs.Common.{ℕ, map, sym, subst, ◌∙◌}
use Rattle.pm_base.specs.Moment.{tick_of}
use Rattle.pm_history.specs.declared.entry.Side.TheVariants.{Job}
use Rattle.pm_history.specs.declared.entry.Entry.TheVariants.{Now}
use Rattle.pm_history.specs.Files.{files_of}
use Rattle.pm_history.specs.History.{◌▷◌, last_moment}
use Rattle.pm_asked.specs.Asked.{terms_of}
use Rattle.pm_close.specs.DueReports.{AreFiles, ended_by}
use Rattle.pm_close.specs.MonitorPlans.{AreCrossings}
use Rattle.pm_ready.specs.Files.{AreFilesOf, file_of}
use Rattle.pm_notify.specs.Kept.{AddsNotices}
use Rattle.pm_state.proofs.ClosingLemmas.{all-keep}
use Rattle.pm_state.proofs.NoticeLemmas.{notices-added}
use Rattle.pm_state.proofs.closing.Closing.end.Goals as goal

pub returns-clause-end : goal.returns-clause-end
returns-clause-end c = λ h stand stands is current.
    let inventory = c.args.inventory.now in
    let jobs = c.args.jobs.now in
    let closer = c.args.self.now.closer in
    let boot = c.args.boot in
    let m = c.args.moment in
    let booking = c.in_ok-booking.booking in
    let from = c.tick-from.result in
    let at = sym stand.closer.cells.reach ∙ sym c.tick-from.ensures in
    let adds = c.in_ok-booking.ensures.files inventory h stand.closer stands is current in
    let are = c.in_ok-files.ensures (h ▷ ended_by boot m) (files_of (terms_of inventory) h) adds.added is
    (all-keep inventory Job h jobs.jobs stands.of_jobs.each) adds.adds
    (subst (AreFiles inventory jobs.jobs closer.jobs.jobs.items adds.added) (sym c.reports.ensures) adds.are) in
    let told = notices-added inventory jobs h boot m from _ adds.added _ c.crossings-crossings.result.now _
    c.in_ok-notices.ensures.boot c.in_ok-notices.ensures.now is stands at adds.adds
    (subst (λ fs. AreFilesOf inventory adds.added (map file_of fs)) (sym c.deref.ensures.value) are)
    (λ b. c.crossings-crossings.ensures ∙ c.in_ok-booking.ensures.no_crossings b)
    (λ b history.
    subst (AreCrossings inventory jobs (h ▷ Now m) from (tick_of m)) (sym c.crossings-crossings.ensures)
    (subst (λ (f : ℕ). AreCrossings inventory jobs (h ▷ Now m) f (tick_of m) booking.crossings.items) at
    (subst (λ (t : ℕ). AreCrossings inventory jobs (h ▷ Now m) (tick_of (last_moment h)) t booking.crossings.items) c.in_ok-booking.ensures.entry.1
    (c.in_ok-booking.ensures.crossings b inventory h stand.closer stands history current)))) in
    record {
      boot_is = c.in_ok-booking.ensures.entry.0;
      booking = c.in_ok-booking.ensures.stands inventory h stand.closer stands is current;
      files = record {
        added = adds.added;
        adds = adds.adds;
        are = are;
      };
      notices = subst (λ (n : ℕ). AddsNotices inventory h (ended_by boot m) n c.in_ok-notices.notices.notices.items) (sym c.reserve-2.ensures.total) told;
    }
