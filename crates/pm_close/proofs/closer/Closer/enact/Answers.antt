use Rattle.std.proofs.Common.{◌≤◌, ◌<◌, ◌+◌, ◌-◌, ◌∙◌, ℕ, max, List, length, get_or, sym, ap, subst, arith}
use Rattle.std.proofs.lemmas.Nat.{mul-le}
use Rattle.pm_inventory.specs.Inventory.{slots}
use Rattle.pm_history.specs.History.{◌▷◌}
use Rattle.pm_close.specs.declared.limits.TheConstants.{MOST_TICKS}
use Rattle.pm_close.specs.declared.open_job.OpenJob.{OpenJob}
use Rattle.pm_close.specs.Cells.{AreOpen}
use Rattle.pm_close.specs.Parts.{AreWithin}
use Rattle.pm_close.specs.OpenJobs.{PlanFits, ReportsStand}
use Rattle.pm_close.specs.OpenMonitors.{AllGoOn, MonitorsOpen}
use Rattle.pm_close.specs.DueReports.{ended_by}
use Rattle.pm_close.proofs.CloserLemmas.{reports-covered, reports-near, later-than, history-of, boots-after, jobs-open, asked-of}
use Rattle.pm_close.proofs.CloserMonitorLemmas.{monitors-go_on, length-enacted}
use Rattle.pm_close.proofs.closer.Closer.enact.Goals as goal

pub end_with-requires-clause-near : goal.end_with-requires-clause-near
end_with-requires-clause-near c =
    let old = c.args.self.now in
    let tick = c.args.booking.tick in
    let fit = c.enact.ensures.fits old.cells tick c.requires.plans in
    let of_jobs = c.first_needed-of_jobs.ensures.near MOST_TICKS (omega arith)
    (subst (λ (js : List OpenJob). (k : ℕ) (job : OpenJob) → k < length js → tick < (get_or js k job).report.marks.begin + MOST_TICKS)
    (sym c.jobs.ensures) (reports-near old.cells tick c.enact.new.self.jobs.items fit)) in
    let of_monitors = c.first_needed-of_monitors.ensures.near old.cells (subst (AllGoOn old.cells tick) (sym c.enact-2.ensures) c.requires.go_on) in
    let least = c.min-from.ensures in
    omega (arith, of_jobs, of_monitors, least)

pub end_with-requires-clause-room : goal.end_with-requires-clause-room
end_with-requires-clause-room c =
    let near = end_with-requires-clause-near c in
    let cells = c.args.self.now.cells in
    let few = mul-le (c.args.booking.tick - max cells.first c.min-from.result) cells.slots 59 cells.slots (omega (arith, near)) (omega arith) in
    let had = c.args.self.now.room in
    omega (arith, few, had)

pub invariant_of-self-clause-fit : goal.invariant_of-self-clause-fit
invariant_of-self-clause-fit c = λ k job lt.
    let old = c.args.self.now in
    let new = c.end_with.new.self in
    let ended = c.end_with.ensures in
    let tick = c.args.booking.tick in
    let least = c.min-from.ensures in
    let fit = c.enact.ensures.fits old.cells tick c.requires.plans in
    let covered = reports-covered old.cells new c.min-from.result tick c.enact.new.self.jobs.items ended.from fit
    (subst (λ (js : List OpenJob). (j : ℕ) (e : OpenJob) → j < length js → c.min-from.result ≤ (get_or js j e).report.marks.begin)
    c.jobs.ensures (λ j e inside. let begun = c.first_needed-of_jobs.ensures.begun j e inside in omega (arith, begun, least))) in
    record {
      within =
          subst (λ n. AreWithin n (get_or c.enact.new.self.jobs.items k job).measures.items) (sym ended.slots)
          (c.enact.ensures.within old.cells.slots (λ j e inside. (old.fit j e inside).within) k job lt);
      report =
          subst (λ n. PlanFits new n (get_or c.enact.new.self.jobs.items k job) (get_or c.enact.new.self.jobs.items k job).report)
          (sym ended.reach) (covered k job lt);
    }

pub invariant_of-self-clause-go_on : goal.invariant_of-self-clause-go_on
invariant_of-self-clause-go_on c =
    let old = c.args.self.now in
    let new = c.end_with.new.self in
    let ended = c.end_with.ensures in
    let tick = c.args.booking.tick in
    let least = c.min-from.ensures in
    let go_on = subst (AllGoOn old.cells tick) (sym c.enact-2.ensures) c.requires.go_on in
    subst (λ n. AllGoOn new n c.enact-2.new.self.monitors.items) (sym ended.reach)
    (monitors-go_on old.cells new c.min-from.result tick c.enact-2.new.self.monitors.items ended.slots ended.from
    (λ k d lt. let need = c.first_needed-of_monitors.ensures.first.needs k d lt in omega (arith, need, least)) go_on)

pub invariant_of-self-clause-room : goal.invariant_of-self-clause-room
invariant_of-self-clause-room c =
    let had = c.args.self.now.room in
    let same = c.end_with.ensures.slots in
    let more = c.end_with.ensures.room in
    omega (arith, had, same, more)

pub returns-clause-stands : goal.returns-clause-stands
returns-clause-stands c = λ inventory jobs h m stand is booked.
    let boot = c.args.booking.boot in
    let g = h ▷ ended_by boot m in
    let reach = stand.cells.reach in
    let tick = booked.tick in
    let as_many = c.enact.ensures.as_many ∙ stand.open_jobs.as_many in
    record {
      cells =
          c.end_with.ensures.stands (slots inventory) h m (history-of h boot m is) (later-than h boot m is) (sym tick)
          (subst (AreOpen (slots inventory) h) (sym c.deref.ensures.value) booked.row) stand.cells;
      boots =
          boots-after h boot m is
          (λ now. let lt = c.requires.after now in omega (arith, lt, reach, tick));
      open_jobs =
          jobs-open inventory jobs.jobs h boot m c.enact.new.self.jobs.items as_many
          (c.enact.ensures.asked inventory jobs.jobs (sym stand.open_jobs.as_many)
          (asked-of inventory jobs h c.args.self.now.jobs.jobs.items stand.open_jobs))
          (subst (λ n. ReportsStand inventory g n jobs.jobs c.enact.new.self.jobs.items) tick
          (c.enact.ensures.stands inventory g c.args.booking.tick jobs.jobs (sym stand.open_jobs.as_many) booked.plans));
      open_monitors = subst (MonitorsOpen inventory jobs g) (sym c.enact-2.ensures) booked.monitors;
    }

pub returns-clause-paired : goal.returns-clause-paired
returns-clause-paired c = λ jobs paired. record {
  of_jobs = paired.of_jobs ∙ sym c.enact.ensures.as_many;
  of_monitors =
      ap length c.enact-2.ensures
      ∙ (length-enacted c.args.self.now.monitors.monitors.items c.args.booking.monitors.items ∙ paired.of_monitors);
}
