use Rattle.std.proofs.Common.{◌≡◌, ◌+◌, ◌-◌, ◌∙◌, length, sym, ap, subst, arith, rules}
use Rattle.std.proofs.lemmas.List.{with_items_is}
use Rattle.pm_base.specs.Moment.{tick_of}
use Rattle.pm_inventory.specs.Inventory.{slots}
use Rattle.pm_history.specs.History.{◌▷◌, last_moment}
use Rattle.pm_history.specs.Ticks.{behind}
use Rattle.pm_close.specs.OpenJobs.{PlansFit, PlansStand, ReportsFit, ReportsStand}
use Rattle.pm_close.specs.DueReports.{AllEnd, AreFiles, ended_by, files_with}
use Rattle.pm_close.specs.Cells.{AreOpen}
use Rattle.pm_close.proofs.CloserLemmas.{row-open, row-small, row-wide, all-end, adds-files, stored-is}
use Rattle.pm_close.proofs.closer.Closer.book.Goals as goal

pub end_all-requires-clause-fits : goal.end_all-requires-clause-fits
end_all-requires-clause-fits c =
    let self = c.args.self.now in
    let from = self.cells.first + self.cells.ticks in
    let reports = subst (ReportsFit self.cells from) (sym c.jobs.ensures) (λ k job lt. (self.fit k job lt).report) in
    subst (PlansFit self.cells from c.jobs-2.result.now) (sym c.as_mut_slice.ensures.value)
    (subst (λ js. PlansFit self.cells from js c.in_ok-plans.plans.items) (c.jobs.ensures ∙ sym c.jobs-2.ensures)
    (c.in_ok-plans.ensures.fits self.cells from reports))

pub invariant_of-result : goal.invariant_of-result
invariant_of-result c = record {
  small = row-small c.args.cells.now c.in_ok-row.row.items c.args.self.now.cut c.requires.small c.in_ok-row.ensures.row;
}

pub returns-clause-suits : goal.returns-clause-suits
returns-clause-suits c =
    let self = c.args.self.now in
    let kept = self.jobs.jobs.items in
    let jobs = c.args.jobs.now.jobs in
    let row = c.in_ok-row.row.items in
    let boot = c.args.boot in
    let m = c.args.moment in
    let until = c.tick-until.result in
    let at = c.tick-until.ensures in
    let final = with_items_is c.in_ok-plans.plans c.end_all.new.plans
    (c.end_all.auto.plans ∙ (ap length c.as_mut_slice.ensures.value ∙ sym c.in_ok-plans.plans.ok.0)) in
    let later = c.requires.later in
    let fit : PlansFit self.cells until kept c.end_all.new.plans =
    subst (λ js. PlansFit self.cells until js c.end_all.new.plans) c.jobs-2.ensures c.in_ok-end_all.ensures.fits in
    record {
      wide = row-wide c.args.cells.now row self.cut c.in_ok-row.ensures.row ∙ c.requires.wide;
      later = omega (arith, at, later);
      after = λ now. let lt = c.requires.after now in omega (arith, at, lt);
      in_range = search rules;
      plans = subst (PlansFit self.cells until kept) (sym final) fit;
      as_many = c.in_ok-of_monitors.ensures.as_many;
      go_on = c.in_ok-of_monitors.ensures.go_on;
    }

pub returns-clause-stands : goal.returns-clause-stands
returns-clause-stands c = λ inventory h stand stands is current.
    let self = c.args.self.now in
    let kept = self.jobs.jobs.items in
    let jobs = c.args.jobs.now.jobs in
    let row = c.in_ok-row.row.items in
    let boot = c.args.boot in
    let m = c.args.moment in
    let until = c.tick-until.result in
    let at = c.tick-until.ensures in
    let final = with_items_is c.in_ok-plans.plans c.end_all.new.plans
    (c.end_all.auto.plans ∙ (ap length c.as_mut_slice.ensures.value ∙ sym c.in_ok-plans.plans.ok.0)) in
    let wide = row-wide c.args.cells.now row self.cut c.in_ok-row.ensures.row in
    let row_is = row-open (slots inventory) h c.args.cells.now row self.cut stand.boots current (c.requires.wide ∙ stand.cells.wide)
    c.in_ok-row.ensures.row in
    let last = tick_of (last_moment h) in
    let long : length jobs ≡ length c.jobs.result.now = c.requires.paired.of_jobs ∙ sym (ap length c.jobs.ensures) in
    let all = all-end inventory c.args.jobs.now h m boot self row until c.in_ok-plans.plans.items stand stands is row_is at
    (λ g reports. subst (λ js. PlansStand inventory g last jobs js c.in_ok-plans.plans.items) c.jobs.ensures
    (c.in_ok-plans.ensures.stands inventory g last jobs long (subst (ReportsStand inventory g last jobs) (sym c.jobs.ensures) reports))) in
    let ends = subst (λ r. AllEnd inventory h m boot self.cells r self.cut until jobs c.jobs-2.result.now c.as_mut_slice.result.now)
    (sym c.deref.ensures.value)
    (subst (λ js. AllEnd inventory h m boot self.cells row self.cut until jobs js c.as_mut_slice.result.now) (sym c.jobs-2.ensures)
    (subst (AllEnd inventory h m boot self.cells row self.cut until jobs kept) (sym c.as_mut_slice.ensures.value) all)) in
    record {
      tick = at;
      row = row_is;
      plans =
          subst (PlansStand inventory (h ▷ ended_by boot m) until jobs kept) (sym final)
          (subst (λ js. PlansStand inventory (h ▷ ended_by boot m) until jobs js c.end_all.new.plans) c.jobs-2.ensures
          (c.in_ok-end_all.ensures.stands inventory h m ends));
      monitors =
          c.in_ok-of_monitors.ensures.open inventory h m
          (record {
            history = is;
            stands = stands;
            cells = stand.cells;
            open_tick = subst (AreOpen (slots inventory) h) (sym c.deref-2.ensures.value) row_is;
            cut_is = stand.boots;
            up_to = sym at;
          })
          stand.open_monitors;
    }

pub returns-clause-files : goal.returns-clause-files
returns-clause-files c = λ inventory h stand stands is current.
    let self = c.args.self.now in
    let kept = self.jobs.jobs.items in
    let jobs = c.args.jobs.now.jobs in
    let row = c.in_ok-row.row.items in
    let boot = c.args.boot in
    let m = c.args.moment in
    let until = c.tick-until.result in
    let at = c.tick-until.ensures in
    let wide = row-wide c.args.cells.now row self.cut c.in_ok-row.ensures.row in
    let row_is = row-open (slots inventory) h c.args.cells.now row self.cut stand.boots current (c.requires.wide ∙ stand.cells.wide)
    c.in_ok-row.ensures.row in
    let last = tick_of (last_moment h) in
    let long : length jobs ≡ length c.jobs.result.now = c.requires.paired.of_jobs ∙ sym (ap length c.jobs.ensures) in
    let all = all-end inventory c.args.jobs.now h m boot self row until c.in_ok-plans.plans.items stand stands is row_is at
    (λ g reports. subst (λ js. PlansStand inventory g last jobs js c.in_ok-plans.plans.items) c.jobs.ensures
    (c.in_ok-plans.ensures.stands inventory g last jobs long (subst (ReportsStand inventory g last jobs) (sym c.jobs.ensures) reports))) in
    let ends = subst (λ r. AllEnd inventory h m boot self.cells r self.cut until jobs c.jobs-2.result.now c.as_mut_slice.result.now)
    (sym c.deref.ensures.value)
    (subst (λ js. AllEnd inventory h m boot self.cells row self.cut until jobs js c.as_mut_slice.result.now) (sym c.jobs-2.ensures)
    (subst (AllEnd inventory h m boot self.cells row self.cut until jobs kept) (sym c.as_mut_slice.ensures.value) all)) in
    let reach = stand.cells.reach in
    let later = c.requires.later in
    let n = tick_of m - last in
    adds-files inventory c.args.jobs.now h boot m self c.end_all.new.reports.items stands is
    (subst (λ js. AreFiles inventory jobs js (behind (files_with inventory jobs (h ▷ ended_by boot m)) last n) c.end_all.new.reports.items)
    c.jobs-2.ensures
    (c.in_ok-end_all.ensures.files inventory h m n ends (omega (arith, at, reach, later)) c.new-reports.ensures.items))

pub returns-clause-cells : goal.returns-clause-cells
returns-clause-cells c = stored-is c.args.boot c.args.cells.now c.in_ok-filled.filled.items c.in_ok-filled.ensures

pub returns-clause-crossings : goal.returns-clause-crossings
returns-clause-crossings c = λ now inventory h stand stands is current.
    let self = c.args.self.now in
    let row = c.in_ok-row.row.items in
    let row_is = row-open (slots inventory) h c.args.cells.now row self.cut stand.boots current (c.requires.wide ∙ stand.cells.wide)
    c.in_ok-row.ensures.row in
    c.in_ok-of_monitors.ensures.crossings now inventory h c.args.moment
    (record {
      history = is;
      stands = stands;
      cells = stand.cells;
      open_tick = subst (AreOpen (slots inventory) h) (sym c.deref-2.ensures.value) row_is;
      cut_is = stand.boots;
      up_to = sym c.tick-until.ensures;
    })
    stand.open_monitors
