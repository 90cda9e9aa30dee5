use Rattle.std.proofs.Common.{◌<◌, ◌+◌, sym, ap, ◌∙◌, subst, arith}
use Rattle.pm_close.specs.declared.marks.Marks.{Marks}
use Rattle.pm_close.specs.Marks.{MarksStand}
use Rattle.pm_close.specs.Watched.{PeriodEnds, all_crossed}
use Rattle.pm_close.specs.MonitorPlans.{watches_of_plan}
use Rattle.pm_close.proofs.CopyLemmas.{copy-stands}
use Rattle.pm_close.proofs.PassLemmas.{value_at-within, watches-pass, crossings-none}
use Rattle.pm_close.proofs.open_monitors_plan.MonitorPlan.end_tick.Goals as goal

pub returns-in_default-clause-stands : goal.returns-in_default-clause-stands
returns-in_default-clause-stands c =
    let granularity = c.args.monitor.now.granularity in
    let watches = watches_of_plan c.args.monitor.now.open.watches c.args.self.now.watches in
    λ terms slots h w watched armed tick knows mark stand.
    let before = stand.armed_before in
    let more : c.args.self.now.marks.count + 1 < granularity = grind (arith, c.in_default.ensures.ends) in
    record {
      armed_before = omega (arith, before);
      marks = c.in_default.ensures.stands terms h w tick stand.marks mark;
      watches = watches-pass terms h w granularity armed tick before
          (λ object m. value_at-within terms h w granularity object m tick c.args.self.now.marks stand.marks more)
          slots watched watches.metrics.items stand.watches;
    }

pub returns-in_default-clause-crossings : goal.returns-in_default-clause-crossings
returns-in_default-clause-crossings c =
    let granularity = c.args.monitor.now.granularity in
    λ terms slots h w watched armed tick knows mark stand.
    let more : c.args.self.now.marks.count + 1 < granularity = grind (arith, c.in_default.ensures.ends) in
    ap (all_crossed w.id (tick + 1)) c.new.ensures.items
    ∙ sym (crossings-none terms h w granularity armed (tick + 1) watched
    (λ object m. value_at-within terms h w granularity object m tick c.args.self.now.marks stand.marks more))

pub returns-clause-stands : goal.returns-clause-stands
returns-clause-stands c =
    let granularity = c.args.monitor.now.granularity in
    let old = watches_of_plan c.args.monitor.now.open.watches c.args.self.now.watches in
    let copy = c.in_ok-watches.watches in
    λ terms slots h w watched armed tick knows mark stand.
    let before = stand.armed_before in
    let ends : PeriodEnds terms slots h w granularity armed tick c.args.kept.now c.args.row.now c.in-Some.period = record {
      later = before;
      knows = knows;
      whole = c.in-Some.ensures.period terms h w tick stand.marks mark;
    } in
    let same = copy-stands terms slots h w granularity watched armed tick old.metrics.items copy.metrics.items c.in_ok-watches.ensures.watches
    stand.watches in
    record {
      armed_before = omega (arith, before);
      marks = subst (λ (m : Marks). MarksStand terms h w granularity (tick + 1) m) (sym c.take_watches.ensures.marks)
          (c.in-Some.ensures.stands terms h w tick stand.marks mark);
      watches = c.in_ok-crossings.ensures.stands terms slots h w granularity watched armed tick ends same;
    }

pub returns-clause-crossings : goal.returns-clause-crossings
returns-clause-crossings c =
    let granularity = c.args.monitor.now.granularity in
    let old = watches_of_plan c.args.monitor.now.open.watches c.args.self.now.watches in
    let copy = c.in_ok-watches.watches in
    λ terms slots h w watched armed tick knows mark stand.
    let ends : PeriodEnds terms slots h w granularity armed tick c.args.kept.now c.args.row.now c.in-Some.period = record {
      later = stand.armed_before;
      knows = knows;
      whole = c.in-Some.ensures.period terms h w tick stand.marks mark;
    } in
    let same = copy-stands terms slots h w granularity watched armed tick old.metrics.items copy.metrics.items c.in_ok-watches.ensures.watches
    stand.watches in
    c.in_ok-crossings.ensures.crossings terms slots h w granularity watched armed tick ends same
