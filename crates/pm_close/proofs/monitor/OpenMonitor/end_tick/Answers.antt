use Rattle.std.proofs.Common.{◌+◌, ◌<◌, sym, ap, ◌∙◌, arith}
use Rattle.std.proofs.lemmas.Result.{on_ok_weaker}
use Rattle.pm_close.specs.Watched.{PeriodEnds, WatchesStand, MonitorStands, all_crossed}
use Rattle.pm_close.proofs.PassLemmas.{value_at-within, watches-pass, crossings-none}
use Rattle.pm_close.proofs.monitor.OpenMonitor.end_tick.Goals as goal

pub returns-in-Some-clause-stands : goal.returns-in-Some-clause-stands
returns-in-Some-clause-stands c =
    λ terms slots h w watched armed tick knows mark stand.
    let ends : PeriodEnds terms slots h w c.args.granularity armed tick c.args.kept.now c.args.row.now c.in-Some.period = record {
      later = stand.armed_before;
      knows = knows;
      whole = c.in-Some.ensures.period terms h w tick stand.marks mark;
    } in
    let before = stand.armed_before in
    let next : WatchesStand terms slots h w c.args.granularity watched armed (tick + 1) c.end_period.new.self.metrics.items
    → MonitorStands terms slots h w c.args.granularity watched armed (tick + 1)
    (record { marks = c.end_tick.new.self; watches = c.end_period.new.self }) = λ now. record {
      armed_before = omega (arith, before);
      marks = c.in-Some.ensures.stands terms h w tick stand.marks mark;
      watches = now;
    } in
    on_ok_weaker c.end_period.result next
    (c.end_period.ensures.stands terms slots h w c.args.granularity watched armed tick ends stand.watches)

pub returns-in-Some-clause-crossings : goal.returns-in-Some-clause-crossings
returns-in-Some-clause-crossings c =
    λ terms slots h w watched armed tick knows mark stand.
    c.end_period.ensures.crossings terms slots h w c.args.granularity watched armed tick
    (record {
      later = stand.armed_before;
      knows = knows;
      whole = c.in-Some.ensures.period terms h w tick stand.marks mark;
    })
    stand.watches

pub returns-in-None-clause-stands : goal.returns-in-None-clause-stands
returns-in-None-clause-stands c =
    λ terms slots h w watched armed tick knows mark stand.
    let before = stand.armed_before in
    let more : c.args.self.now.marks.count + 1 < c.args.granularity = grind (arith, c.in-None.ensures.ends) in
    record {
      armed_before = omega (arith, before);
      marks = c.in-None.ensures.stands terms h w tick stand.marks mark;
      watches = watches-pass terms h w c.args.granularity armed tick before
          (λ object m. value_at-within terms h w c.args.granularity object m tick c.args.self.now.marks stand.marks more)
          slots watched c.args.self.now.watches.metrics.items stand.watches;
    }

pub returns-in-None-clause-crossings : goal.returns-in-None-clause-crossings
returns-in-None-clause-crossings c =
    λ terms slots h w watched armed tick knows mark stand.
    let more : c.args.self.now.marks.count + 1 < c.args.granularity = grind (arith, c.in-None.ensures.ends) in
    ap (all_crossed w.id (tick + 1)) c.new.ensures.items
    ∙ sym (crossings-none terms h w c.args.granularity armed (tick + 1) watched
    (λ object m. value_at-within terms h w c.args.granularity object m tick c.args.self.now.marks stand.marks more))
