use Rattle.std.proofs.Common.{◌+◌, ◌∙◌, sym}
use Rattle.pm_close.specs.Watched.{watched_on}
use Rattle.pm_close.proofs.WatchedLemmas.{value-taken}
use Rattle.pm_close.proofs.watched.WatchedObject.end_period.Goals as goal

pub returns-clause-stands : goal.returns-clause-stands
returns-clause-stands c =
    λ terms slots h w granularity armed tick objects ends suspect stand.
    let object = c.args.self.now in
    let took = value-taken terms slots h w granularity armed tick c.args.kept.now c.args.row.now c.args.period.now object.object
    object.slot c.args.of.now.metric c.period_value-value.result c.args.suspect ends stand.slot
    c.period_value-value.ensures suspect in
    record {
      slot = stand.slot;
      watch = c.watch_period-answer.ensures.stands terms h w granularity (watched_on c.args.of.now objects)
          object.object armed tick
          ends.later took stand.watch;
    }

pub returns-clause-crossing : goal.returns-clause-crossing
returns-clause-crossing c =
    λ terms slots h w granularity armed tick objects ends suspect stand.
    let object = c.args.self.now in
    let took = value-taken terms slots h w granularity armed tick c.args.kept.now c.args.row.now c.args.period.now object.object
    object.slot c.args.of.now.metric c.period_value-value.result c.args.suspect ends stand.slot
    c.period_value-value.ensures suspect in
    c.crossing.ensures w.id objects (tick + 1)
    ∙ sym (c.watch_period-answer.ensures.crossing terms h w granularity (watched_on c.args.of.now objects)
    object.object armed tick
    ends.later took stand.watch)
