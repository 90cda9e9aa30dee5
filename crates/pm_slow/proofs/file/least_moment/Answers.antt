use Rattle.std.proofs.Common.{◌≤◌, sym, arith, take, subst}
use Rattle.pm_history.specs.Entry.{moment_of}
use Rattle.pm_history.specs.History.{history_of}
use Rattle.pm_history.proofs.HistoryLemmas.{history_of-more}
use Rattle.pm_slow.specs.First.{IsFrom}
use Rattle.pm_slow.proofs.FirstLemmas.{IsFrom-le}
use Rattle.pm_slow.proofs.file.least_moment.Goals as goal

pub loop-entry-preserved : goal.loop-entry-preserved
loop-entry-preserved c =
    let h = history_of (take c.loop-entry.entry-index c.args.history.now) in
    let e = c.entry-item.result in
    let m = c.lesser-least.result in
    let more = history_of-more c.args.history.now c.loop-entry.entry-index e c.loop-entry-test.true c.entry-item.is in
    let here : m ≤ moment_of e = omega (arith, c.lesser-least.ensures.other, c.moment.ensures) in
    record {
      least = subst (IsFrom m) (sym more) (IsFrom-le m c.loop-entry.least h c.lesser-least.ensures.one c.loop-entry.invariant.least, here);
      within = omega (arith, c.lesser-least.ensures.one, c.loop-entry.invariant.within);
    }
