use Rattle.std.proofs.Common.{◌≤◌, ◌<◌, length, sym, ◌∙◌, arith}
use Rattle.std.proofs.lemmas.List.{length-set, same_lists}
use Rattle.pm_close.specs.MonitorPlans.{all_enacted}
use Rattle.pm_close.proofs.ObjectLemmas.{later-more}
use Rattle.pm_close.proofs.EnactedLemmas.{length-enacted, enact-more}
use Rattle.pm_close.proofs.open_monitors_enact.enact_all.Goals as goal

pub loop-k-preserved : goal.loop-k-preserved
loop-k-preserved c =
    let ms = c.args.monitors.now in
    let ps = c.args.plans.now in
    let now = c.loop-k.monitors in
    let plans = c.loop-k.plans in
    let k = c.loop-k.k in
    let m = c.index-monitors-k.result in
    let p = c.index-plans-k.result in
    let was = c.loop-k.invariant in
    let self : k ≤ k = omega arith in
    let lt : k < length ms = omega arith in
    record {
      as_many = length-set now k c.enact_one.new.monitor ∙ was.as_many;
      plans = length-set plans k c.enact_one.new.plan ∙ was.plans;
      done = enact-more ms ps now plans k m c.enact_one.new.monitor p c.requires was.as_many lt c.enact_one.ensures
          (was.later k m self) (was.later_plans k p self) was.done;
      later = later-more ms now k c.enact_one.new.monitor was.later;
      later_plans = later-more ps plans k c.enact_one.new.plan was.later_plans;
    }

pub returns : goal.returns
returns c =
    let ms = c.args.monitors.now in
    let all = all_enacted ms c.args.plans.now in
    let long = length-enacted ms c.args.plans.now in
    let many = c.loop-k.invariant.as_many in
    same_lists c.loop-k.monitors all (many ∙ sym long)
    (λ k d lt. c.loop-k.invariant.done k d (omega (arith, lt, long, many, c.loop-k-test.false)))
