use Rattle.std.proofs.Common.{rules, ◌≡◌, [], ◌∷◌, ◌++◌, sym, ap, ◌∙◌}
use Rattle.serde_json.specs.View.{view}
use Rattle.pm_asked.specs.BodyReading.{threshold_of}
use Rattle.pm_jobs.proofs.EachLemmas.{thresholds_step}
use Rattle.pm_jobs.proofs.monitor_reading.each_threshold.Goals as goal

pub loop-item-preserved : goal.loop-item-preserved
loop-item-preserved c =
    let pushed : c.push.new.self.items ≡ c.loop-item.thresholds.items ++ c.in-Some.threshold ∷ [] = search rules in
    let is = ap (λ v. threshold_of (view v)) (sym c.item-item.is) ∙ sym (rw c.in-Some.is at c.in_ok-threshold.ensures) in
    c.loop-item.invariant
    ∙ thresholds_step c.args.items.now c.loop-item.item-index c.item-item.result c.loop-item.thresholds.items c.push.new.self.items
    c.in-Some.threshold c.loop-item-test.true is pushed
