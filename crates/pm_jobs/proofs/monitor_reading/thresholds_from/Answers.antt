use Rattle.std.proofs.Common.{◌∙◌, arith, length, ◌<◌, ◌≤◌}
use Rattle.std.proofs.lemmas.Bool.Decides.{nat_tests}
use Rattle.std.proofs.lemmas.Result.{IfOk-weaker}
use Rattle.pm_jobs.proofs.EachLemmas.{thresholds_each, list_in, list_short, list_long}
use Rattle.pm_jobs.proofs.monitor_reading.thresholds_from.Goals as goal
use Rattle.pm_jobs.proofs.monitor_reading.thresholds_from.Goals.{then-is_empty-via-then-is_empty, then-is_empty-via-else-is_empty+then-items-gt-MAX_THRESHOLDS}

pub returns-then-is_empty : goal.returns-then-is_empty
returns-then-is_empty c =
    let items = c.in-Some.items.now in
    let is = c.in-Some.ensures in
    elim c.then-is_empty.branch [
      | then-is_empty-via-then-is_empty w ↦ let lt : length items < 1 = grind (arith, nat_tests) in list_short thresholds_each _ items 1 16 is lt
      | then-is_empty-via-else-is_empty+then-items-gt-MAX_THRESHOLDS w ↦ let lt : 16 < length items = omega arith in list_long thresholds_each _ items 1 16 is lt
    ]

pub returns : goal.returns
returns c =
    let items = c.in-Some.items.now in
    let ge : 1 ≤ length items = grind (arith, nat_tests) in
    let le : length items ≤ 16 = omega arith in
    IfOk-weaker c.each_threshold.result _ _ (λ o e. e ∙ list_in thresholds_each _ items 1 16 c.in-Some.ensures ge le) c.each_threshold.ensures
