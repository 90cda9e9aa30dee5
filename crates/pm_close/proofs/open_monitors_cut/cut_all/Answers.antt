use Rattle.std.proofs.Common.{◌≡◌, ◌<◌, ◌∷◌, ℕ, [], List, None, length, get_or, sym, ap, subst, ◌∙◌, arith}
use Rattle.std.proofs.lemmas.List.{length-append}
use Rattle.std.proofs.lemmas.List.{get_or_default}
use Rattle.pm_jobs.specs.State.{ids}
use Rattle.pm_close.specs.declared.open_monitors.KeptMonitor.{KeptMonitor}
use Rattle.pm_close.specs.declared.open_monitors_plan.MonitorPlan.{MonitorPlan}
use Rattle.pm_close.specs.OpenMonitors.{GoesOn}
use Rattle.pm_close.specs.MonitorPlans.{IsCutBy}
use Rattle.pm_close.proofs.BootLemmas.{cut-open}
use Rattle.pm_close.proofs.EachLemmas.{each-push-at}
use Rattle.pm_close.proofs.EnactedLemmas.{length-enacted, enacted-at}
use Rattle.pm_close.proofs.open_monitors_cut.cut_all.Goals as goal

pub loop-k-preserved : goal.loop-k-preserved
loop-k-preserved c =
    let was = c.loop-k.invariant in
    let k = c.loop-k.k in
    let ms = c.args.monitors.now in
    let m = c.index-monitors-k.result in
    let plan = c.cut.result in
    let plans = c.loop-k.plans.items in
    let is = c.in_ok-push.ensures.items in
    let many = was.as_many in
    let long = ap length is ∙ length-append plans (plan ∷ []) in
    let at : m ≡ get_or ms k m = c.index-monitors-k.is in
    let P : ℕ → MonitorPlan → Type 0 = λ j p. (n : KeptMonitor) → IsCutBy c.args.tick (get_or ms j n) p in
    let own : P k plan = λ n. subst (λ (x : KeptMonitor). IsCutBy c.args.tick x plan) (at ∙ get_or_default ms k m n c.loop-k-test.true)
    c.cut.ensures in
    let each = each-push-at P plans plan (λ j d lt n. was.cut j n d (omega (arith, lt, many)))
    (subst (λ j. P j plan) (sym many) own) in
    record {
      as_many = omega (arith, long, many);
      cut = λ j n d lt.
          subst (λ (l : List MonitorPlan). j < length l → IsCutBy c.args.tick (get_or ms j n) (get_or l j d)) (sym is)
          (λ less. each j d less n) (omega (arith, lt, long, many));
    }

pub returns-clause-go_on : goal.returns-clause-go_on
returns-clause-go_on c =
    let ms = c.args.monitors.now in
    let ps = c.loop-k.plans.items in
    let many = c.loop-k.invariant.as_many in
    let as_many : length ps ≡ length ms = omega (arith, many, c.loop-k-test.false, c.loop-k.auto.k-end) in
    λ cells from on k d lt.
    let less : k < length ms = omega (arith, lt, length-enacted ms ps) in
    let plan : MonitorPlan = record { marks = d.open.marks; watches = None } in
    subst (GoesOn cells c.args.tick) (sym (enacted-at ms ps k d d plan as_many less))
    ((c.loop-k.invariant.cut k d plan (omega (arith, less, c.loop-k-test.false))).goes_on cells from (on k d less))

pub returns-clause-open : goal.returns-clause-open
returns-clause-open c =
    let ms = c.args.monitors.now in
    let ps = c.loop-k.plans.items in
    let many = c.loop-k.invariant.as_many in
    let as_many : length ps ≡ length ms = omega (arith, many, c.loop-k-test.false, c.loop-k.auto.k-end) in
    λ inventory jobs h m history some at kept.
    cut-open inventory h m c.args.tick (ids jobs.monitors) ms ps history some at as_many
    (λ j n d lt. c.loop-k.invariant.cut j n d (omega (arith, lt, c.loop-k-test.false))) kept
