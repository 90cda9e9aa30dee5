use Rattle.std.proofs.Common.{◌≡◌, ◌∙◌, ℕ, Bool, List, take, get_or, Some, sym}
use Rattle.std.specs.Prelude.{slice_get}
use Rattle.pm_asked.specs.Asked.{Numbered, metric_of, same_class}
use Rattle.pm_jobs.specs.Numbered.{numbered}
use Rattle.pm_jobs.proofs.NumberedLemmas.{numbered_more}
use Rattle.pm_ready.proofs.StepLemmas.{passes_more, fails_more}
use Rattle.pm_ready.proofs.measured.metrics_of.Goals as goal
use Rattle.pm_ready.proofs.measured.metrics_of.Goals.{then-is_same_class+in_ok-push, else-is_same_class}

pub loop-number-preserved : goal.loop-number-preserved
loop-number-preserved c =
    let inventory = c.args.inventory.now in
    let metrics : List ℕ = c.args.metrics.now in
    let i = c.loop-number.number-index in
    let def = c.def-def.result.now in
    let at : slice_get inventory.measures (get_or metrics i 0) ≡ Some def = rw c.catalogue-catalogue.ensures at c.def-def.ensures in
    let more = numbered_more inventory metrics i def c.loop-number-test.true at in
    let p : Numbered → Bool = λ (m : Numbered). same_class m.1.class c.args.class in
    let x : Numbered = (get_or metrics i 0, def) in
    elim c.if-is_same_class.branch [
      | then-is_same_class+in_ok-push w ↦
          rw w.found-is (passes_more metric_of p (numbered inventory (take i metrics)) _ x _ _ more (sym c.is_same_class.ensures ∙ w.if-is_same_class.true)
          w.in_ok-push.ensures.items c.loop-number.invariant)
      | else-is_same_class w ↦
          rw w.found-is (fails_more metric_of p (numbered inventory (take i metrics)) _ x _ more (sym c.is_same_class.ensures ∙ w.if-is_same_class.false) c.loop-number.invariant)
    ]
