use Rattle.std.proofs.Common.{inl, inr}
use Rattle.pm_http.proofs.StepLemmas.{may-Whole, may-Crowded, may-More}
use Rattle.pm_http.proofs.head_end.may_grow.Goals as goal

pub returns-in-Whole : goal.returns-in-Whole
returns-in-Whole c =
    let sight = rw c.front.ensures.value at c.look.ensures in
    elim c.in-Whole.is [
      | inl whole ↦ may-Whole c.args.head.now c.look.new.fields whole.0 (rw whole.1 at sight)
      | inr other ↦ elim other [
        | inl crowded ↦ may-Crowded c.args.head.now c.look.new.fields (rw crowded at sight)
        | inr more ↦ may-More c.args.head.now c.look.new.fields (rw more at sight)
      ]
    ]
