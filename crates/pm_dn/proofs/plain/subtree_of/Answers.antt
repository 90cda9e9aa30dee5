use Rattle.std.proofs.Common.{◌∙◌, ◌<◌, length, sym, ap, arith}
use Rattle.pm_dn.specs.Tree.{is_under}
use Rattle.pm_dn.proofs.NumberLemmas.{numbers_where_yes, numbers_where_no}
use Rattle.pm_dn.proofs.plain.subtree_of.Goals as goal
use Rattle.pm_dn.proofs.plain.subtree_of.Goals.{then-is_under+in_ok-push, else-is_under}

pub loop-object-preserved : goal.loop-object-preserved
loop-object-preserved c =
    let within : c.loop-object.object < length c.args.tree.now = omega (arith, c.len-object-end.ensures.value, c.loop-object-test.true) in
    let passes = is_under c.text-top.result.now in
    elim c.if-is_under.branch [
      | then-is_under+in_ok-push w ↦
          ap (λ v. v.items) w.objects-is ∙ w.in_ok-push.ensures.items
          ∙ numbers_where_yes passes c.args.tree.now c.loop-object.object c.loop-object.objects.items within
          (ap passes (sym c.text.ensures.value) ∙ sym c.is_under.ensures ∙ w.if-is_under.true)
          c.loop-object.invariant
      | else-is_under w ↦
          ap (λ v. v.items) w.objects-is
          ∙ numbers_where_no passes c.args.tree.now c.loop-object.object c.loop-object.objects.items within
          (ap passes (sym c.text.ensures.value) ∙ sym c.is_under.ensures ∙ w.if-is_under.false)
          c.loop-object.invariant
    ]
