use Rattle.std.proofs.Common.{◌∙◌, ◌<◌, length, get_or, sym, ap, rules, arith, []}
use denote.Enum.Bare.{same_true, same_false}
use Rattle.pm_base.specs.contracts.class.Class.{the_type}
use Rattle.pm_dn.specs.Containment.{has_path_to}
use Rattle.pm_dn.proofs.NumberLemmas.{numbers_where_yes, numbers_where_no}
use Rattle.pm_dn.proofs.ClassLemmas.{has_path_to-same, has_path_to-other}
use Rattle.pm_dn.proofs.tree.Tree.of_class.Goals as goal
use Rattle.pm_dn.proofs.tree.Tree.of_class.Goals.{then-eq+in_ok-push, else-eq}

pub loop-object-preserved : goal.loop-object-preserved
loop-object-preserved c =
    let within : c.loop-object.object < length c.args.self.now = omega (arith, c.len-object-end.ensures.value, c.loop-object-test.true) in
    let text = get_or c.args.self.now c.loop-object.object [] in
    elim c.if-eq.branch [
      | then-eq+in_ok-push w ↦
          ap (λ v. v.items) w.objects-is ∙ w.in_ok-push.ensures.items
          ∙ numbers_where_yes (has_path_to c.args.class) c.args.self.now c.loop-object.object c.loop-object.objects.items within
          (has_path_to-same text c.class.result c.args.class c.class.ensures (same_true the_type (search rules) c.class.result c.args.class (sym c.eq.ensures ∙ w.if-eq.true)))
          c.loop-object.invariant
      | else-eq w ↦
          ap (λ v. v.items) w.objects-is
          ∙ numbers_where_no (has_path_to c.args.class) c.args.self.now c.loop-object.object c.loop-object.objects.items within
          (has_path_to-other text c.class.result c.args.class c.class.ensures (same_false the_type c.class.result c.args.class (sym c.eq.ensures ∙ w.if-eq.false)))
          c.loop-object.invariant
    ]
