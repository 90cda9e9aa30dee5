use Rattle.std.proofs.lemmas.Result.{err_from_is_err_and}
use Rattle.pm_dn.proofs.TreeLemmas.{add_refusal-rule}
use Rattle.pm_dn.proofs.ObjectLemmas.{IsTree-object}
use Rattle.pm_dn.proofs.tree.Tree.add.Goals as goal

pub invariant_of-self-2 : goal.invariant_of-self-2
invariant_of-self-2 c =
    IsTree-object c.self.inside.objects.items c.push.new.self.items c.args.self.now c.args.name.now _ c.self.view_is c.self.invariant c.in_ok-class.ensures.let_in.0 c.in-Ok.ensures c.in-Ok-push.ensures.items

pub returns-in_err-class-clause-refused : goal.returns-in_err-class-clause-refused
returns-in_err-class-clause-refused c =
    let p = err_from_is_err_and c.from_residual.result c.from_residual.ensures.1 in
    rw (p.1, p.2) (add_refusal-rule c.args.self.now c.args.name.now _ c.in_err-class.ensures.refused)
