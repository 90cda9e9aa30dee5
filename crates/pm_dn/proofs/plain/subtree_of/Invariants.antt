use Rattle.std.proofs.Common.{◌≡◌, take}
use Rattle.pm_dn.specs.Tree.{numbers_where, is_under}
use Rattle.pm_dn.proofs.plain.subtree_of.Given as goal

abbrev pub invariant-loop-object : goal.invariant-loop-object
invariant-loop-object l = l.objects.items ≡ numbers_where (is_under l.top) (take l.object l.tree)
