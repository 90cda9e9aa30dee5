use Rattle.std.proofs.Common.{length, ap, ◌∙◌, subst, sym, arith}
use Rattle.pm_close.specs.Rows.{AreSmall}
use Rattle.pm_close.proofs.SmallLemmas.{AreSmall-drop, length-forgotten}
use Rattle.pm_close.proofs.cells.TickCells.forget_before.Goals as goal

pub invariant_of-self-clause-small : goal.invariant_of-self-clause-small
invariant_of-self-clause-small c = subst AreSmall (sym c.forget_front.ensures.dropped) (AreSmall-drop _ _ c.args.self.now.small)

pub invariant_of-self-clause-whole : goal.invariant_of-self-clause-whole
invariant_of-self-clause-whole c =
    ap length c.forget_front.ensures.dropped ∙ length-forgotten _ _ _ _ (omega arith) c.args.self.now.whole
