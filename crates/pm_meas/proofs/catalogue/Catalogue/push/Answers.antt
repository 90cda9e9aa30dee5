use Rattle.pm_meas.proofs.CatalogueLemmas.{IsCatalogue-push}
use Rattle.pm_meas.proofs.catalogue.Catalogue.push.Goals as goal

pub invariant_of-self-2 : goal.invariant_of-self-2
invariant_of-self-2 c =
    rw (c.in_ok-push.ensures.items, c.in_ok-name.ensures)
    (IsCatalogue-push c.self.inside.defs.items _ c.self.invariant c.requires.permitted (rw c.self.view_is c.requires.fresh) (rw c.self.view_is c.requires.room))
