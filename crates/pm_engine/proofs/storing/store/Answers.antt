use Rattle.std.proofs.Common.{sym, subst}
use Rattle.pm_disk.specs.Moments.{Throughout}
use Rattle.pm_disk.proofs.MomentLemmas.{at_rest}
use Rattle.pm_items.specs.Items.{kept}
use Rattle.pm_ledger.specs.Between.{EachBetween}
use Rattle.pm_ledger.proofs.StoreLemmas.{holds_at_rest}
use Rattle.pm_engine.specs.Adding.{AddsNone, AddsStored}
use Rattle.pm_engine.proofs.storing.store.Goals as goal

pub returns-in-None-clause-any_moment : goal.returns-in-None-clause-any_moment
returns-in-None-clause-any_moment g c = λ told inventory h es adds of.
    let now = g.D.Disk.told c.args.disk.now in
    let none : AddsNone h es = subst (AddsStored inventory h es) c.in-None.is adds in
    subst (λ k. Throughout (EachBetween inventory (kept h) k) now now) (sym none.kept_is)
    (at_rest (EachBetween inventory (kept h) (kept h)) now (holds_at_rest inventory c.args.ledger.now now.now h c.requires.ready of none.before))
