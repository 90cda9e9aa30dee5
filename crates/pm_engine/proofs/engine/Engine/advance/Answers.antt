use Rattle.std.proofs.Common.{[], ◌∷◌, sym, ap, subst, ◌∙◌}
use Rattle.pm_notice.specs.declared.subscriptions.Subscriptions.{Subscriptions}
use Rattle.pm_notice.specs.Planned.{subscriptions_of}
use Rattle.pm_notice.specs.StandFor.{cursors_of}
use Rattle.pm_inventory.specs.Inventory.{InventoryState}
use Rattle.pm_ledger.specs.Ledger.{IsLedgerOf}
use Rattle.pm_state.specs.Opening.{AddsOpening, opening, entered}
use Rattle.pm_engine.proofs.BearsLemmas.{opening-stored, rests-one}
use Rattle.pm_engine.proofs.engine.Engine.advance.Goals as goal

pub returns-in_default-clause-any_moment : goal.returns-in_default-clause-any_moment
returns-in_default-clause-any_moment g c = λ told h cursors bears.
    let self = c.args.self.now in
    rests-one self.state.inventory self.ledger (g.D.Disk.told c.args.disk.now) h (opening h c.args.moment) c.requires.usable.ready (bears.store told) bears.stands.history

pub returns-in_default-clause-entered : goal.returns-in_default-clause-entered
returns-in_default-clause-entered g c = λ h cursors bears. record {
  stands = c.prepare.ensures.stays h bears.stands;
  served = ap (λ (s : Subscriptions). cursors_of (subscriptions_of s)) c.prepare.ensures.subs ∙ bears.served;
  store = λ told.
      subst (λ (i : InventoryState). IsLedgerOf i c.args.self.now.ledger (g.D.Disk.told c.args.disk.now).now h) (sym c.prepare.ensures.inventory) (bears.store told);
}

pub returns-in_err-store-clause-any_moment : goal.returns-in_err-store-clause-any_moment
returns-in_err-store-clause-any_moment g c = λ told h cursors bears.
    let inventory = c.args.self.now.state.inventory in
    let e = opening h c.args.moment in
    let adds = subst (λ (i : InventoryState). AddsOpening i h e c.in-Ok.prepared.item) c.prepare.ensures.inventory (c.in-Ok.ensures.prepared h bears.stands).adds in
    c.store.ensures.any_moment told inventory h (e ∷ []) (opening-stored inventory h e _ adds) (bears.store told)

pub returns-clause-any_moment : goal.returns-clause-any_moment
returns-clause-any_moment g c = λ told h cursors bears.
    let inventory = c.args.self.now.state.inventory in
    let e = opening h c.args.moment in
    let adds = subst (λ (i : InventoryState). AddsOpening i h e c.in-Ok.prepared.item) c.prepare.ensures.inventory (c.in-Ok.ensures.prepared h bears.stands).adds in
    c.store.ensures.any_moment told inventory h (e ∷ []) (opening-stored inventory h e _ adds) (bears.store told)

pub returns-clause-entered : goal.returns-clause-entered
returns-clause-entered g c = λ h cursors bears.
    let inventory = c.args.self.now.state.inventory in
    let e = opening h c.args.moment in
    let prepared = c.in-Ok.ensures.prepared h bears.stands in
    let adds = subst (λ (i : InventoryState). AddsOpening i h e c.in-Ok.prepared.item) c.prepare.ensures.inventory prepared.adds in
    record {
      stands = c.enter.ensures.stands h c.args.moment (c.prepare.ensures.stays h bears.stands) prepared;
      served = ap (λ (s : Subscriptions). cursors_of (subscriptions_of s)) (c.enter.ensures.subs ∙ c.prepare.ensures.subs) ∙ bears.served;
      store = λ told.
          subst (λ (i : InventoryState). IsLedgerOf i c.store.new.ledger (g.D.Disk.told c.store.new.disk).now (entered h c.args.moment)) (sym (c.enter.ensures.inventory ∙ c.prepare.ensures.inventory))
          (c.in_ok-store.ensures.stored told inventory h (e ∷ []) (opening-stored inventory h e _ adds) (bears.store told));
    }
