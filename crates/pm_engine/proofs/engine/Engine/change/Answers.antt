use Rattle.std.proofs.Common.{inr, refl, sym, ap, ◌∙◌, subst}
use Rattle.pm_notice.specs.declared.subscriptions.Subscriptions.{Subscriptions}
use Rattle.pm_notice.specs.Planned.{subscriptions_of}
use Rattle.pm_notice.specs.StandFor.{cursors_of}
use Rattle.pm_history.specs.History.{grown}
use Rattle.pm_inventory.specs.Inventory.{InventoryState}
use Rattle.pm_ledger.specs.Ledger.{IsLedgerOf}
use Rattle.pm_state.specs.Changes.{change_given}
use Rattle.pm_engine.proofs.BearsLemmas.{change-begins, change-stored, meanwhile-rests}
use Rattle.pm_engine.proofs.engine.Engine.change.Goals as goal

pub returns-in_err-store-in-Ok-clause-any_moment : goal.returns-in_err-store-in-Ok-clause-any_moment
returns-in_err-store-in-Ok-clause-any_moment g c = λ told h cursors bears.
    let state = c.args.self.now.state in
    let given = change_given state.inventory state.jobs state.last c.args.side c.args.ask.now in
    let adds = change-stored h state given c.in-Ok.change bears.stands c.in-Ok.ensures in
    record {
      most = grown h given.entries;
      is = inr (given, cursors, (refl, refl), refl);
      begins = change-begins h state given c.in-Ok.change bears.stands c.in-Ok.ensures;
      moments = c.store.ensures.any_moment told state.inventory h given.entries adds (bears.store told);
    }

pub returns-in_ok-store-in-Ok-clause-any_moment : goal.returns-in_ok-store-in-Ok-clause-any_moment
returns-in_ok-store-in-Ok-clause-any_moment g c = λ told h cursors bears.
    let state = c.args.self.now.state in
    let given = change_given state.inventory state.jobs state.last c.args.side c.args.ask.now in
    let adds = change-stored h state given c.in-Ok.change bears.stands c.in-Ok.ensures in
    record {
      most = grown h given.entries;
      is = inr (given, cursors, (refl, refl), refl);
      begins = change-begins h state given c.in-Ok.change bears.stands c.in-Ok.ensures;
      moments = c.store.ensures.any_moment told state.inventory h given.entries adds (bears.store told);
    }

pub returns-in_ok-store-in-Ok-clause-changed : goal.returns-in_ok-store-in-Ok-clause-changed
returns-in_ok-store-in-Ok-clause-changed g c = λ h cursors bears.
    let state = c.args.self.now.state in
    let given = change_given state.inventory state.jobs state.last c.args.side c.args.ask.now in
    let adds = change-stored h state given c.in-Ok.change bears.stands c.in-Ok.ensures in
    let enacted = c.enact.ensures.stands h given bears.stands c.in-Ok.ensures in
    record {
      given = given;
      next = cursors;
      is = (refl, refl);
      reply_is = enacted.0;
      bears = record {
        stands = enacted.1;
        served = ap (λ (s : Subscriptions). cursors_of (subscriptions_of s)) c.enact.ensures.subs ∙ bears.served;
        store = λ told.
            subst (λ (i : InventoryState). IsLedgerOf i c.store.new.ledger (g.D.Disk.told c.store.new.disk).now (grown h given.entries)) (sym c.enact.ensures.inventory)
            (c.in_ok-store-in-Ok.ensures.stored told state.inventory h given.entries adds (bears.store told));
      };
    }

pub returns-in-Err-clause-any_moment : goal.returns-in-Err-clause-any_moment
returns-in-Err-clause-any_moment g c = λ told h cursors bears.
    let self = c.args.self.now in
    meanwhile-rests _ self.state.inventory self.ledger (g.D.Disk.told c.args.disk.now) h c.requires.usable.ready (bears.store told) bears.stands.history
