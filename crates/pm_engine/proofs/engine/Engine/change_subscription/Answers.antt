use Rattle.std.proofs.Common.{inr, refl, sym, ap, ◌∙◌, subst}
use Rattle.pm_history.specs.History.{grown}
use Rattle.pm_inventory.specs.Inventory.{InventoryState}
use Rattle.pm_ledger.specs.Ledger.{IsLedgerOf}
use Rattle.pm_notice.specs.Planned.{subscriptions_of}
use Rattle.pm_notice.specs.StandFor.{cursors_of}
use Rattle.pm_state.specs.Stands.{StateStands}
use Rattle.pm_state.specs.SubsGiven.{sub_given, sub_cursors, sub_entries}
use Rattle.pm_engine.proofs.BearsLemmas.{meanwhile-rests}
use Rattle.pm_engine.proofs.SubsLemmas.{sub-begins, sub-stored, planned-entries, planned-reply, refusal-gives}
use Rattle.pm_engine.proofs.engine.Engine.change_subscription.Goals as goal

pub returns-in_err-store-in-Ok-clause-any_moment : goal.returns-in_err-store-in-Ok-clause-any_moment
returns-in_err-store-in-Ok-clause-any_moment g c = λ told h cursors id plan bears answers.
    let state = c.args.self.now.state in
    let subs = subscriptions_of state.subs in
    let change = c.in-Ok.change in
    let answer = rw c.in-Ok.is at answers in
    let entries = planned-entries subs state.last id plan change.plan answer.planned in
    let adds = sub-stored h state subs change.plan change.item bears.stands (answer.item state.inventory) in
    record {
      most = grown h (sub_entries subs state.last change.plan);
      is = inr (sub_given subs state.last id plan, sub_cursors subs plan, (refl, refl), ap (grown h) (sym entries));
      begins = sub-begins h state subs change.plan bears.stands;
      moments = c.store.ensures.any_moment told state.inventory h (sub_entries subs state.last change.plan) adds (bears.store told);
    }

pub returns-in_ok-store-in-Ok-clause-any_moment : goal.returns-in_ok-store-in-Ok-clause-any_moment
returns-in_ok-store-in-Ok-clause-any_moment g c = λ told h cursors id plan bears answers.
    let state = c.args.self.now.state in
    let subs = subscriptions_of state.subs in
    let change = c.in-Ok.change in
    let answer = rw c.in-Ok.is at answers in
    let entries = planned-entries subs state.last id plan change.plan answer.planned in
    let adds = sub-stored h state subs change.plan change.item bears.stands (answer.item state.inventory) in
    record {
      most = grown h (sub_entries subs state.last change.plan);
      is = inr (sub_given subs state.last id plan, sub_cursors subs plan, (refl, refl), ap (grown h) (sym entries));
      begins = sub-begins h state subs change.plan bears.stands;
      moments = c.store.ensures.any_moment told state.inventory h (sub_entries subs state.last change.plan) adds (bears.store told);
    }

pub returns-in_ok-store-in-Ok-clause-changed : goal.returns-in_ok-store-in-Ok-clause-changed
returns-in_ok-store-in-Ok-clause-changed g c = λ h cursors id plan bears answers.
    let state = c.args.self.now.state in
    let subs = subscriptions_of state.subs in
    let change = c.in-Ok.change in
    let answer = rw c.in-Ok.is at answers in
    let entries = planned-entries subs state.last id plan change.plan answer.planned in
    let adds = sub-stored h state subs change.plan change.item bears.stands (answer.item state.inventory) in
    record {
      given = sub_given subs state.last id plan;
      next = sub_cursors subs plan;
      is = (refl, refl);
      reply_is = c.enact_subscription.ensures.reply ∙ (answer.reply ∙ sym (planned-reply subs state.last id plan change.plan answer.planned));
      bears = record {
        stands = subst (λ es. StateStands (grown h es) c.enact_subscription.new.self) (sym entries) (c.enact_subscription.ensures.stands h bears.stands);
        served = ap cursors_of c.enact_subscription.ensures.subs ∙ sym (ap (sub_cursors subs) answer.planned);
        store = λ told.
            subst (λ (i : InventoryState). IsLedgerOf i c.store.new.ledger (g.D.Disk.told c.store.new.disk).now (grown h (sub_given subs state.last id plan).entries)) (sym c.enact_subscription.ensures.inventory)
            (subst (λ es. IsLedgerOf state.inventory c.store.new.ledger (g.D.Disk.told c.store.new.disk).now (grown h es)) (sym entries)
            (c.in_ok-store-in-Ok.ensures.stored told state.inventory h (sub_entries subs state.last change.plan) adds (bears.store told)));
      };
    }

pub returns-in-Err-clause-any_moment : goal.returns-in-Err-clause-any_moment
returns-in-Err-clause-any_moment g c = λ told h cursors id plan bears answers.
    let self = c.args.self.now in
    meanwhile-rests _ self.state.inventory self.ledger (g.D.Disk.told c.args.disk.now) h c.requires.usable.ready (bears.store told) bears.stands.history

pub returns-in-Err-clause-changed : goal.returns-in-Err-clause-changed
returns-in-Err-clause-changed g c = λ h cursors id plan bears answers.
    let self = c.args.self.now in
    refusal-gives g.D.Disk.IsTold self (g.D.Disk.told c.args.disk.now) h cursors id (subscriptions_of self.state.subs) self.state.last plan c.in-Err.reply
    c.unless_no_memory.result bears.served (rw c.in-Err.is at answers) c.unless_no_memory.ensures bears
