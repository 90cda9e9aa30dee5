use Rattle.std.proofs.Common.{sym, ap, ◌∙◌, subst, ℕ, List}
use Rattle.pm_inventory.specs.Inventory.{InventoryState}
use Rattle.pm_ledger.specs.Ledger.{IsLedgerOf}
use Rattle.pm_notice.specs.declared.subscription.Subscription.{Subscription}
use Rattle.pm_notice.specs.Plan.{plan_to_remove}
use Rattle.pm_notice.specs.Planned.{subscriptions_of}
use Rattle.pm_notice.specs.StandFor.{cursors_of}
use Rattle.pm_state.specs.SubsGiven.{IsSubAnswer}
use Rattle.pm_engine.specs.Giving.{GivesBy, Meanwhile}
use Rattle.pm_engine.specs.Wish.{IsSubGiven, UnsubscribesBy}
use Rattle.pm_engine.proofs.BearsLemmas.{gives-map, meanwhile-map, if-ok}
use Rattle.pm_engine.proofs.SubsLemmas.{unsubscribes, stand-with}
use Rattle.pm_engine.proofs.engine.Engine.unsubscribe.Goals as goal

pub returns-clause-gives : goal.returns-clause-gives
returns-clause-gives g c = λ h cursors bears.
    let state = c.args.self.now.state in
    let subs = subscriptions_of state.subs in
    let mid = c.unsubscribe-change.new.self in
    let mid-subs = subscriptions_of mid.subs in
    let told = g.D.Disk.told c.change_subscription.new.disk in
    let says = (plan_to_remove subs c.args.id.now) in
    let answer = subst (λ (m : ℕ). IsSubAnswer mid-subs mid.subs m c.args.id.now says c.unsubscribe-change.result) (sym c.unsubscribe-change.ensures.last)
    (subst (λ (ss : List Subscription). IsSubAnswer ss mid.subs state.last c.args.id.now says c.unsubscribe-change.result) (sym c.unsubscribe-change.ensures.subs) c.unsubscribe-change.ensures.answer) in
    if-ok (GivesBy (IsSubGiven mid-subs mid.last c.args.id.now says) g.D.Disk.IsTold c.change_subscription.new.self told h cursors)
    (GivesBy (UnsubscribesBy h cursors c.args.id.now) g.D.Disk.IsTold c.change_subscription.new.self told h cursors) c.change_subscription.result
    (λ o gives.
    gives-map (IsSubGiven mid-subs mid.last c.args.id.now says) (UnsubscribesBy h cursors c.args.id.now) g.D.Disk.IsTold c.change_subscription.new.self told h cursors o
    (unsubscribes h cursors c.args.id.now subs mid-subs c.unsubscribe-change.new.self.last (stand-with subs h cursors bears.stands.subs bears.served) c.unsubscribe-change.ensures.subs (c.unsubscribe-change.ensures.last ∙ bears.stands.last))
    gives)
    (c.change_subscription.ensures.changed h cursors c.args.id.now says (record {
      stands = c.unsubscribe-change.ensures.stays h bears.stands;
      served = ap cursors_of c.unsubscribe-change.ensures.subs ∙ bears.served;
      store = λ t. subst (λ (i : InventoryState). IsLedgerOf i c.args.self.now.ledger (g.D.Disk.told c.args.disk.now).now h) (sym c.unsubscribe-change.ensures.inventory) (bears.store t);
    }) answer)

pub returns-clause-any_moment : goal.returns-clause-any_moment
returns-clause-any_moment g c = λ t h cursors bears.
    let state = c.args.self.now.state in
    let subs = subscriptions_of state.subs in
    let mid = c.unsubscribe-change.new.self in
    let mid-subs = subscriptions_of mid.subs in
    let before = g.D.Disk.told c.args.disk.now in
    let told = g.D.Disk.told c.change_subscription.new.disk in
    let says = (plan_to_remove subs c.args.id.now) in
    let answer = subst (λ (m : ℕ). IsSubAnswer mid-subs mid.subs m c.args.id.now says c.unsubscribe-change.result) (sym c.unsubscribe-change.ensures.last)
    (subst (λ (ss : List Subscription). IsSubAnswer ss mid.subs state.last c.args.id.now says c.unsubscribe-change.result) (sym c.unsubscribe-change.ensures.subs) c.unsubscribe-change.ensures.answer) in
    meanwhile-map (IsSubGiven mid-subs mid.last c.args.id.now says) (UnsubscribesBy h cursors c.args.id.now) state.inventory before told h
    (unsubscribes h cursors c.args.id.now subs mid-subs c.unsubscribe-change.new.self.last (stand-with subs h cursors bears.stands.subs bears.served) c.unsubscribe-change.ensures.subs (c.unsubscribe-change.ensures.last ∙ bears.stands.last))
    (subst (λ (i : InventoryState). Meanwhile (IsSubGiven mid-subs mid.last c.args.id.now says) i before told h) c.unsubscribe-change.ensures.inventory
    (c.change_subscription.ensures.any_moment t h cursors c.args.id.now says (record {
      stands = c.unsubscribe-change.ensures.stays h bears.stands;
      served = ap cursors_of c.unsubscribe-change.ensures.subs ∙ bears.served;
      store = λ u. subst (λ (i : InventoryState). IsLedgerOf i c.args.self.now.ledger before.now h) (sym c.unsubscribe-change.ensures.inventory) (bears.store u);
    }) answer))
