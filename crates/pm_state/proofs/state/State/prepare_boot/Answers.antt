use Rattle.std.proofs.Common.{true, refl, sym, subst}
use Rattle.pm_inventory.specs.Inventory.{InventoryState}
use Rattle.pm_notice.specs.Planned.{subscriptions_of}
use Rattle.pm_notice.specs.StandFor.{cursors_of}
use Rattle.pm_notice.specs.declared.subscriptions.Subscriptions.{Subscriptions}
use Rattle.pm_state.specs.Opening.{AddsAt, KeepsCursors}
use Rattle.std.proofs.Common.{Some}
use Rattle.pm_state.proofs.StateLemmas.{boot-adds}
use Rattle.pm_state.proofs.OpeningLemmas.{far-is, ended-history, opening-ends}
use Rattle.pm_state.proofs.state.State.prepare_boot.Goals as goal

pub returns-clause-prepared : goal.returns-clause-prepared
returns-clause-prepared c = λ h stands.
    let self = c.args.self.now in
    let m = c.args.moment in
    let far = far-is self.last _ m stands.last c.requires.far in
    let adds = boot-adds self.inventory h self.last m c.in_ok-item.item stands.history stands.last c.requires.moment c.requires.later c.requires.far c.in_ok-item.ensures in
    let served : KeepsCursors (cursors_of (subscriptions_of self.subs)) (Some c.in_ok-item.item) = (_, c.in_ok-item.ensures, tt) in
    let end = c.in_ok-ended.ensures.end h stands (ended-history self h m true c.in_ok-item.item far adds) in
    opening-ends c.end.new.self h m true c.in_ok-item.item c.in_ok-ended.ended _ far
    (subst (λ (i : InventoryState). AddsAt i h m (Some c.in_ok-item.item)) (sym c.end.ensures.inventory) adds)
    (subst (λ (s : Subscriptions). KeepsCursors (cursors_of (subscriptions_of s)) (Some c.in_ok-item.item)) (sym c.end.ensures.subs) served) end refl refl refl
