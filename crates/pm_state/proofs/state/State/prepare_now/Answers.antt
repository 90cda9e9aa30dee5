use Rattle.std.proofs.Common.{Some, false, refl, sym, subst, ◌∙◌}
use Rattle.pm_inventory.specs.Inventory.{InventoryState}
use Rattle.pm_notice.specs.Planned.{subscriptions_of}
use Rattle.pm_notice.specs.StandFor.{cursors_of}
use Rattle.pm_notice.specs.declared.subscriptions.Subscriptions.{Subscriptions}
use Rattle.pm_state.specs.Opening.{AddsAt, KeepsCursors}
use Rattle.pm_state.proofs.StateLemmas.{booked-adds}
use Rattle.pm_state.proofs.OpeningLemmas.{near-is, ended-history, opening-ends}
use Rattle.pm_state.proofs.state.State.prepare_now.Goals as goal

pub returns-clause-prepared : goal.returns-clause-prepared
returns-clause-prepared c = λ h stands.
    let self = c.args.self.now in
    let m = c.args.moment in
    let near = near-is self.last _ m stands.last c.requires.near in
    let adds = booked-adds self.inventory h self.last m c.cells-cells.result.now _ c.in_ok-item.item stands.history stands.begun stands.last c.requires.moment
    c.requires.later c.requires.near c.requires.after (c.cells-cells.ensures.cells ∙ stands.events.tick.cells) stands.only (rw c.tick.ensures at c.in_ok-item.ensures) in
    let served : KeepsCursors (cursors_of (subscriptions_of self.subs)) (Some c.in_ok-item.item) = (_, c.in_ok-item.ensures, c.in_ok-cursors.ensures) in
    let end = c.in_ok-ended.ensures.end h stands (ended-history self h m false c.in_ok-item.item near adds) in
    opening-ends c.end.new.self h m false c.in_ok-item.item c.in_ok-ended.ended _ near
    (subst (λ (i : InventoryState). AddsAt i h m (Some c.in_ok-item.item)) (sym c.end.ensures.inventory) adds)
    (subst (λ (s : Subscriptions). KeepsCursors (cursors_of (subscriptions_of s)) (Some c.in_ok-item.item)) (sym c.end.ensures.subs) served) end refl refl refl
