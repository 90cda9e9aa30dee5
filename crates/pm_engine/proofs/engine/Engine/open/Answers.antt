use Rattle.std.proofs.Common.{◌≡◌, ℕ, List, refl, sym, ap, subst}
use Rattle.pm_notice.specs.StandFor.{cursors_of}
use Rattle.pm_disk.proofs.MomentLemmas.{at_rest}
use Rattle.pm_inventory.specs.Inventory.{InventoryState}
use Rattle.pm_history.specs.declared.entry.Entry.TheVariants.{Boot}
use Rattle.pm_history.specs.History.{Start, ◌▷◌}
use Rattle.pm_ledger.specs.Between.{EachBetween}
use Rattle.pm_ledger.specs.Ledger.{IsLedgerOf}
use Rattle.pm_ledger.specs.Stored.{AddsItem}
use Rattle.pm_engine.proofs.BetweenLemmas.{started}
use Rattle.pm_engine.proofs.engine.Engine.open.Goals as goal

adds : (inventory : InventoryState) (boot : ℕ) (lent bytes : List ℕ) → lent ≡ bytes → AddsItem inventory Start (Boot boot) bytes
    → AddsItem inventory Start (Boot boot) lent
adds inventory boot lent bytes same is = subst (AddsItem inventory Start (Boot boot)) (sym same) is

pub returns-in_err-router-clause-any_moment : goal.returns-in_err-router-clause-any_moment
returns-in_err-router-clause-any_moment g c = λ told all. started c.args.inventory (Boot c.args.boot) _ _ (at_rest (EachBetween c.args.inventory Start Start) _ all)

pub returns-in_err-item-clause-any_moment : goal.returns-in_err-item-clause-any_moment
returns-in_err-item-clause-any_moment g c = λ told all. started c.args.inventory (Boot c.args.boot) _ _ (at_rest (EachBetween c.args.inventory Start Start) _ all)

pub returns-in_err-state-clause-any_moment : goal.returns-in_err-state-clause-any_moment
returns-in_err-state-clause-any_moment g c = λ told all. started c.args.inventory (Boot c.args.boot) _ _ (at_rest (EachBetween c.args.inventory Start Start) _ all)

pub returns-in-Ok-clause-any_moment : goal.returns-in-Ok-clause-any_moment
returns-in-Ok-clause-any_moment g c = λ told all. c.open_begun.ensures.any_moment told c.args.inventory (Boot c.args.boot) (adds c.args.inventory c.args.boot _ _ c.as_bytes.ensures c.in_ok-item.ensures) all

pub returns-in-Err-clause-any_moment : goal.returns-in-Err-clause-any_moment
returns-in-Err-clause-any_moment g c = λ told all. c.open_begun.ensures.any_moment told c.args.inventory (Boot c.args.boot) (adds c.args.inventory c.args.boot _ _ c.as_bytes.ensures c.in_ok-item.ensures) all

pub returns-in-Ok-clause-carries : goal.returns-in-Ok-clause-carries
returns-in-Ok-clause-carries g c = record {
  bears = record {
    stands = c.in_ok-state.ensures.stands;
    served = ap cursors_of c.in_ok-state.ensures.subs;
    store = λ told.
        subst (λ (i : InventoryState). IsLedgerOf i c.in-Ok.ledger (g.D.Disk.told c.open_begun.new.disk).now (Start ▷ Boot c.args.boot)) (sym c.in_ok-state.ensures.inventory)
        (c.in-Ok.ensures.begun told c.args.inventory (Boot c.args.boot) (adds c.args.inventory c.args.boot _ _ c.as_bytes.ensures c.in_ok-item.ensures));
  };
  settled = refl;
}
