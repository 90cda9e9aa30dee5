use Rattle.std.proofs.Common.{◌≡◌, ℕ, List, [], Option, None, refl, subst}
use Rattle.pm_disk.specs.Moments.{DiskState}
use Rattle.pm_store.specs.declared.item.Item1.{Item1}
use Rattle.pm_ledger.specs.declared.ledger.Ledger.{Ledger}
use Rattle.pm_ledger.specs.Ledger.{IsAt, TellsNext}
use Rattle.pm_disk.proofs.MomentLemmas.{run_on, at_end}
use Rattle.pm_journal.specs.Items.{HasItems}
use Rattle.pm_ledger.specs.Between.{EachBetween}
use Rattle.pm_engine.proofs.opening.open_ledger.Goals as goal

ends : (next : Option Item1) (ledger : Ledger) (disk : DiskState) (left : List (List ℕ)) → next ≡ None → TellsNext next ledger disk [] left
    → (left ≡ []) × IsAt ledger disk [] []
ends next ledger disk left is tells = subst (λ n. TellsNext n ledger disk [] left) is tells

pub returns-in-Ok-Some-clause-any_moment : goal.returns-in-Ok-Some-clause-any_moment
returns-in-Ok-Some-clause-any_moment g c = λ told inventory a b all.
    let first = c.in_ok-ledger.ensures.any_moment told inventory a b all in
    run_on (EachBetween inventory a b) _ _ _ first (c.next.ensures.any_moment told inventory a b (at_end (EachBetween inventory a b) _ _ first))

pub returns-in-Ok-None-clause-any_moment : goal.returns-in-Ok-None-clause-any_moment
returns-in-Ok-None-clause-any_moment g c = λ told inventory a b all.
    let first = c.in_ok-ledger.ensures.any_moment told inventory a b all in
    run_on (EachBetween inventory a b) _ _ _ first (c.next.ensures.any_moment told inventory a b (at_end (EachBetween inventory a b) _ _ first))

pub returns-in-Err-clause-any_moment : goal.returns-in-Err-clause-any_moment
returns-in-Err-clause-any_moment g c = λ told inventory a b all.
    let first = c.in_ok-ledger.ensures.any_moment told inventory a b all in
    run_on (EachBetween inventory a b) _ _ _ first (c.next.ensures.any_moment told inventory a b (at_end (EachBetween inventory a b) _ _ first))

pub returns-in-Ok-None-clause-empty : goal.returns-in-Ok-None-clause-empty
returns-in-Ok-None-clause-empty g c = λ told inventory.
    let opened = c.in_ok-ledger.ensures.opened told in
    let none = ends _ c.next.new.self (g.D.Disk.told c.next.new.disk).now opened.0 c.in-Ok-None.field-0-is (c.in-Ok-None.ensures.next told [] opened.0 opened.2) in
    record { texts = []; at = none.1; has = record { items = []; stored = tt; are = refl } }

pub returns-in-Ok-None-clause-fresh : goal.returns-in-Ok-None-clause-fresh
returns-in-Ok-None-clause-fresh g c = λ told.
    let opened = c.in_ok-ledger.ensures.opened told in
    let none = ends _ c.next.new.self (g.D.Disk.told c.next.new.disk).now opened.0 c.in-Ok-None.field-0-is (c.in-Ok-None.ensures.next told [] opened.0 opened.2) in
    subst (HasItems (g.D.Disk.told c.args.disk.now).now.first.seen) none.0 opened.1
