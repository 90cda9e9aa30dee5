use Rattle.std.proofs.Common.{◌≡◌, Bool, true, false, Ok, sym, ap, subst, ◌∙◌, arith}
use Rattle.pm_disk.specs.Area.{AreaState}
use Rattle.pm_journal.specs.Opening.{IsBegun}
use Rattle.pm_collect.specs.declared.collector.TheConstants.{MOST_BYTES}
use Rattle.std.proofs.lemmas.Result.{err_from_is_err_and}
use Rattle.pm_collect.specs.declared.error.CollectError.{CollectError}
use Rattle.pm_collect.specs.Opening.{RefusesNext}
use Rattle.pm_collect.proofs.RefusalLemmas.{open_refused}
use Rattle.pm_collect.proofs.ReadLemmas.{reads_on, opens, moments_on}
use Rattle.pm_collect.proofs.collector.Collector.open.Goals as goal

pub returns-in_err-next-clause-any_moment : goal.returns-in_err-next-clause-any_moment
returns-in_err-next-clause-any_moment g c = λ told a b all.
    moments_on _ _ _ a b (c.loop-turn.invariant.moments told a b all) (c.next.ensures.any_moment told a b)

pub returns-then-not-branch-clause-holds : goal.returns-then-not-branch-clause-holds
returns-then-not-branch-clause-holds g c = λ told.
    let before = c.loop-turn.invariant.reads told in
    let is : c.in_ok-next.field-0 ≡ false = grind (arith, c.if-not-branch.true) in
    opens c.loop-turn.collector c.next.new.self _ _ _ before.0 before.1 c.in_ok-next.field-0 is before.2 (c.in_ok-next.ensures.next told before.0 before.1 before.3)
    (c.loop-turn.invariant.begun told) before.3 (c.in_ok-next.ensures.ended told (ap (λ (b : Bool). Ok b) is))

pub returns-in_err-next-clause-refused : goal.returns-in_err-next-clause-refused
returns-in_err-next-clause-refused g c =
    let p = err_from_is_err_and c.from_residual-in_err-next.result c.from_residual-in_err-next.ensures.1 in
    rw p.1
    (open_refused g.D.Disk.IsTold c.loop-turn.collector (g.D.Disk.told c.args.disk.now) (g.D.Disk.told c.loop-turn.disk) (g.D.Disk.told c.next.new.disk) p.0
    (λ told. let before = c.loop-turn.invariant.reads told in (c.loop-turn.invariant.begun told, (before.0, before.1, before.3)))
    (subst (λ (e : CollectError). RefusesNext g.D.Disk.IsTold c.loop-turn.collector (g.D.Disk.told c.loop-turn.disk).now e) (sym p.2) c.in_err-next.ensures.refused))

pub returns-then-not-branch-clause-any_moment : goal.returns-then-not-branch-clause-any_moment
returns-then-not-branch-clause-any_moment g c = λ told a b all.
    moments_on _ _ _ a b (c.loop-turn.invariant.moments told a b all) (c.next.ensures.any_moment told a b)

pub loop-turn-preserved : goal.loop-turn-preserved
loop-turn-preserved g c = record {
  usable = c.in_ok-next.ensures.usable;
  tied = c.in_ok-next.ensures.tied;
  reads = λ told.
      let before = c.loop-turn.invariant.reads told in
      let is : c.in_ok-next.field-0 ≡ true = grind (arith, c.if-not-branch.false) in
      reads_on c.next.new.self (g.D.Disk.told c.args.disk.now).now _ before.0 before.1 c.in_ok-next.field-0 is before.2 (c.in_ok-next.ensures.next told before.0 before.1 before.3);
  begun = λ told.
      let is : c.in_ok-next.field-0 ≡ true = grind (arith, c.if-not-branch.false) in
      subst (λ (a : AreaState). IsBegun MOST_BYTES (g.D.Disk.told c.args.disk.now).now.first.seen a) (sym (c.in_ok-next.ensures.seen told (ap (λ (b : Bool). Ok b) is)))
      (c.loop-turn.invariant.begun told);
  moments = λ told a b all. moments_on _ _ _ a b (c.loop-turn.invariant.moments told a b all) (c.next.ensures.any_moment told a b);
  faults = c.in_ok-next.ensures.faults ∙ c.loop-turn.invariant.faults;
}
