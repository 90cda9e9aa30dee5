use Rattle.std.proofs.Common.{◌≡◌, ◌<◌, [], take, subst, arith, refl}
use Rattle.std.specs.List.{flat_map}
use Rattle.pm_base.specs.declared.class.TheConstants.{CLASSES}
use Rattle.pm_close.specs.Measures.{AddsReads, quantities_with}
use Rattle.pm_close.proofs.MeasureLemmas.{adds-more}
use Rattle.pm_close.proofs.measures.measures_asked.Goals as goal

pub loop-class-preserved : goal.loop-class-preserved
loop-class-preserved c =
    let before = c.loop-class.invariant in
    let i = c.loop-class.class-index in
    let lt : i < 5 = omega (arith, c.loop-class-test.true) in
    record {
      reads = λ below.
          adds-more c.args.inventory.now (quantities_with c.args.inventory.now c.args.metrics.now c.args.objects.now) CLASSES i _ []
          c.loop-class.measures.items c.add_of_class.new.measures.items lt (before.reads below)
          (c.in_ok-add_of_class.ensures.reads below);
      within = c.in_ok-add_of_class.ensures.within before.within;
    }

pub returns-clause-reads : goal.returns-clause-reads
returns-clause-reads c = λ below.
    let up = c.loop-class.auto.class-index-end in
    let at : c.loop-class.class-index ≡ 5 = omega (arith, c.loop-class-test.false, up) in
    let all = subst (λ n. AddsReads c.args.inventory.now []
    (flat_map (quantities_with c.args.inventory.now c.args.metrics.now c.args.objects.now) (take n CLASSES)) c.loop-class.measures.items)
    at (c.loop-class.invariant.reads below) in
    all [] (record { as_many = refl; each = λ k lt. absurd (omega (arith, lt)) })
