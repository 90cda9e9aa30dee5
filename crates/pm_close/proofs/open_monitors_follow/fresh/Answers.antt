use Rattle.std.proofs.Common.{◌/◌, subst, ◌∙◌, ap, arith}
use Rattle.pm_close.specs.Marks.{MarksStand}
use Rattle.pm_close.proofs.NumberedLemmas.{keeps-granularity}
use Rattle.pm_close.proofs.open_monitors_follow.fresh.Goals as goal

pub returns-clause-fresh : goal.returns-clause-fresh
returns-clause-fresh c =
    let tick = c.end.ensures in
    record {
      granularity = ap (λ n. n / 60) c.from-granularity.ensures ∙ keeps-granularity c.args.inventory.now c.args.monitor.now c.requires.keeps;
      marks = λ terms h w none.
          subst (λ t. MarksStand terms h w (c.from-granularity.result / 60) t c.unmarked.result) tick
          (c.unmarked.ensures.stands terms h w (λ t from lt. none t (omega (arith, lt, tick))));
      watches = c.in_ok-watches.ensures.begin;
    }
