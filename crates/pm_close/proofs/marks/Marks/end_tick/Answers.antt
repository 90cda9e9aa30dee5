use Rattle.pm_close.proofs.MarkLemmas.{stands-more, period-more}
use Rattle.pm_close.proofs.marks.Marks.end_tick.Goals as goal

pub returns-then-self-granularity-clause-stands : goal.returns-then-self-granularity-clause-stands
returns-then-self-granularity-clause-stands c =
    λ terms h w tick stand mark.
    stands-more terms h w c.args.granularity tick c.args.self.now c.push.new.self c.args.mark c.push.ensures
    c.if-self-granularity.true mark stand

pub returns-clause-period : goal.returns-clause-period
returns-clause-period c =
    λ terms h w tick stand mark.
    period-more terms h w c.args.granularity tick c.args.self.now c.push.new.self c.args.mark c.push.ensures
    c.if-self-granularity.false mark stand
