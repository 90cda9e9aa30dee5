use Rattle.std.proofs.Common.{arith}
use Rattle.pm_outside.proofs.LineLemmas.{none_before}
use Rattle.pm_outside.proofs.line.find_line.Goals as goal

pub returns-in-Some-2 : goal.returns-in-Some-2
returns-in-Some-2 c =
    let first = c.in-Some.ensures.0 in (
      omega (arith, first.high, c.if-at-le-MOST_LINE.false),
      none_before c.args.held.now 2049 c.in-Some.at (omega (arith, c.if-at-le-MOST_LINE.false)) first.high first.before,
    )
