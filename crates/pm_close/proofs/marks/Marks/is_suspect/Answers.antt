use Rattle.std.proofs.Common.{◌≡◌, ◌+◌, not, ap, ◌∙◌, arith}
use Rattle.pm_history.specs.Ticks.{at_each}
use Rattle.pm_history.specs.Counted.{is_counted}
use Rattle.pm_history.proofs.TickLemmas.{at_each-same}
use Rattle.pm_close.specs.Marks.{mark_at}
use Rattle.pm_close.proofs.marks.Marks.is_suspect.Goals as goal

pub returns-clause-counted : goal.returns-clause-counted
returns-clause-counted c =
    λ terms h w counted.
    let marks = c.args.self.now in
    let end : c.loop-k.k ≡ marks.count = omega (arith, c.loop-k.auto.k-end, c.loop-k-test.false) in
    ap not (c.loop-k.invariant
    ∙ (ap (λ n. at_each n (mark_at marks)) end
    ∙ at_each-same marks.count (mark_at marks) (λ k. is_counted terms h w (marks.begin + k)) counted))
