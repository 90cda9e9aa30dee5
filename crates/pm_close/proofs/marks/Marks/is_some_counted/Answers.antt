use Rattle.std.proofs.Common.{◌≡◌, ◌+◌, ap, ◌∙◌, arith}
use Rattle.pm_history.specs.Ticks.{at_some}
use Rattle.pm_history.specs.Counted.{is_counted}
use Rattle.pm_history.proofs.TickLemmas.{at_some-same}
use Rattle.pm_close.specs.Marks.{mark_at}
use Rattle.pm_close.proofs.marks.Marks.is_some_counted.Goals as goal

pub returns-clause-counted : goal.returns-clause-counted
returns-clause-counted c =
    λ terms h w counted.
    let marks = c.args.self.now in
    let end : c.loop-k.k ≡ marks.count = omega (arith, c.loop-k.auto.k-end, c.loop-k-test.false) in
    c.loop-k.invariant
    ∙ (ap (λ n. at_some n (mark_at marks)) end
    ∙ at_some-same marks.count (mark_at marks) (λ k. is_counted terms h w (marks.begin + k)) counted)
