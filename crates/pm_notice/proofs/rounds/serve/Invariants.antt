use Rattle.std.proofs.Common.{◌≡◌, ◌++◌}
use Rattle.pm_notice.proofs.RoundLemmas.{sent}
use Rattle.pm_notice.proofs.rounds.serve.Given as goal

abbrev pub invariant-loop-notice : goal.invariant-loop-notice
invariant-loop-notice g l =
    (g.P.Courier.IsTold → g.P.Courier.posts l.courier ≡ g.P.Courier.posts l.fn.courier ++ sent l.subscription l.moment l.notices l.notice-index)
    × (g.P.Courier.faults l.courier ≡ g.P.Courier.faults l.fn.courier)
