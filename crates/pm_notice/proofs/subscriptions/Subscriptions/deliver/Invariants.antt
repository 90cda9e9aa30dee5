use Rattle.std.proofs.Common.{◌≡◌, ◌++◌}
use Rattle.pm_notice.specs.Planned.{subscriptions_of}
use Rattle.pm_notice.specs.Round.{faults_after_stops}
use Rattle.pm_notice.proofs.DeliverLemmas.{ServedTo, posts_to, stops_to}
use Rattle.pm_notice.proofs.subscriptions.Subscriptions.deliver.Given as goal

abbrev pub invariant-loop-place : goal.invariant-loop-place
invariant-loop-place g l =
    let xs = subscriptions_of l.fn.self in
    let ys = subscriptions_of l.self in
    record {
      served : ServedTo l.notices l.total l.moment l.place xs ys;
      posted : g.P.Courier.IsTold → g.P.Courier.posts l.courier ≡ g.P.Courier.posts l.fn.courier ++ posts_to l.notices l.total l.moment l.place xs ys;
      counted : g.P.Courier.faults l.courier ≡ faults_after_stops (stops_to l.notices l.total l.moment l.place ys) (g.P.Courier.faults l.fn.courier);
    }
