use Rattle.std.proofs.Common.{◌≡◌}
use Rattle.pm_history.specs.History.{history_of}
use Rattle.pm_history.specs.Counted.{some_counted}
use Rattle.pm_slow.specs.Book.{terms_in}
use Rattle.pm_slow.proofs.counted.some_counted.Given as goal

abbrev pub invariant-loop-k : goal.invariant-loop-k
invariant-loop-k l = l.some ≡ some_counted (terms_in l.book) (history_of l.history) l.w l.first l.k
