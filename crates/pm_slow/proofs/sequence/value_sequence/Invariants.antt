use Rattle.std.proofs.Common.{◌≡◌}
use Rattle.pm_history.specs.History.{history_of}
use Rattle.pm_history.specs.Ticks.{behind}
use Rattle.pm_history.specs.Notices.{value_at}
use Rattle.pm_slow.specs.Book.{terms_in}
use Rattle.pm_slow.proofs.sequence.value_sequence.Given as goal

abbrev pub invariant-loop-k : goal.invariant-loop-k
invariant-loop-k l = l.values.items ≡ behind (value_at (terms_in l.book) (history_of l.history) l.w l.granularity l.object l.metric) l.from l.k
