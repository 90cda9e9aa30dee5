use Rattle.std.proofs.Common.{◌≡◌, map}
use Rattle.pm_history.specs.History.{history_of}
use Rattle.pm_history.specs.Ticks.{behind}
use Rattle.pm_history.specs.Notices.{notices_at}
use Rattle.pm_slow.specs.Book.{terms_in}
use Rattle.pm_slow.specs.Seen.{notice_seen}
use Rattle.pm_slow.proofs.notice.notices.Given as goal

abbrev pub invariant-loop-k : goal.invariant-loop-k
invariant-loop-k l = map notice_seen l.notices.items ≡ behind (notices_at (terms_in l.book) (history_of l.history)) l.first l.k
