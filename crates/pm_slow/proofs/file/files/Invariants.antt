use Rattle.std.proofs.Common.{◌≡◌}
use Rattle.pm_history.specs.History.{history_of}
use Rattle.pm_history.specs.Ticks.{behind}
use Rattle.pm_history.specs.Files.{files_at}
use Rattle.pm_slow.specs.Book.{terms_in}
use Rattle.pm_slow.proofs.file.files.Given as goal

abbrev pub invariant-loop-k : goal.invariant-loop-k
invariant-loop-k l = l.files.items ≡ behind (files_at (terms_in l.book) (history_of l.history)) l.first l.k
