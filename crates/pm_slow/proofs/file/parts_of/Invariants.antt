use Rattle.std.proofs.Common.{◌≡◌, ◌+◌, ◌*◌}
use Rattle.pm_history.specs.History.{history_of}
use Rattle.pm_history.specs.Files.{parts_of}
use Rattle.pm_slow.specs.Book.{terms_in}
use Rattle.pm_slow.proofs.file.parts_of.Given as goal

abbrev pub invariant-loop-k : goal.invariant-loop-k
invariant-loop-k l = record {
  parts : l.parts.items ≡ parts_of (terms_in l.book) (history_of l.history) l.w l.terms l.first l._k;
  at : l.at ≡ l.first + l._k * l.terms.granularity;
}
