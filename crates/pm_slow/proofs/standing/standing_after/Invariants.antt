use Rattle.std.proofs.Common.{◌≡◌, take}
use Rattle.pm_history.specs.History.{history_of, size}
use Rattle.pm_history.specs.Standing.{standing_after}
use Rattle.pm_slow.specs.Book.{terms_in}
use Rattle.pm_slow.proofs.standing.standing_after.Given as goal

abbrev pub invariant-loop-place : goal.invariant-loop-place
invariant-loop-place l = record {
  standing : l.standing ≡ standing_after (terms_in l.book) l.side (history_of (take l.place l.history)) l.id;
  place : l.place ≡ size (history_of (take l.place l.history));
}
