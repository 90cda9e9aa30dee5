use Rattle.std.proofs.Common.{◌≡◌, take}
use Rattle.pm_history.specs.History.{history_of, size}
use Rattle.pm_history.specs.Standing.{standing_after}
use Rattle.pm_history.specs.Counted.{is_touched}
use Rattle.pm_slow.specs.Book.{terms_in}
use Rattle.pm_slow.proofs.counted.is_touched.Given as goal

abbrev pub invariant-loop-place : goal.invariant-loop-place
invariant-loop-place l = record {
  touched : l.touched ≡ is_touched (terms_in l.book) (history_of (take l.place l.history)) l.w l.at;
  old : l.old ≡ standing_after (terms_in l.book) l.w.side (history_of (take l.place l.history)) l.w.id;
  place : l.place ≡ size (history_of (take l.place l.history));
}
