use Rattle.std.proofs.Common.{◌≡◌, drop}
use Rattle.std.specs.List.{list_any}
use Rattle.std.specs.Str.{bytes_eq}
use Rattle.pm_jobs.specs.State.{on, ids}
use Rattle.pm_jobs.specs.Rules.{standing_at}
use Rattle.pm_replay.proofs.found.find.Given as goal

abbrev pub invariant-loop-place : goal.invariant-loop-place
invariant-loop-place l = record {
  same : standing_at (on l.side l.jobs) l.id ≡ standing_at (drop l.place (on l.side l.jobs)) l.id;
  any : list_any (bytes_eq l.id) (ids (on l.side l.jobs)) ≡ list_any (bytes_eq l.id) (ids (drop l.place (on l.side l.jobs)));
}
