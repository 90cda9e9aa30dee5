use Rattle.std.proofs.Common.{◌≡◌, drop}
use Rattle.std.specs.List.{list_any}
use Rattle.std.specs.Str.{bytes_eq}
use Rattle.pm_jobs.specs.State.{ids}
use Rattle.pm_jobs.specs.Rules.{standing_at}
use Rattle.pm_jobs.proofs.planning.find.Given as goal

abbrev pub invariant-loop-place : goal.invariant-loop-place
invariant-loop-place l = record {
  same : standing_at l.items l.id ≡ standing_at (drop l.place l.items) l.id;
  any : list_any (bytes_eq l.id) (ids l.items) ≡ list_any (bytes_eq l.id) (ids (drop l.place l.items));
}
