use Rattle.std.proofs.Common.{◌≡◌, ◌+◌, drop}
use Rattle.pm_jobs.specs.State.{ids}
use Rattle.pm_jobs.specs.Plan.{place_of}
use Rattle.pm_jobs.proofs.planning.place_for.Given as goal

abbrev pub invariant-loop-place : goal.invariant-loop-place
invariant-loop-place l = place_of l.id (ids l.items) ≡ l.place + place_of l.id (ids (drop l.place l.items))
