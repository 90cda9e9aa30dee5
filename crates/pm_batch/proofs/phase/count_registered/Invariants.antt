use Rattle.std.proofs.Common.{◌≡◌, ◌≤◌, ◌+◌, drop}
use Rattle.pm_batch.specs.Phases.{ArePhases, registered_by}
use Rattle.pm_batch.proofs.phase.count_registered.Given as goal

abbrev pub invariant-loop-hit : goal.invariant-loop-hit
invariant-loop-hit l = record {
  sound : ArePhases l.phases;
  counted : l.count + registered_by l.phases (drop l.hit-index l.hits) ≡ registered_by l.initial.phases l.hits;
  few : l.count ≤ l.hit-index;
}
