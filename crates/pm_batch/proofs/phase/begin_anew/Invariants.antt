use Rattle.std.proofs.Common.{◌≡◌, ◌++◌, map, take, drop}
use Rattle.pm_batch.specs.Phases.{ArePhases, begun}
use Rattle.pm_batch.proofs.phase.begin_anew.Given as goal

abbrev pub invariant-loop-phase : goal.invariant-loop-phase
invariant-loop-phase l = record {
  anew : l.phases ≡ map begun (take l.phase-index l.initial.phases) ++ drop l.phase-index l.initial.phases;
  sound : ArePhases l.phases;
}
