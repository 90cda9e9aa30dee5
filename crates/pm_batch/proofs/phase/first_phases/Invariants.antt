use Rattle.std.proofs.Common.{◌≡◌, map, take}
use Rattle.pm_batch.specs.Phases.{ArePhases, first_phase}
use Rattle.pm_batch.proofs.phase.first_phases.Given as goal

abbrev pub invariant-loop-slot : goal.invariant-loop-slot
invariant-loop-slot l = record {
  first : l.phases.items ≡ map first_phase (take l.slot l.slots);
  sound : ArePhases l.phases.items;
}
