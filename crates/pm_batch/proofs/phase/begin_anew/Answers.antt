use Rattle.std.proofs.Common.{get_or, arith, sym}
use Rattle.std.proofs.lemmas.List.{get_or_default}
use Rattle.std.proofs.lemmas.List.Edits.{map_over_more}
use Rattle.pm_batch.specs.declared.phase.Phase.{Phase}
use Rattle.pm_batch.specs.Phases.{begun}
use Rattle.pm_batch.proofs.PhaseLemmas.{step_at-sound}
use Rattle.pm_batch.proofs.phase.begin_anew.Goals as goal

pub loop-phase-preserved : goal.loop-phase-preserved
loop-phase-preserved c =
    let i = c.loop-phase.phase-index in
    let now = c.loop-phase.phases in
    let d : Phase = record { seen = 0; each = 0 } in
    let old : Phase = get_or now i d in
    let sound = c.loop-phase.invariant.sound i d (omega arith) in
    record {
      anew = map_over_more begun c.args.phases.now now i old (omega arith) c.loop-phase.invariant.anew (sym (get_or_default now i old d (omega arith)));
      sound = step_at-sound now i (begun old) (omega (arith, sound.0)) sound.1 c.loop-phase.invariant.sound;
    }
