use Rattle.std.proofs.Common.{List, [], ◌<◌, ◌≤◌, get_or, arith, sym, subst, ◌∙◌}
use Rattle.std.proofs.lemmas.Option.{slice_get-get_or}
use Rattle.std.proofs.lemmas.List.Elements.{All-push}
use Rattle.pm_meas.specs.declared.kind.Reduce.TheVariants.{Sum}
use Rattle.pm_inventory.specs.Slot.{Slot}
use Rattle.pm_batch.specs.declared.phase.Phase.{Phase}
use Rattle.pm_batch.specs.Phases.{ArePhases}
use Rattle.pm_batch.proofs.PhaseLemmas.{first-more}
use Rattle.pm_batch.proofs.phase.first_phases.Goals as goal

pub loop-slot-preserved : goal.loop-slot-preserved
loop-slot-preserved c =
    let slots = c.args.slots.now in
    let i = c.loop-slot.slot in
    let d : Slot = record { object = []; metric = []; reduce = Sum; registers_each = 1 } in
    let at = slice_get-get_or slots i d (omega (arith, c.len-slot-end.ensures.value)) in
    let each = c.registers_each.ensures.value (get_or slots i d) at in
    record {
      first = ◌∙◌ {A = List Phase} c.in_ok-push.ensures.items (first-more slots c.loop-slot.phases.items i c.registers_each.result (get_or slots i d) (omega (arith, c.len-slot-end.ensures.value)) at each c.loop-slot.invariant.first);
      sound = subst ArePhases (sym c.in_ok-push.ensures.items) (All-push (λ p. (p.seen < p.each) × (p.each ≤ 1000)) c.loop-slot.phases.items (record { seen = 0; each = c.registers_each.result }) c.loop-slot.invariant.sound (c.registers_each.ensures.range.0, c.registers_each.ensures.range.1));
    }
