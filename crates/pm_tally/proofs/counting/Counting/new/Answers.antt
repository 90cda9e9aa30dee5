use Rattle.std.proofs.Common.{◌≡◌, ◌+◌, ◌<◌, ◌∷◌, ℕ, List, [], length, get_or, sym, ◌∙◌, ap, subst, arith, length-append}
use Rattle.pm_meas.specs.declared.kind.Reduce.TheVariants.{Sum}
use Rattle.pm_inventory.specs.Slot.{Slot}
use Rattle.pm_events.specs.Event.{registers_each_at}
use Rattle.pm_tally.specs.Counting.{IsClear}
use Rattle.pm_tally.specs.declared.slot_count.SlotCount.{SlotCount}
use Rattle.pm_tally.proofs.CountingLemmas.{clear-next, slice_get-at}
use Rattle.pm_tally.proofs.counting.Counting.new.Goals as goal

pub loop-slot-preserved : goal.loop-slot-preserved
loop-slot-preserved c =
    let slots = c.args.slots.now in
    let counts = c.loop-slot.counts.items in
    let many : length counts ≡ c.loop-slot.slot = c.loop-slot.invariant.many in
    let d : Slot = record { object = []; metric = []; reduce = Sum; registers_each = 1 } in
    let within : c.loop-slot.slot < length slots = omega (arith, c.loop-slot-test.true, c.len-slot-end.ensures.value) in
    let registers_each : c.registers_each.result ≡ (get_or slots (length counts) d).registers_each =
    c.registers_each.ensures.value (get_or slots c.loop-slot.slot d) (slice_get-at slots c.loop-slot.slot d within) ∙ ap (λ (n : ℕ). (get_or slots n d).registers_each) (sym many) in
    let clear : IsClear c.registers_each.result c.new.result = subst (λ (n : ℕ). IsClear n c.new.result) c.from.ensures c.new.ensures in
    record {
      many = ap length c.in_ok-push.ensures.items ∙ length-append counts (c.new.result ∷ []) ∙ ap (λ (n : ℕ). n + 1) many;
      clear = λ place e inside.
          subst (λ (l : List SlotCount). IsClear (registers_each_at slots place) (get_or l place e)) (sym c.in_ok-push.ensures.items)
          (clear-next slots counts c.new.result c.registers_each.result d (omega (arith, within, many)) registers_each clear (λ p f less. c.loop-slot.invariant.clear p f (omega (arith, less, many))) place e (omega (arith, inside, many)));
    }
