use Rattle.std.proofs.Common.{◌≡◌, ◌+◌, ◌%◌, ℕ, [], length, get_or, sym, ◌∙◌, ap, arith}
use Rattle.std.proofs.Math.Dec.{eqb}
use Rattle.std.proofs.lemmas.List.{get_or-map}
use Rattle.pm_base.specs.Moment.{tick_of}
use Rattle.pm_meas.specs.declared.kind.Reduce.TheVariants.{Sum}
use Rattle.pm_inventory.specs.Slot.{Slot}
use Rattle.pm_events.specs.Event.{events_at, registers_each_at}
use Rattle.pm_tally.proofs.CountingLemmas.{slice_get-at}
use Rattle.pm_tally.proofs.PlainLemmas.{counts-as}
use Rattle.pm_tally.proofs.plain_events.counts.Goals as goal

pub returns : goal.returns
returns c =
    let slots = c.args.slots.now in
    let e = c.args.event.now in
    let d : Slot = record { object = []; metric = []; reduce = Sum; registers_each = 1 } in
    let registers_each : c.from-registers_each.result ≡ registers_each_at slots e.slot =
    c.from-registers_each.ensures ∙ c.registers_each.ensures.value (get_or slots e.slot d) (slice_get-at slots e.slot d c.requires) ∙ sym (get_or-map (λ (s : Slot). s.registers_each) slots e.slot d 1 c.requires) in
    let count : c.count_at.result ≡ length (events_at c.args.earlier.now e.slot (tick_of e.moment)) =
    c.count_at.ensures ∙ ap (λ (t : ℕ). length (events_at c.args.earlier.now e.slot t)) c.tick.ensures in
    ap (λ (n : ℕ). eqb (n % c.from-registers_each.result + 1) c.from-registers_each.result) count
    ∙ counts-as slots c.args.earlier.now e c.from-registers_each.result (omega (arith, c.from-registers_each.ensures, c.registers_each.ensures.range)) registers_each
