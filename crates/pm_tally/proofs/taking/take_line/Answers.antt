use Rattle.std.proofs.Common.{List, None, Ok, Err, ap, sym, ◌∙◌, arith, refl, ◌≡◌, ◌≤◌, ◌<◌}
use Rattle.pm_inventory.specs.Slot.{Slot}
use Rattle.pm_events.specs.Event.{read_event, refusal, refusal_of}
use Rattle.pm_base.specs.Moment.{tick_of}
use Rattle.pm_tally.specs.declared.lines.Fault.{Fault}
use Rattle.pm_tally.proofs.TakingLemmas.{written-same, written-later, written-some, some-later}
use Rattle.pm_tally.proofs.taking.take_line.Goals as goal

pub returns-then-tick-clause-written : goal.returns-then-tick-clause-written
returns-then-tick-clause-written g c = λ told events before counts written.
    let same : tick_of c.in-Ok.event.moment ≡ tick_of c.args.counting.now.moment = sym c.tick.ensures ∙ c.if-tick.true ∙ c.tick-2.ensures in
    written-same c.args.slots.now c.args.counting.now events c.in-Ok.event c.args.line.now before _ counts (c.in-Ok.ensures.event ∙ ap (λ (slots : List Slot). read_event slots c.args.line.now) c.requires.reader) same written

pub returns-in-Ok-write_tick-clause-written : goal.returns-in-Ok-write_tick-clause-written
returns-in-Ok-write_tick-clause-written g c = λ told events before counts written.
    let ordered : c.args.counting.now.moment ≤ c.in-Ok.event.moment = c.in_default.ensures.later refl in
    let later : tick_of c.args.counting.now.moment < tick_of c.in-Ok.event.moment = omega (arith, c.if-tick.false, c.tick.ensures, c.tick-2.ensures, ordered) in
    written-later c.args.slots.now c.args.counting.now events c.in-Ok.event c.args.line.now before (g.K.Sink.written c.args.output.now) _ counts (c.in-Ok.ensures.event ∙ ap (λ (slots : List Slot). read_event slots c.args.line.now) c.requires.reader) later (c.in-Ok-write_tick.ensures.written told events counts) written

pub returns-in-Err-Write-clause-written : goal.returns-in-Err-Write-clause-written
returns-in-Err-Write-clause-written g c = λ told events before counts written.
    let ordered : c.args.counting.now.moment ≤ c.in-Ok.event.moment = c.in_default.ensures.later refl in
    let later : tick_of c.args.counting.now.moment < tick_of c.in-Ok.event.moment = omega (arith, c.if-tick.false, c.tick.ensures, c.tick-2.ensures, ordered) in
    written-some c.args.slots.now c.args.counting.now events c.in-Ok.event c.args.line.now before (g.K.Sink.written c.args.output.now) _ counts (c.in-Ok.ensures.event ∙ ap (λ (slots : List Slot). read_event slots c.args.line.now) c.requires.reader) later (c.in-Err-Write.ensures.written told events counts) written

pub returns-in-Err-Memory-clause-written : goal.returns-in-Err-Memory-clause-written
returns-in-Err-Memory-clause-written g c = λ told events before counts written.
    let ordered : c.args.counting.now.moment ≤ c.in-Ok.event.moment = c.in_default.ensures.later refl in
    let later : tick_of c.args.counting.now.moment < tick_of c.in-Ok.event.moment = omega (arith, c.if-tick.false, c.tick.ensures, c.tick-2.ensures, ordered) in
    written-some c.args.slots.now c.args.counting.now events c.in-Ok.event c.args.line.now before (g.K.Sink.written c.args.output.now) _ counts (c.in-Ok.ensures.event ∙ ap (λ (slots : List Slot). read_event slots c.args.line.now) c.requires.reader) later (c.in-Err-Memory.ensures.written told events counts) written

pub returns-in-Err-Write-clause-taken : goal.returns-in-Err-Write-clause-taken
returns-in-Err-Write-clause-taken g c = λ events counts.
    let ordered : c.args.counting.now.moment ≤ c.in-Ok.event.moment = c.in_default.ensures.later refl in
    let later : tick_of c.args.counting.now.moment < tick_of c.in-Ok.event.moment = omega (arith, c.if-tick.false, c.tick.ensures, c.tick-2.ensures, ordered) in
    let read : Ok c.in-Ok.event ≡ read_event c.args.slots.now c.args.line.now = c.in-Ok.ensures.event ∙ ap (λ (slots : List Slot). read_event slots c.args.line.now) c.requires.reader in
    let none : refusal c.args.slots.now events c.args.line.now ≡ None = ap (refusal_of c.args.slots.now events) (sym read) ∙ sym (c.in_default.ensures.order c.args.slots.now events counts) in
    (none, some-later c.args.slots.now c.args.counting.now events c.in-Ok.event c.args.line.now counts read later (c.in-Err-Write.ensures.some events counts (ap (λ (f : Fault). Err f) c.in-Err-Write.field-0-is)))
