use Rattle.std.proofs.Common.{ℕ, [], ◌∷◌, Ok, refl, sym, ◌∙◌, ap}
use Rattle.pm_events.proofs.BatchLineLemmas.{hit-of_event}
use Rattle.pm_events.proofs.hit_reading.usual.Goals as goal

pub returns-clause-hit : goal.returns-clause-hit
returns-clause-hit c =
    let event = c.in_ok-event.event in
    hit-of_event c.args.slots.now c.args.line.now event (c.in_ok-event.ensures.event (48 ∷ []) refl refl)
    ∙ ap (λ (n : ℕ). Ok (record { slot = n; value = event.value })) (sym c.from.ensures)
