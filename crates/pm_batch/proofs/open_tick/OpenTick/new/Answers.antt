use Rattle.std.proofs.Common.{replicate, [], ap, refl, ◌∙◌}
use Rattle.pm_meas.specs.Cell.{cell_of}
use Rattle.pm_batch.proofs.AnewLemmas.{new-stands}
use Rattle.pm_batch.proofs.open_tick.OpenTick.new.Goals as goal

pub returns-clause-stands : goal.returns-clause-stands
returns-clause-stands c = λ inventory is.
    let cells = c.in_ok-cells.ensures.items_if_clones_equal (λ y same. same) ∙ ap (λ x. replicate c.from.result x) c.empty.ensures ∙ ap (λ n. replicate n (cell_of [])) (c.from.ensures ∙ c.len.ensures.value) in
    new-stands inventory c.args.slots.now _ is c.len.ensures.distinct cells c.in_ok-phases.ensures.first refl
