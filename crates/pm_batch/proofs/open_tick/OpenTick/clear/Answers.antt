use Rattle.std.proofs.Common.{◌≡◌, replicate, length, map, [], ap, refl, ◌∙◌, arith}
use Rattle.pm_meas.specs.Cell.{cell_of}
use Rattle.pm_batch.specs.Phases.{begun}
use Rattle.pm_batch.proofs.AnewLemmas.{clear-stands, ended-anew, put_back}
use Rattle.pm_batch.proofs.open_tick.OpenTick.clear.Goals as goal

pub returns-clause-stands : goal.returns-clause-stands
returns-clause-stands c = λ inventory h e made ends.
    let old = c.args.self.now in
    let cells : c.fill.new.self.items ≡ replicate (length old.cells.items) (cell_of []) = c.fill.ensures.items (λ y is. is) ∙ ap (replicate old.cells.len) c.empty.ensures ∙ ap (λ n. replicate n (cell_of [])) (omega (arith, old.cells.ok.0)) in
    let phases = put_back old.phases.items c.begin_anew.new.phases old.phases.len (omega (arith, c.begin_anew.auto.phases, ap length c.as_mut_slice.ensures.value)) (omega (arith, old.phases.ok.0)) ∙ c.begin_anew.ensures.anew ∙ ap (map begun) c.as_mut_slice.ensures.value in
    clear-stands inventory _ old _ (ended-anew h e ends) made old.wide cells phases refl
