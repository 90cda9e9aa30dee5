use Rattle.std.proofs.Common.{◌∙◌, ◌++◌, ◌∷◌, [], ℕ, List, ap, codes}
use Rattle.pm_inventory.specs.Inventory.{measure_line}
use Rattle.pm_inventory.proofs.InventoryTextLemmas.{line-written}
use Rattle.pm_inventory.proofs.inventory_text.write_measures.Goals as goal

pub loop-metric-preserved : goal.loop-metric-preserved
loop-metric-preserved c =
    line-written measure_line c.args.catalogue.now c.loop-metric.metric c.def.result.now c.args.text.now.items c.loop-metric.text.items c.write_line.new.text.items c.def.ensures c.loop-metric.invariant
    (c.in_ok-write_line.ensures ∙ ap (λ (t : List ℕ). c.loop-metric.text.items ++ ((codes "measure " ++ t) ++ 10 ∷ [])) (c.deref.ensures.value ∙ c.in_ok-words.ensures.text))
