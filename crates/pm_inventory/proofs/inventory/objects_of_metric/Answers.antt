use Rattle.pm_inventory.proofs.SlotLemmas.{metric-more}
use Rattle.pm_inventory.proofs.inventory.objects_of_metric.Goals as goal

pub returns-clause-more : goal.returns-clause-more
returns-clause-more c =
    metric-more c.args.tree.now c.args.catalogue.now c.def.result.now c.args.metric c.len.result c.objects_before.result c.def.ensures c.len.ensures.value c.objects_before.ensures.count
