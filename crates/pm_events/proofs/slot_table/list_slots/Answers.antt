use Rattle.std.proofs.Common.{List, length, take, ◌≡◌, Some, ap, subst, ◌∙◌, sym, arith}
use Rattle.std.proofs.lemmas.List.{take_all}
use Rattle.std.specs.List.{flat_map, slice_get}
use Rattle.pm_dn.specs.Tree.{IsTree}
use Rattle.pm_meas.specs.declared.def.Def.{Def}
use Rattle.pm_meas.specs.Catalogue.{IsCatalogue}
use Rattle.pm_inventory.specs.Slot.{slots_of_def}
use Rattle.pm_inventory.specs.SlotNames.{AreDistinct, AreWords}
use Rattle.pm_inventory.proofs.EventSlotLemmas.{event_slots-by_metric}
use Rattle.pm_events.specs.SlotTableFields.{Lists}
use Rattle.pm_events.proofs.SlotTableLemmas.{metric-listed}
use Rattle.pm_inventory.proofs.SlotNamesLemmas.{slots-apart, slots-words}
use Rattle.pm_events.proofs.slot_table.list_slots.Goals as goal

pub loop-metric-preserved : goal.loop-metric-preserved
loop-metric-preserved c =
    let tree = c.args.inventory.now.objects in
    let defs = c.args.inventory.now.measures in
    let def = c.def.result.now in
    let is : slice_get defs c.loop-metric.metric ≡ Some def = ap (λ (l : List Def). slice_get l c.loop-metric.metric) (sym c.catalogue-catalogue.ensures) ∙ c.def.ensures in
    let lists = c.in_ok-list_metric.ensures (flat_map (slots_of_def tree) (take c.loop-metric.metric defs)) c.loop-metric.invariant in
    metric-listed tree defs def c.loop-metric.metric c.list_metric.new.entries.items is (rw c.tree-tree.ensures at lists)

pub returns-clause-distinct : goal.returns-clause-distinct
returns-clause-distinct c =
    let tree = c.args.inventory.now.objects in
    let defs = c.args.inventory.now.measures in
    subst AreDistinct (sym (event_slots-by_metric c.args.inventory.now)) (slots-apart tree defs (subst IsTree c.tree-tree.ensures c.len-objects.ensures.let_in) (subst IsCatalogue c.catalogue-catalogue.ensures c.len-metric-end.ensures.catalogue).distinct)

pub returns-clause-words : goal.returns-clause-words
returns-clause-words c =
    let tree = c.args.inventory.now.objects in
    let defs = c.args.inventory.now.measures in
    subst AreWords (sym (event_slots-by_metric c.args.inventory.now)) (slots-words tree defs (subst IsTree c.tree-tree.ensures c.len-objects.ensures.let_in) (subst IsCatalogue c.catalogue-catalogue.ensures c.len-metric-end.ensures.catalogue).permitted)

pub returns-clause-listed : goal.returns-clause-listed
returns-clause-listed c =
    let inventory = c.args.inventory.now in
    let measures = inventory.measures in
    let metrics : length c.catalogue-catalogue.result.now ≡ length measures = ap length c.catalogue-catalogue.ensures in
    let all : take c.loop-metric.metric measures ≡ measures = take_all c.loop-metric.metric measures (omega (arith, metrics, c.len-metric-end.ensures.value, c.loop-metric-test.false)) in
    subst (Lists c.loop-metric.entries.items) (ap (flat_map (slots_of_def inventory.objects)) all ∙ sym (event_slots-by_metric inventory)) c.loop-metric.invariant
