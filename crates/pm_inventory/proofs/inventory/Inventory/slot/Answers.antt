use Rattle.std.proofs.Common.{◌≡◌, ◌<◌, ◌+◌, ◌∙◌, false, true, length, sym, ap, subst, arith, rules}
use Rattle.pm_dn.specs.Tree.{IsTree}
use Rattle.pm_meas.specs.Catalogue.{IsCatalogue}
use Rattle.pm_inventory.specs.Inventory.{InventoryState, slots, slots_of, slot_number, is_slot_of}
use Rattle.pm_inventory.proofs.SlotLemmas.{position-within, slots-past, slots-none, slot-of_no_object, slot-kept}
use Rattle.pm_inventory.proofs.EventSlotLemmas.{slot_place-number}
use Rattle.pm_inventory.proofs.inventory.Inventory.slot.Goals as goal
use Rattle.pm_inventory.proofs.inventory.Inventory.slot.Goals.{then-object-len-via-then-object-len, then-object-len-via-else-object-len+then-metric-len}

pub returns-then-object-len-clause-number : goal.returns-then-object-len-clause-number
returns-then-object-len-clause-number c =
    let view = ap (λ (s : InventoryState). slot_number s c.args.object c.args.metric) c.self.view_is in
    elim c.then-object-len.branch [
      | then-object-len-via-then-object-len w ↦
          sym (slot-of_no_object c.self.inside.tree c.self.inside.catalogue c.args.object c.args.metric (omega (arith, w.if-object-len.true, c.len.ensures.value))) ∙ view
      | then-object-len-via-else-object-len+then-metric-len w ↦
          sym (slots-past c.self.inside.tree c.args.object c.args.metric 0 c.args.metric 0 c.self.inside.catalogue (omega arith) (omega (arith, w.if-metric-len.true, w.len-else-object-len.ensures.value))) ∙ view
    ]

pub returns-then-not-has_class-clause-number : goal.returns-then-not-has_class-clause-number
returns-then-not-has_class-clause-number c =
    let view = ap (λ (s : InventoryState). slot_number s c.args.object c.args.metric) c.self.view_is in
    let other : c.has_class.result ≡ false = search rules in
    sym (slots-none c.self.inside.tree c.args.object c.args.metric 0 c.args.metric 0 c.self.inside.catalogue c.def.result.now (omega arith) c.def.ensures (λ lt. sym c.has_class.ensures ∙ other)) ∙ view

pub overflow_add-result : goal.overflow_add-result
overflow_add-result c =
    let its : c.has_class.result ≡ true = search rules in
    let object_within : c.args.object < length c.self.inside.tree = omega (arith, c.if-object-len.false, c.len.ensures.value) in
    let kept = slot-kept c.self.inside.tree c.self.inside.catalogue c.self.inside.first.items c.self.inside.places.items c.args.object c.args.metric c.index.result.now c.index-2.result.now c.def.result.now c.self.invariant.first c.self.invariant.places object_within c.def.ensures (sym c.has_class.ensures ∙ its) c.index.ensures c.index-2.ensures in
    let within = position-within (is_slot_of c.args.object c.args.metric) 0 (c.index.result.now + c.index-2.result.now) (slots_of c.self.inside.tree c.self.inside.catalogue) kept in
    omega (arith, within, c.self.invariant.some_slots.1)

pub returns-clause-number : goal.returns-clause-number
returns-clause-number c =
    let its : c.has_class.result ≡ true = search rules in
    let object_within : c.args.object < length c.self.inside.tree = omega (arith, c.if-object-len.false, c.len.ensures.value) in
    let kept = slot-kept c.self.inside.tree c.self.inside.catalogue c.self.inside.first.items c.self.inside.places.items c.args.object c.args.metric c.index.result.now c.index-2.result.now c.def.result.now c.self.invariant.first c.self.invariant.places object_within c.def.ensures (sym c.has_class.ensures ∙ its) c.index.ensures c.index-2.ensures in
    sym kept ∙ ap (λ (s : InventoryState). slot_number s c.args.object c.args.metric) c.self.view_is

pub returns-clause-within : goal.returns-clause-within
returns-clause-within c =
    let its : c.has_class.result ≡ true = search rules in
    let object_within : c.args.object < length c.self.inside.tree = omega (arith, c.if-object-len.false, c.len.ensures.value) in
    let kept = slot-kept c.self.inside.tree c.self.inside.catalogue c.self.inside.first.items c.self.inside.places.items c.args.object c.args.metric c.index.result.now c.index-2.result.now c.def.result.now c.self.invariant.first c.self.invariant.places object_within c.def.ensures (sym c.has_class.ensures ∙ its) c.index.ensures c.index-2.ensures in
    let within = position-within (is_slot_of c.args.object c.args.metric) 0 (c.index.result.now + c.index-2.result.now) (slots_of c.self.inside.tree c.self.inside.catalogue) kept in
    omega (arith, within, ap (λ (s : InventoryState). length (slots s)) c.self.view_is)

pub returns-clause-named : goal.returns-clause-named
returns-clause-named c = λ def is.
    let tree = subst (λ (s : InventoryState). IsTree s.objects) c.self.view_is c.len.ensures.let_in in
    let catalogue = subst (λ (s : InventoryState). IsCatalogue s.measures) c.self.view_is c.len-else-object-len.ensures.catalogue in
    slot_place-number c.args.self.now c.args.object c.args.metric (c.index.result.now + c.index-2.result.now) def tree catalogue (sym (returns-clause-number c)) is
