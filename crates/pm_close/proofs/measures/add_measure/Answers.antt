use Rattle.std.proofs.Common.{◌≡◌, List, sym, ap, subst, ◌∙◌, true, rules, Some}
use Rattle.std.specs.List.{slice_get}
use Rattle.pm_meas.specs.declared.def.Def.{Def}
use Rattle.pm_asked.specs.Asked.{same_class}
use Rattle.pm_close.specs.declared.measure.Measure.{Measure}
use Rattle.pm_close.specs.Measures.{AddsReads, quantity_on}
use Rattle.pm_close.proofs.MeasureLemmas.{adds-slot, adds-no_slot}
use Rattle.pm_close.proofs.measures.add_measure.Goals as goal

pub returns-in_ok-push-in-Some-clause-reads : goal.returns-in_ok-push-in-Some-clause-reads
returns-in_ok-push-in-Some-clause-reads c = λ lt.
    let def = c.def-def.result.now in
    let at : slice_get c.args.inventory.now.measures c.args.metric ≡ Some def =
    subst (λ (ms : List Def). slice_get ms c.args.metric ≡ Some def) c.catalogue-catalogue.ensures c.def-def.ensures in
    let same : same_class def.class c.args.class ≡ true = search rules in
    let is = sym c.in-Some.ensures.number ∙ ap (λ n. Some n) (sym c.from.ensures) in
    subst (λ (ms : List Measure). AddsReads c.args.inventory.now c.args.measures.now.items
    (quantity_on c.args.inventory.now c.args.class c.args.object c.args.metric) ms)
    (sym c.in_ok-push-in-Some.ensures.items)
    (adds-slot c.args.inventory.now c.args.measures.now.items c.args.class c.args.object c.args.metric c.from.result def at same is)

pub returns-in-None-clause-reads : goal.returns-in-None-clause-reads
returns-in-None-clause-reads c = λ lt.
    let def = c.def-def.result.now in
    let at : slice_get c.args.inventory.now.measures c.args.metric ≡ Some def =
    subst (λ (ms : List Def). slice_get ms c.args.metric ≡ Some def) c.catalogue-catalogue.ensures c.def-def.ensures in
    let same : same_class def.class c.args.class ≡ true = search rules in
    adds-no_slot c.args.inventory.now c.args.measures.now.items c.args.class c.args.object c.args.metric def at same
    (sym c.in-None.ensures.number)
