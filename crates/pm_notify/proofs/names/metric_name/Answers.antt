use Rattle.std.proofs.Common.{◌≡◌, ◌∙◌, true, Some, List, ℕ, ap, sym, subst}
use Rattle.pm_form.specs.Names.{measure_name}
use Rattle.pm_notify.proofs.MetricLemmas.{name-of, name-passes}
use Rattle.pm_notify.proofs.names.metric_name.Goals as goal

pub returns-then-metric-len-clause-named : goal.returns-then-metric-len-clause-named
returns-then-metric-len-clause-named c =
    let defs = c.catalogue-catalogue.result.now in
    let def = c.def.result.now in
    subst (λ (s : List ℕ). measure_name s ≡ true) (sym c.as_bytes.ensures.value)
    (name-passes defs c.args.metric def c.len.ensures.catalogue.permitted c.def.ensures)

pub returns-then-metric-len-clause-there : goal.returns-then-metric-len-clause-there
returns-then-metric-len-clause-there c =
    λ within.
    let same = rw c.catalogue-catalogue.ensures at c.def.ensures in
    ap Some (c.as_bytes.ensures.value ∙ sym (name-of c.args.inventory.now.measures c.args.metric c.def.result.now same))
