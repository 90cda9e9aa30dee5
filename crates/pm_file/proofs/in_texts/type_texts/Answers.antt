use Rattle.std.proofs.Common.{sym, ◌∙◌, get_or}
use Rattle.pm_file.specs.Numbers.{metric_text}
use Rattle.pm_file.specs.ReportForm.{type_form}
use Rattle.pm_file.proofs.NumberLemmas.{texts_step, metric_name, metric_in}
use Rattle.pm_file.proofs.WriteLemmas.{fits_at}
use Rattle.pm_file.proofs.in_texts.type_texts.Goals as goal

pub def-def-requires : goal.def-def-requires
def-def-requires c =
    let inventory = c.args.inventory.now in
    let metrics = c.args.metrics.now in
    let i = c.loop-metric.metric-index in
    rw c.catalogue.ensures
    (metric_in inventory (get_or metrics i 0) (fits_at type_form.fits (metric_text inventory) metrics i 0 c.requires c.loop-metric-test.true))

pub loop-metric-preserved : goal.loop-metric-preserved
loop-metric-preserved c =
    let inventory = c.args.inventory.now in
    let metrics = c.args.metrics.now in
    let i = c.loop-metric.metric-index in
    let name = metric_name inventory.measures (get_or metrics i 0) c.def-def.result.now (rw c.catalogue.ensures at c.def-def.ensures) in
    texts_step (metric_text inventory) metrics i 0 c.loop-metric.texts.items c.push.new.self.items c.in_ok-text.text c.loop-metric-test.true
    (c.in_ok-text.ensures ∙ c.as_bytes.ensures.value ∙ sym name) c.in_ok-push.ensures.items c.loop-metric.invariant
