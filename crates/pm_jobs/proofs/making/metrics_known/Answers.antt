use Rattle.std.proofs.Common.{◌∙◌, sym, string_bytes}
use Rattle.std.proofs.lemmas.List.Folds.{list_all-map}
use Rattle.pm_jobs.specs.Rules.{is_metric}
use Rattle.pm_jobs.proofs.making.metrics_known.Goals as goal

pub returns : goal.returns
returns c = c.are_metrics.ensures ∙ rw c.deref.ensures.value (sym (list_all-map (is_metric c.args.inventory.now) string_bytes c.args.wanted.now.metrics.items))
