use Rattle.std.proofs.Common.{◌≡◌, List, sym, subst, ◌∙◌}
use Rattle.pm_disk.specs.Moments.{Told}
use Rattle.pm_collect.specs.Collector.{Holds}
use Rattle.pm_collect.specs.Places.{rows_of}
use Rattle.pm_kpi.specs.Asked.{asked_content}
use Rattle.pm_kpi.proofs.RunLemmas.{more_summed}
use Rattle.pm_kpi.proofs.storing.sum_files.Goals as goal

pub loop-place-preserved : goal.loop-place-preserved
loop-place-preserved g c = record {
  told = λ told. c.in-Ok.ensures.told told ∙ c.loop-place.invariant.told told;
  faults = c.in-Ok.ensures.faults ∙ c.loop-place.invariant.faults;
  summed = λ told files holds stands.
      let first = c.loop-place.invariant.summed told files holds stands in
      more_summed (asked_content c.args.asked.now) files (rows_of c.args.collector.now.names) c.loop-place.place c.loop-place.sums c.add_file.new.sums first
      (c.in-Ok.ensures.added told files
      (subst (λ (t : Told). Holds c.args.collector.now t.now files) (sym (c.loop-place.invariant.told told)) holds) first.reports first.stands);
}
