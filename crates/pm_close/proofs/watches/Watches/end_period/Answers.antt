use Rattle.std.proofs.Common.{◌+◌, ◌++◌, length, sym, ap, subst, ◌∙◌}
use Rattle.std.proofs.lemmas.List.{with_items_is}
use Rattle.std.specs.List.{flat_map}
use Rattle.pm_history.specs.Value.{is_suspect}
use Rattle.pm_history.specs.Notices.{crossings_by}
use Rattle.pm_close.specs.Watched.{WatchesStand, all_crossed}
use Rattle.pm_close.proofs.watches.Watches.end_period.Goals as goal

pub returns-clause-stands : goal.returns-clause-stands
returns-clause-stands c =
    λ terms slots h w granularity watched armed tick ends stand.
    let suspect = c.is_suspect-suspect.ensures.counted terms h w ends.whole.counted ∙ ap (is_suspect terms h w
    c.args.period.now.begin) ends.whole.whole in
    let value = c.as_mut_slice-metrics.ensures.value in
    let held = c.args.self.now.metrics.ok.0 in
    let is = with_items_is c.args.self.now.metrics c.end_metrics.new.metrics (c.end_metrics.auto.metrics ∙ (ap
    length value ∙ sym held)) in
    subst (WatchesStand terms slots h w granularity watched armed (tick + 1)) (sym is)
    (c.in_ok-end_metrics.ensures.stands terms slots h w granularity watched armed tick ends suspect
    (subst (WatchesStand terms slots h w granularity watched armed tick) (sym value) stand))

pub returns-clause-crossings : goal.returns-clause-crossings
returns-clause-crossings c =
    λ terms slots h w granularity watched armed tick ends stand.
    let suspect = c.is_suspect-suspect.ensures.counted terms h w ends.whole.counted ∙ ap (is_suspect terms h w
    c.args.period.now.begin) ends.whole.whole in
    let value = c.as_mut_slice-metrics.ensures.value in
    let told = c.in_ok-end_metrics.ensures.crossings terms slots h w granularity watched armed tick ends suspect
    (subst (WatchesStand terms slots h w granularity watched armed tick) (sym value) stand) in
    let none = c.new-crossings.ensures.items in
    told ∙ ap (λ cs. all_crossed w.id (tick + 1) cs ++ flat_map (crossings_by terms h w granularity armed (tick
    + 1)) watched) none
