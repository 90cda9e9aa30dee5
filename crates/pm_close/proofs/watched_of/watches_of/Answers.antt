use Rattle.std.proofs.Common.{◌<◌, ◌^◌, List, length, map, sym, subst, ◌∙◌}
use Rattle.pm_jobs.specs.Numbered.{AreBelow}
use Rattle.pm_jobs.specs.Stands.{bound_of}
use Rattle.pm_jobs.specs.declared.standing.Limit.{Limit}
use Rattle.pm_close.specs.WatchedOf.{AreLimits, watched_all}
use Rattle.pm_close.proofs.NumberedLemmas.{keeps-few, keeps-limits, keeps-objects, keeps-watched}
use Rattle.pm_close.proofs.watched_of.watches_of.Goals as goal

pub limits_watches-requires-clause-few : goal.limits_watches-requires-clause-few
limits_watches-requires-clause-few c =
    subst (λ (l : List Limit). length l < 2 ^ 32) (sym c.deref.ensures.value)
    (keeps-few c.args.inventory.now c.args.monitor.now c.requires)

pub limits_watches-requires-clause-limits : goal.limits_watches-requires-clause-limits
limits_watches-requires-clause-limits c =
    subst (AreLimits c.args.inventory.now) (sym c.deref.ensures.value)
    (keeps-limits c.args.inventory.now c.args.monitor.now c.requires)

pub limits_watches-requires-clause-objects : goal.limits_watches-requires-clause-objects
limits_watches-requires-clause-objects c =
    subst (AreBelow (length c.args.inventory.now.objects)) (sym c.deref-2.ensures.value)
    (keeps-objects c.args.inventory.now c.args.monitor.now c.requires)

pub returns-clause-begin : goal.returns-clause-begin
returns-clause-begin c =
    let inventory = c.args.inventory.now in
    let limits = c.deref.ensures.value in
    let objects = c.deref-2.ensures.value in
    λ terms h w granularity armed. record {
      are = c.in_ok-metrics.ensures.watched
          ∙ ((λ i. watched_all inventory (objects i) (map bound_of (limits i)))
          ∙ keeps-watched inventory c.args.monitor.now c.requires);
      each = λ k d lt j e less. c.in_ok-metrics.ensures.begin k d lt j e less terms h w granularity armed;
    }
