use Rattle.std.proofs.Common.{◌<◌, length, map, sym, subst, arith}
use Rattle.pm_inventory.specs.Inventory.{slots}
use Rattle.pm_jobs.specs.Stands.{bound_of}
use Rattle.pm_close.specs.declared.watches.MetricWatches.{MetricWatches}
use Rattle.pm_close.specs.Watched.{SlotsWithin, AllWithin, watched_by}
use Rattle.pm_close.specs.WatchedOf.{ObjectsBegin, MetricsBegin, watched_at}
use Rattle.pm_close.proofs.EachLemmas.{each-push}
use Rattle.pm_close.proofs.WatchedOfLemmas.{metrics-more}
use Rattle.pm_close.proofs.watched_of.add_limit.Goals as goal

pub loop-k-preserved : goal.loop-k-preserved
loop-k-preserved c =
    let inventory = c.args.inventory.now in
    let limit = c.args.limit.now in
    let was = c.loop-k.invariant in
    let own = c.in_ok-metric_watches.ensures in
    let items = c.loop-k.metrics.items in
    let m = c.in_ok-metric_watches.field-0 in
    let is = c.in_ok-push.ensures.items in
    let many = length (slots inventory) in
    let lt : c.loop-k.k < length limit.metrics.items = omega arith in
    record {
      watched = metrics-more inventory (watched_at inventory c.args.objects.now c.args.threshold (bound_of limit)) limit.metrics.items
          c.loop-k.k c.index-metric.result.now (map watched_by c.args.metrics.now.items) items c.push.new.self.items m lt
          c.index-metric.ensures is was.watched own.watched;
      begin = subst (MetricsBegin inventory) (sym is)
          (each-push (λ (w : MetricWatches). ObjectsBegin inventory (watched_by w) w.objects.items) items m was.begin own.begin);
      within = subst (AllWithin many) (sym is)
          (each-push (λ (w : MetricWatches). SlotsWithin many w.objects.items) items m was.within own.within);
    }
