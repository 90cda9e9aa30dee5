use Rattle.std.proofs.Common.{◌≡◌, ◌<◌, ◌≤◌, [], length, map, get_or, ap, ◌∙◌, arith}
use Rattle.std.specs.List.{flat_map, enumerate_from}
use Rattle.std.proofs.lemmas.List.{length-map, take_all}
use Rattle.std.proofs.lemmas.List.FromFn.{length-enumerate_from}
use Rattle.pm_jobs.specs.Stands.{bound_of}
use Rattle.pm_close.specs.Watched.{watched_by}
use Rattle.pm_close.specs.WatchedOf.{watched_in}
use Rattle.pm_close.proofs.WatchesLemmas.{crossings-more}
use Rattle.pm_close.proofs.WatchedOfLemmas.{limit-at}
use Rattle.pm_close.proofs.watched_of.limits_watches.Goals as goal

pub loop-k-preserved : goal.loop-k-preserved
loop-k-preserved c =
    let inventory = c.args.inventory.now in
    let limits = c.args.limits.now in
    let k = c.loop-k.k in
    let limit = c.index-limits-k.result in
    let bounds = enumerate_from 0 (map bound_of limits) in
    let lt : k < length limits = omega arith in
    let at : get_or limits k limit ≡ limit = cc in
    let own = c.in_ok-add_limit.ensures in
    record {
      watched = crossings-more (watched_in inventory c.args.objects.now) [] (map watched_by c.loop-k.metrics.items)
          (map watched_by c.add_limit.new.metrics.items) bounds k (k, bound_of limit)
          (omega (arith, lt, length-enumerate_from 0 (map bound_of limits), length-map limits bound_of))
          (limit-at limits k limit lt at) c.loop-k.invariant.watched own.watched;
      begin = own.begin;
      within = own.within;
    }

pub returns-clause-watched : goal.returns-clause-watched
returns-clause-watched c =
    let limits = c.args.limits.now in
    let bounds = enumerate_from 0 (map bound_of limits) in
    let past : length bounds ≤ c.loop-k.k = omega
    (arith, length-enumerate_from 0 (map bound_of limits), length-map limits bound_of, c.loop-k-test.false) in
    c.loop-k.invariant.watched
    ∙ ap (flat_map (watched_in c.args.inventory.now c.args.objects.now)) (take_all c.loop-k.k bounds past)
