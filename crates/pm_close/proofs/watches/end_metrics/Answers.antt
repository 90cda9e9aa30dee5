use Rattle.std.proofs.Common.{◌≤◌, ◌<◌, ◌+◌, ◌++◌, ℕ, length, map, sym, ap, subst, ◌∙◌, arith}
use Rattle.std.specs.List.{flat_map}
use Rattle.std.proofs.lemmas.List.{get_or-map, length-map, length-set, take_all}
use Rattle.pm_history.specs.Notices.{crossings_by}
use Rattle.pm_close.specs.declared.watches.MetricWatches.{MetricWatches}
use Rattle.pm_close.specs.Watched.{ObjectsStand, SlotsWithin, watched_by, all_crossed}
use Rattle.pm_close.proofs.ObjectLemmas.{fact-more, fact-set, field-more, later-more}
use Rattle.pm_close.proofs.WatchesLemmas.{map-same, crossings-more}
use Rattle.pm_close.proofs.watches.end_metrics.Goals as goal

pub loop-k-preserved : goal.loop-k-preserved
loop-k-preserved c =
    let before = c.args.metrics.now in
    let now = c.loop-k.metrics in
    let k = c.loop-k.k in
    let was = c.loop-k.invariant in
    let new = c.end_period.new.self in
    let ended = c.in_ok-end_period.ensures in
    let as_many = was.as_many in
    let room : k < length now = omega (arith, c.loop-k-test.true, c.loop-k.auto.metrics) in
    let inside : k < length before = omega (arith, room, as_many) in
    let self : k ≤ k = omega arith in
    record {
      as_many = length-set now k new ∙ as_many;
      watched = λ j d lt. field-more watched_by before now k _ new room ended.watched j d (was.watched j d lt);
      within = λ j d lt. fact-set (λ m. SlotsWithin c.args.kept.now.slots m.objects.items) now k new room
          ended.within j d (was.within j d lt);
      later = later-more before now k new was.later;
      stand = λ terms slots h w granularity watched armed tick ends suspect stand.
          let P : ℕ → MetricWatches → Type 0 = λ t m.
          ObjectsStand terms slots h w granularity (watched_by m) armed t m.objects.items in
          let old = subst (P tick) (sym (was.later k _ self)) (stand.each k _ inside) in
          let next = ended.stands terms slots h w granularity armed tick ends suspect old in
          fact-more (P (tick + 1)) now k new room
          (subst (λ x. ObjectsStand terms slots h w granularity x armed (tick + 1) new.objects.items) (sym ended.watched) next)
          (was.stand terms slots h w granularity watched armed tick ends suspect stand);
      crossed = λ terms slots h w granularity watched armed tick ends suspect stand.
          let long = length-map before watched_by in
          let lt : k < length (map watched_by before) = omega (arith, long, inside) in
          let old = subst (λ (m : MetricWatches). ObjectsStand terms slots h w granularity (watched_by m) armed
          tick m.objects.items)
          (sym (was.later k _ self)) (stand.each k _ inside) in
          let at = get_or-map watched_by before k _ _ inside ∙ sym (ap watched_by (was.later k _ self)) in
          crossings-more (crossings_by terms h w granularity armed (tick + 1)) (all_crossed w.id (tick + 1)
          c.args.crossings.now.items) _ _
          (map watched_by before) k _ lt at
          (was.crossed terms slots h w granularity watched armed tick ends suspect stand)
          (ended.crossings terms slots h w granularity armed tick ends suspect old);
    }

pub returns-clause-stands : goal.returns-clause-stands
returns-clause-stands c =
    λ terms slots h w granularity watched armed tick ends suspect stand.
    let was = c.loop-k.invariant in
    let as_many = was.as_many in
    record {
      are = map-same watched_by c.args.metrics.now c.loop-k.metrics as_many was.watched ∙ stand.are;
      each = λ k d lt.
          was.stand terms slots h w granularity watched armed tick ends suspect stand k d
          (omega (arith, lt, c.loop-k-test.false, c.loop-k.auto.metrics));
    }

pub returns-clause-crossings : goal.returns-clause-crossings
returns-clause-crossings c =
    λ terms slots h w granularity watched armed tick ends suspect stand.
    let before = c.args.metrics.now in
    let as_many = c.loop-k.invariant.as_many in
    let long = length-map before watched_by in
    c.loop-k.invariant.crossed terms slots h w granularity watched armed tick ends suspect stand
    ∙ ap (λ ws. all_crossed w.id (tick + 1) c.args.crossings.now.items
    ++ flat_map (crossings_by terms h w granularity armed (tick + 1)) ws)
    (take_all c.loop-k.k (map watched_by before) (omega (
      arith,
      long,
      as_many,
      c.loop-k-test.false,
      c.loop-k.auto.metrics,
    )) ∙ stand.are)
