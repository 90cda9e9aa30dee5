use Rattle.std.proofs.Common.{◌≤◌, ◌<◌, length, sym, subst, ◌∙◌, arith}
use Rattle.std.proofs.lemmas.List.{length-set}
use Rattle.pm_base.specs.Moment.{tick_of}
use Rattle.pm_close.specs.declared.watches.MetricWatches.{MetricWatches}
use Rattle.pm_close.specs.Watched.{ObjectsStand, SlotsWithin, watched_by}
use Rattle.pm_close.proofs.ObjectLemmas.{fact-more, fact-set, field-more, later-more}
use Rattle.pm_close.proofs.WatchesLemmas.{map-same}
use Rattle.pm_close.proofs.watches.rearm_metrics.Goals as goal

pub loop-k-preserved : goal.loop-k-preserved
loop-k-preserved c =
    let before = c.args.metrics.now in
    let now = c.loop-k.metrics in
    let k = c.loop-k.k in
    let was = c.loop-k.invariant in
    let new = c.rearm.new.self in
    let as_many = was.as_many in
    let room : k < length now = omega (arith, c.loop-k-test.true, c.loop-k.auto.metrics) in
    let inside : k < length before = omega (arith, room, as_many) in
    let self : k ≤ k = omega arith in
    record {
      as_many = length-set now k new ∙ as_many;
      watched = λ j d lt. field-more watched_by before now k _ new room c.rearm.ensures.watched j d (was.watched j d lt);
      within = λ slots all j d lt.
          fact-set (λ m. SlotsWithin slots m.objects.items) now k new room
          (c.rearm.ensures.within slots (was.within slots all k _ inside)) j d (was.within slots all j d lt);
      later = later-more before now k new was.later;
      stand = λ terms slots h g w granularity watched earlier armed tick stand.
          let P : MetricWatches → Type 0 = λ m. ObjectsStand terms slots h w granularity (watched_by m) earlier
          tick m.objects.items in
          let Q : MetricWatches → Type 0 = λ m.
          ObjectsStand terms slots g w granularity (watched_by m) armed (tick_of armed) m.objects.items in
          let old = subst P (sym (was.later k _ self)) (stand.each k _ inside) in
          let next = c.rearm.ensures.stands terms slots h g w granularity earlier armed tick old in
          fact-more Q now k new room
          (subst (λ x. ObjectsStand terms slots g w granularity x armed (tick_of armed) new.objects.items)
          (sym c.rearm.ensures.watched) next)
          (was.stand terms slots h g w granularity watched earlier armed tick stand);
    }

pub returns-clause-stands : goal.returns-clause-stands
returns-clause-stands c =
    λ terms slots h g w granularity watched before armed tick stand.
    let was = c.loop-k.invariant in
    let as_many = was.as_many in
    record {
      are = map-same watched_by c.args.metrics.now c.loop-k.metrics as_many was.watched ∙ stand.are;
      each = λ k d lt.
          was.stand terms slots h g w granularity watched before armed tick stand k d
          (omega (arith, lt, c.loop-k-test.false, c.loop-k.auto.metrics));
    }

pub returns-clause-within : goal.returns-clause-within
returns-clause-within c =
    λ slots all k d lt.
    let as_many = c.loop-k.invariant.as_many in
    c.loop-k.invariant.within slots all k d (omega (arith, lt, as_many))
