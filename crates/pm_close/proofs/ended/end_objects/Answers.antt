use Rattle.std.proofs.Common.{◌<◌, ◌+◌, ◌++◌, length, sym, ap, subst, ◌∙◌, arith, option_to_list}
use Rattle.std.proofs.lemmas.List.{get_or-map, length-map, take_all}
use Rattle.pm_history.specs.Notices.{crossing_at}
use Rattle.std.specs.List.{flat_map}
use Rattle.pm_close.specs.declared.watched.WatchedObject.{WatchedObject}
use Rattle.pm_close.specs.Watched.{ObjectStands, watched_on, object_numbers, crossed_as, all_crossed}
use Rattle.pm_close.proofs.ObjectLemmas.{fact-more, later-more, same-more, crossed-more}
use Rattle.pm_close.proofs.ended.end_objects.Goals as goal

pub loop-k-preserved : goal.loop-k-preserved
loop-k-preserved c =
    let before = c.args.objects.now in
    let now = c.loop-k.objects in
    let k = c.loop-k.k in
    let was = c.loop-k.invariant in
    let new = c.end_period-crossing.new.self in
    let as_many = was.same.as_many in
    let room : k < length now = omega (arith, c.loop-k-test.true, c.loop-k.auto.objects) in
    let inside : k < length before = omega (arith, room, as_many) in
    record {
      same = same-more before now k _ new room c.end_period-crossing.ensures.object c.end_period-crossing.ensures.slot was.same;
      later = later-more before now k new was.later;
      stand = λ terms slots h w granularity armed tick numbers ends suspect stand.
          let of = watched_on c.args.of.now numbers in
          let old = subst (ObjectStands terms slots h w granularity of armed tick) (sym (was.later k _ (omega arith)))
          (stand k _ inside) in
          fact-more (ObjectStands terms slots h w granularity of armed (tick + 1)) now k new room
          (c.end_period-crossing.ensures.stands terms slots h w granularity armed tick numbers ends suspect old)
          (was.stand terms slots h w granularity armed tick numbers ends suspect stand);
      crossed = λ terms slots h w granularity armed tick numbers ends suspect stand.
          let of = watched_on c.args.of.now numbers in
          let old = subst (ObjectStands terms slots h w granularity of armed tick) (sym (was.later k _ (omega arith)))
          (stand k _ inside) in
          let long = length-map before (λ (o : WatchedObject). o.object) in
          crossed-more (crossing_at terms h w granularity armed (tick + 1) of) (crossed_as w.id (tick + 1))
          (object_numbers before) k _
          (all_crossed w.id (tick + 1) c.args.crossings.now.items) c.loop-k.crossings.items (option_to_list
          c.end_period-crossing.result) _
          (omega (arith, long, inside))
          (get_or-map (λ (o : WatchedObject). o.object) before k _ _ inside ∙ sym (ap (λ (o : WatchedObject).
          o.object) (was.later k _ (omega arith))))
          c.in_ok-push_some.ensures
          (was.crossed terms slots h w granularity armed tick numbers ends suspect stand)
          (c.end_period-crossing.ensures.crossing terms slots h w granularity armed tick numbers ends suspect old);
    }

pub returns-clause-stands : goal.returns-clause-stands
returns-clause-stands c =
    λ terms slots h w granularity armed tick numbers ends suspect stand k d lt.
    c.loop-k.invariant.stand terms slots h w granularity armed tick numbers ends suspect stand k d
    (omega (arith, lt, c.loop-k-test.false, c.loop-k.auto.objects))

pub returns-clause-crossings : goal.returns-clause-crossings
returns-clause-crossings c =
    λ terms slots h w granularity armed tick ends suspect stand.
    let before = c.args.objects.now in
    let numbers = object_numbers before in
    let of = watched_on c.args.of.now numbers in
    let as_many = c.loop-k.invariant.same.as_many in
    let long = length-map before (λ (o : WatchedObject). o.object) in
    c.loop-k.invariant.crossed terms slots h w granularity armed tick numbers ends suspect stand
    ∙ ap (λ ns. all_crossed w.id (tick + 1) c.args.crossings.now.items
    ++ flat_map (crossing_at terms h w granularity armed (tick + 1) of) ns)
    (take_all c.loop-k.k numbers (omega (arith, long, as_many, c.loop-k-test.false, c.loop-k.auto.objects)))
