use Rattle.std.proofs.Common.{◌≤◌, ◌<◌, length, sym, subst, arith}
use Rattle.pm_base.specs.Moment.{tick_of}
use Rattle.pm_close.specs.Watched.{ObjectStands}
use Rattle.pm_close.proofs.ObjectLemmas.{fact-more, later-more, same-more}
use Rattle.pm_close.proofs.rearmed.rearm_objects.Goals as goal

pub loop-k-preserved : goal.loop-k-preserved
loop-k-preserved c =
    let before = c.args.objects.now in
    let now = c.loop-k.objects in
    let k = c.loop-k.k in
    let was = c.loop-k.invariant in
    let new = c.rearm.new.self in
    let as_many = was.same.as_many in
    let room : k < length now = omega (arith, c.loop-k-test.true, c.loop-k.auto.objects) in
    let inside : k < length before = omega (arith, room, as_many) in
    let self : k ≤ k = omega arith in
    record {
      same = same-more before now k _ new room c.rearm.ensures.object c.rearm.ensures.slot was.same;
      later = later-more before now k new was.later;
      stand = λ terms slots h g w granularity watched earlier armed tick stand.
          let old = subst (ObjectStands terms slots h w granularity watched earlier tick) (sym (was.later k _
          self)) (stand k _ inside) in
          fact-more (ObjectStands terms slots g w granularity watched armed (tick_of armed)) now k new room
          (c.rearm.ensures.stands terms slots h g w granularity watched earlier armed tick old)
          (was.stand terms slots h g w granularity watched earlier armed tick stand);
    }

pub returns-clause-stands : goal.returns-clause-stands
returns-clause-stands c =
    λ terms slots h g w granularity watched before armed tick stand k d lt.
    c.loop-k.invariant.stand terms slots h g w granularity watched before armed tick stand k d
    (omega (arith, lt, c.loop-k-test.false, c.loop-k.auto.objects))
