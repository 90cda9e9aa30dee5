use Rattle.std.proofs.Common.{length, sym, ap, subst, ◌∙◌}
use Rattle.std.proofs.lemmas.List.{with_items_is}
use Rattle.pm_base.specs.Moment.{tick_of}
use Rattle.pm_close.specs.Watched.{ObjectsStand, SlotsWithin, watched_by, watched_on, object_numbers}
use Rattle.pm_close.proofs.ObjectLemmas.{numbers-same, within-same}
use Rattle.pm_close.proofs.watches.MetricWatches.rearm.Goals as goal

pub returns-clause-stands : goal.returns-clause-stands
returns-clause-stands c =
    λ terms slots h g w granularity before armed tick stand.
    let value = c.as_mut_slice.ensures.value in
    let as_many = c.rearm_objects.ensures.same.as_many in
    let held = c.args.self.now.objects.ok.0 in
    let is = with_items_is c.args.self.now.objects c.rearm_objects.new.objects (as_many ∙ (ap length value ∙ sym held)) in
    let watched = watched_by c.args.self.now in
    subst (ObjectsStand terms slots g w granularity watched armed (tick_of armed)) (sym is)
    (c.rearm_objects.ensures.stands terms slots h g w granularity watched before armed tick
    (subst (ObjectsStand terms slots h w granularity watched before tick) (sym value) stand))

pub returns-clause-watched : goal.returns-clause-watched
returns-clause-watched c =
    let value = c.as_mut_slice.ensures.value in
    let as_many = c.rearm_objects.ensures.same.as_many in
    let held = c.args.self.now.objects.ok.0 in
    let is = with_items_is c.args.self.now.objects c.rearm_objects.new.objects (as_many ∙ (ap length value ∙ sym held)) in
    ap (watched_on c.args.self.now.of)
    (ap object_numbers is ∙ (numbers-same _ _ c.rearm_objects.ensures.same ∙ ap object_numbers value))

pub returns-clause-within : goal.returns-clause-within
returns-clause-within c =
    λ slots within.
    let value = c.as_mut_slice.ensures.value in
    let as_many = c.rearm_objects.ensures.same.as_many in
    let held = c.args.self.now.objects.ok.0 in
    let is = with_items_is c.args.self.now.objects c.rearm_objects.new.objects (as_many ∙ (ap length value ∙ sym held)) in
    subst (SlotsWithin slots) (sym is)
    (within-same slots c.as_mut_slice.result.now c.rearm_objects.new.objects c.rearm_objects.ensures.same
    (subst (SlotsWithin slots) (sym value) within))
