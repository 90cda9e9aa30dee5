use Rattle.std.proofs.Common.{◌+◌, length, sym, ap, subst, ◌∙◌}
use Rattle.std.proofs.lemmas.List.{with_items_is}
use Rattle.pm_close.specs.Watched.{ObjectsStand, watched_by, watched_on, object_numbers}
use Rattle.pm_close.proofs.ObjectLemmas.{numbers-same}
use Rattle.pm_close.proofs.watches.MetricWatches.end_period.Goals as goal

pub returns-clause-stands : goal.returns-clause-stands
returns-clause-stands c =
    λ terms slots h w granularity armed tick ends suspect stand.
    let value = c.as_mut_slice-objects.ensures.value in
    let as_many = c.in_ok-end_objects.ensures.same.as_many in
    let held = c.args.self.now.objects.ok.0 in
    let is = with_items_is c.args.self.now.objects c.end_objects.new.objects (as_many ∙ (ap length value ∙ sym held)) in
    let watched = watched_by c.args.self.now in
    subst (ObjectsStand terms slots h w granularity watched armed (tick + 1)) (sym is)
    (c.in_ok-end_objects.ensures.stands terms slots h w granularity armed tick (object_numbers
    c.args.self.now.objects.items) ends suspect
    (subst (ObjectsStand terms slots h w granularity watched armed tick) (sym value) stand))

pub returns-clause-watched : goal.returns-clause-watched
returns-clause-watched c =
    let value = c.as_mut_slice-objects.ensures.value in
    let as_many = c.in_ok-end_objects.ensures.same.as_many in
    let held = c.args.self.now.objects.ok.0 in
    let is = with_items_is c.args.self.now.objects c.end_objects.new.objects (as_many ∙ (ap length value ∙ sym held)) in
    ap (watched_on c.args.self.now.of)
    (ap object_numbers is ∙ (numbers-same _ _ c.in_ok-end_objects.ensures.same ∙ ap object_numbers value))
