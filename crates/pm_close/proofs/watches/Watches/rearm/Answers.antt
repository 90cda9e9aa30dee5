use Rattle.std.proofs.Common.{length, sym, ap, subst, ◌∙◌}
use Rattle.std.proofs.lemmas.List.{with_items_is}
use Rattle.pm_base.specs.Moment.{tick_of}
use Rattle.pm_close.specs.Watched.{WatchesStand, AllWithin}
use Rattle.pm_close.proofs.watches.Watches.rearm.Goals as goal

pub returns-clause-stands : goal.returns-clause-stands
returns-clause-stands c =
    λ terms slots h g w granularity watched before armed tick stand.
    let value = c.as_mut_slice.ensures.value in
    let held = c.args.self.now.metrics.ok.0 in
    let is = with_items_is c.args.self.now.metrics c.rearm_metrics.new.metrics (c.rearm_metrics.auto.metrics ∙
    (ap length value ∙ sym held)) in
    subst (WatchesStand terms slots g w granularity watched armed (tick_of armed)) (sym is)
    (c.rearm_metrics.ensures.stands terms slots h g w granularity watched before armed tick
    (subst (WatchesStand terms slots h w granularity watched before tick) (sym value) stand))

pub returns-clause-within : goal.returns-clause-within
returns-clause-within c =
    λ slots within.
    let value = c.as_mut_slice.ensures.value in
    let held = c.args.self.now.metrics.ok.0 in
    let is = with_items_is c.args.self.now.metrics c.rearm_metrics.new.metrics (c.rearm_metrics.auto.metrics ∙
    (ap length value ∙ sym held)) in
    subst (AllWithin slots) (sym is) (c.rearm_metrics.ensures.within slots (subst (AllWithin slots) (sym value) within))
