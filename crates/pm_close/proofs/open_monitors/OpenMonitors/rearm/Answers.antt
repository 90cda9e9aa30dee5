use Rattle.std.proofs.Common.{refl, subst, ◌∙◌}
use Rattle.std.proofs.lemmas.List.{get_or_default}
use Rattle.pm_close.specs.declared.open_monitors.KeptMonitor.{KeptMonitor}
use Rattle.pm_close.specs.OpenMonitors.{IsRearmed}
use Rattle.pm_close.proofs.open_monitors.OpenMonitors.rearm.Goals as goal

pub returns-in-Some : goal.returns-in-Some
returns-in-Some c =
    let items = c.args.self.now.monitors.items in
    let old = c.in-Some.monitor.now in
    let new = c.rearm.new.monitor in
    record {
      monitor = new;
      is = refl;
      rearmed = subst (λ (m : KeptMonitor). IsRearmed m new)
          (c.in-Some.ensures.value ∙ get_or_default items c.args.place old new c.requires) c.rearm.ensures;
    }
