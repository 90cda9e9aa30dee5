use Rattle.std.proofs.Common.{◌≡◌, drop, map}
use Rattle.pm_kpi.specs.Ratio.{is_named}
use Rattle.pm_kpi.specs.Ratios.{ratio_content, ratios_of}
use Rattle.pm_kpi.proofs.ratios.Ratios.has_name.Given as goal

abbrev pub invariant-loop-ratio : goal.invariant-loop-ratio
invariant-loop-ratio l =
    is_named (map ratio_content (drop l.ratio-index l.self.list.items)) l.name ≡ is_named (ratios_of l.self) l.name
