use Rattle.std.proofs.Common.{◌≡◌, ◌++◌}
use Rattle.pm_kpi.specs.Ratios.{ratios_of}
use Rattle.pm_kpi.specs.Lines.{entry_lines}
use Rattle.pm_kpi.proofs.sums.Sums.text.Given as goal

abbrev pub invariant-loop-key : goal.invariant-loop-key
invariant-loop-key l =
    l.text.items ++ entry_lines l.by (ratios_of l.ratios) l.key-iterator ≡ entry_lines l.by (ratios_of l.ratios) l.self.map.entries
