-- The lines of the entries of a map.
use Rattle.std.specs.Prelude.{ℕ, List, [], if◌then◌else◌}
use Rattle.std.specs.List.{flat_map}
use Rattle.pm_kpi.specs.Ratio.{RatioContent}
use Rattle.pm_kpi.specs.Key.{key_content}
use Rattle.pm_kpi.specs.Output.{key_line}
use Rattle.pm_kpi.specs.declared.by.By.{By}
use Rattle.pm_kpi.specs.declared.key.Key.{Key}
use Rattle.pm_kpi.specs.declared.totals.Totals.{Totals}

-- The line of an entry, if its key stands.
abbrev pub entry_line : By → List RatioContent → Key × Totals → List ℕ
entry_line by ratios e = if e.1.stands then key_line by ratios (key_content e.0) e.1 else []

abbrev pub entry_lines : By → List RatioContent → List (Key × Totals) → List ℕ
entry_lines by ratios entries = flat_map (entry_line by ratios) entries
