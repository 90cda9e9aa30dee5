-- The ratios that are asked for, in the order of their lines.
use Rattle.std.specs.Prelude.{◌≡◌, ◌<◌, ℕ, true, false, List, [], ◌∷◌, ◌++◌, length, map, Option, Some, None, Result, Ok, Err}
use Rattle.pm_kpi.specs.Ratio.{RatioContent, ratio_of, is_named}
use Rattle.pm_kpi.specs.declared.error.KpiError.{KpiError}
use Rattle.pm_kpi.specs.declared.error.KpiError.TheVariants.{K1, K2, K3, Memory}
use Rattle.pm_kpi.specs.declared.ratio.Ratio.{Ratio}
use Rattle.pm_kpi.specs.declared.ratios.Ratios.{Ratios}

abbrev pub ratio_content : Ratio → RatioContent
ratio_content r = record { name = r.name; above = r.above.items; below = r.below.items }

abbrev pub ratios_of : Ratios → List RatioContent
ratios_of ratios = map ratio_content ratios.list.items

-- The line is that of a ratio, which has a new name, or not.
abbrev pub Reads : List RatioContent → List ℕ → RatioContent → Type 0
Reads ratios line ratio = (ratio_of line ≡ Some ratio) × (is_named ratios ratio.name ≡ false)

-- What an answer to a line says: the first rule that it breaks, or where its ratio stands now. But for that nothing changes.
abbrev pub Adds : List RatioContent → List ℕ → Result ℕ KpiError → List RatioContent → Type 0
Adds old line (Ok number) new =
    (ratio : RatioContent) × Reads old line ratio × (length old < 64) × (number ≡ length old) × (new ≡ old ++ ratio ∷ [])
Adds old line (Err K1) new = (ratio_of line ≡ None) × (new ≡ old)
Adds old line (Err K2) new = (ratio : RatioContent) × (ratio_of line ≡ Some ratio) × (is_named old ratio.name ≡ true) × (new ≡ old)
Adds old line (Err K3) new = (ratio : RatioContent) × Reads old line ratio × (length old ≡ 64) × (new ≡ old)
Adds old line (Err Memory) new = new ≡ old
