-- Which object of the outside failed (this project's own).
use Rattle.std.specs.Prelude.{Bool, true, false, Result, Ok, Err}
use Rattle.pm_kpi.specs.declared.kpi_end.KpiEnd.{KpiEnd}
use Rattle.pm_kpi.specs.declared.kpi_end.KpiEnd.TheVariants.{ReadFault, WriteFault, StoreFault}

abbrev pub names_input : KpiEnd → Bool
names_input ReadFault = true
names_input _ = false

abbrev pub names_output : KpiEnd → Bool
names_output WriteFault = true
names_output _ = false

abbrev pub names_disk : KpiEnd → Bool
names_disk StoreFault = true
names_disk _ = false

-- The answer is an error that says so.
abbrev pub fails_by : {T : Type 0} → (KpiEnd → Bool) → Result T KpiEnd → Bool
fails_by names (Ok value) = false
fails_by names (Err end) = names end
