-- Which object of the outside failed (this project's own).
use Rattle.std.specs.Prelude.{Bool, true, false, Result, Ok, Err}
use Rattle.pm_fetch.specs.declared.fetch_end.FetchEnd.{FetchEnd}
use Rattle.pm_fetch.specs.declared.fetch_end.FetchEnd.TheVariants.{ReadFault, WriteFault, StoreFault, LinkFault}

abbrev pub names_input : FetchEnd → Bool
names_input ReadFault = true
names_input _ = false

abbrev pub names_output : FetchEnd → Bool
names_output WriteFault = true
names_output _ = false

abbrev pub names_disk : FetchEnd → Bool
names_disk StoreFault = true
names_disk _ = false

abbrev pub names_link : FetchEnd → Bool
names_link LinkFault = true
names_link _ = false

-- The answer is an error that says so.
abbrev pub fails_by : {T : Type 0} → (FetchEnd → Bool) → Result T FetchEnd → Bool
fails_by names (Ok value) = false
fails_by names (Err end) = names end
