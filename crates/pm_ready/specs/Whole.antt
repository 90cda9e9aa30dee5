-- The parts of a whole report.
use Rattle.std.specs.Prelude.{ℕ, ◌+◌, ◌%◌, ◌≡◌, ◌≤◌, true, List, [], ◌∷◌, length}
use Rattle.std.specs.List.{AllByRecursion}
use Rattle.pm_history.specs.Terms.{Terms, reporting}
use Rattle.pm_form.specs.Lists.{each_fits}
use Rattle.pm_file.specs.ReportForm.{result_form}
use Rattle.pm_close.specs.declared.part.PartValues.{PartValues}
use Rattle.pm_close.specs.Parts.{quantities_of}

-- The tick after parts, the first of which begins with this tick.
abbrev pub tick_after : Terms → ℕ → List PartValues → ℕ
tick_after t first [] = first
tick_after t first (part ∷ parts) = tick_after t (first + t.granularity) parts

-- A part has a value for each quantity.
abbrev pub HasValues : Terms → PartValues → Type 0
HasValues t part = length (quantities_of t.measured) ≤ length part.values.items

abbrev pub HaveValues : Terms → List PartValues → Type 0
HaveValues t parts = AllByRecursion (HasValues t) parts

-- A report can say each value.
abbrev pub AreInRange : List PartValues → Type 0
AreInRange parts = AllByRecursion (λ (part : PartValues). each_fits result_form.fits part.values.items ≡ true) parts

-- All parts of a reporting period that ends by the last tick.
pub record IsWhole (t : Terms) (begin : ℕ) (parts : List PartValues) : Type 0 where
  pub many : length parts ≡ t.parts
  pub values : HaveValues t parts
  pub aligned : begin % reporting t ≡ 0
  pub end : begin + reporting t ≤ 4223371679
