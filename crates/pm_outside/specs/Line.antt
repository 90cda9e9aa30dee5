-- What the bytes of a buffer tell of the next line (this project's own).
use Rattle.std.specs.Prelude.{◌≡◌, ◌⊎◌, ◌+◌, ◌<◌, ◌≤◌, ℕ, Bool, true, false, List, [], length, take, slice_index}
use Rattle.pm_base.specs.Lines.{MOST_LINE, HasNoLineFeed, HasNoLine}
use Rattle.pm_outside.specs.declared.line.Found.{Found}
use Rattle.pm_outside.specs.declared.line.Found.TheVariants as found

-- A line of these bytes, and how many of them it takes with its line feed. The last line lacks it only at the end.
pub record IsLineOf (held : List ℕ) (ended : Bool) (length_of_line taken : ℕ) : Type 0 where
  pub short : length_of_line ≤ MOST_LINE
  pub one : HasNoLineFeed (take length_of_line held)
  pub within : taken ≤ length held
  pub ends : ((taken ≡ length_of_line + 1) × (slice_index held length_of_line ≡ 10)) ⊎ ((taken ≡ length_of_line) × (ended ≡ true) × (length_of_line ≡ length held) × (0 < length_of_line))

-- What the bytes of a buffer tell of the next line.
abbrev pub FindsLine : List ℕ → Bool → Found → Type 0
FindsLine held ended (found.Line n taken) = IsLineOf held ended n taken
FindsLine held ended found.Long = (MOST_LINE < length held) × HasNoLineFeed (take (MOST_LINE + 1) held)
FindsLine held ended found.End = (held ≡ []) × (ended ≡ true)
FindsLine held ended found.Unknown = HasNoLine held × (ended ≡ false)
