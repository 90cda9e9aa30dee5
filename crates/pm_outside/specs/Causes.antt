-- How often an object of the outside has failed, after a call (this project's own).
use Rattle.std.specs.Prelude.{ℕ, ◌+◌, ◌-◌, ◌^◌, min, Bool, if◌then◌else◌}

-- The count of faults after a call: one more where it failed, up to the greatest number that it can have, else as it was.
abbrev pub faults_after : Bool → ℕ → ℕ
faults_after failed faults = if failed then min (faults + 1) (2 ^ 64 - 1) else faults
