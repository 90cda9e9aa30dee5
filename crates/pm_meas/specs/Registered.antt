-- Which events are registered: of each slot every n-th one, numbered from a start (discrete event registration, TS 32.404; the starts
-- are this project's own).
use Rattle.std.specs.Prelude.{ℕ, ◌%◌, ◌==◌, Bool, List, [], ◌∷◌, ◌++◌, if◌then◌else◌}

-- Whether the event of this number is, where each n-th one is.
abbrev pub is_registered : ℕ → ℕ → Bool
is_registered n number = number % n == 0

-- Of events of which each has its n, and after earlier ones its number.
module _ {E : Type 0} (n : E → ℕ) (number : List E → E → ℕ) where
  abbrev pub registered_one : List E → E → List E
  registered_one earlier e = if is_registered (n e) (number earlier e) then e ∷ [] else []

  -- Those of the second list that are registered after those of the first.
  abbrev pub registered_after : List E → List E → List E
  registered_after earlier [] = []
  registered_after earlier (e ∷ es) = registered_one earlier e ++ registered_after (earlier ++ e ∷ []) es
