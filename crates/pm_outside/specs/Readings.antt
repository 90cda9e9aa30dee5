-- What a call takes of the readings that a clock has left (this project's own).
use Rattle.std.specs.Prelude.{◌≡◌, ℕ, List, ◌∷◌, min, Result, MatchResult}
use Rattle.pm_base.specs.declared.moment.TheConstants.{LAST_MOMENT}

-- The first reading that is left is taken, and answered as at most the last moment. A call that fails takes none.
abbrev pub TakesReading : {E : Type 0} → List ℕ → List ℕ → Result ℕ E → Type 0
TakesReading old new result =
    MatchResult result (λ moment. (reading : ℕ) × (old ≡ reading ∷ new) × (moment ≡ min reading LAST_MOMENT)) (λ _. new ≡ old)
