-- Where a span of time begins and ends, among files in the order in which they are ready.
use Rattle.std.specs.Prelude.{ℕ, ◌≡◌, true, false, List, Option}
use Rattle.std.specs.List.Sorted.{IsNonDecreasingBy, IsPartitionPoint}
use Rattle.pm_ready.specs.declared.ready.ReadyFile.{ReadyFile}
use Rattle.pm_ready.specs.Listing.{is_from, is_to}

abbrev pub InOrder : List ReadyFile → Type 0
InOrder files = IsNonDecreasingBy (λ (f : ReadyFile). f.info.ready) files

-- Those before this place are too early, and the others aren't.
abbrev pub StartsAt : Option ℕ → List ReadyFile → ℕ → Type 0
StartsAt begin files place =
    IsPartitionPoint (λ (f : ReadyFile). is_from begin f.info.ready ≡ false) (λ (f : ReadyFile). is_from begin f.info.ready ≡ true) files place

-- Those before this place aren't too late, and the others are.
abbrev pub EndsAt : Option ℕ → List ReadyFile → ℕ → Type 0
EndsAt end files place =
    IsPartitionPoint (λ (f : ReadyFile). is_to end f.info.ready ≡ true) (λ (f : ReadyFile). is_to end f.info.ready ≡ false) files place
