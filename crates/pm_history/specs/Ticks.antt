-- Runs of ticks. A run is its first tick and the number of its ticks, and grows by its newest.
use Rattle.std.specs.Prelude.{ℕ, zero, suc, ◌+◌, Bool, true, false, ◌&&◌, ◌||◌, List, [], ◌++◌, nat_le, nat_lt}

-- Whether a test holds at some number below n.
abbrev pub at_some : ℕ → (ℕ → Bool) → Bool
at_some zero test = false
at_some (suc n) test = at_some n test || test n

-- Whether a test holds at each number below n.
abbrev pub at_each : ℕ → (ℕ → Bool) → Bool
at_each zero test = true
at_each (suc n) test = at_each n test && test n

-- Whether a tick lies in a run.
abbrev pub is_within : ℕ → ℕ → ℕ → Bool
is_within first ticks tick = nat_le first tick && nat_lt tick (first + ticks)

-- What is said at each of the n ticks after this one, joined in order.
abbrev pub behind : {A : Type 0} → (ℕ → List A) → ℕ → ℕ → List A
behind said tick zero = []
behind said tick (suc n) = behind said tick n ++ said (suc (tick + n))
