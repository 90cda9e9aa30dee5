-- What a clock in memory holds, and which of its calls fail (this project's own).
use Rattle.std.specs.Prelude.{◌≡◌, ◌⊎◌, ℕ, List, [], Contains, drop}
use Rattle.pm_outside.specs.declared.mem_clock.MemClock.{MemClock}
use Rattle.pm_outside.specs.Memory.{next_call}

-- The readings that are left, first to last.
abbrev pub clock_left : MemClock → List ℕ
clock_left c = drop c.at c.readings.items

-- How often it has failed.
abbrev pub clock_faults : MemClock → ℕ
clock_faults c = c.faults

-- The numbers of the calls that fail, counted from 1.
abbrev pub clock_fails : MemClock → List ℕ
clock_fails c = c.fails.items

-- How many calls were made.
abbrev pub clock_calls : MemClock → ℕ
clock_calls c = c.calls

-- A reading fails as the call of this number: it is one that is to fail, or none is left.
abbrev pub ReadingFailsAt : MemClock → ℕ → Type 0
ReadingFailsAt c number = Contains (clock_fails c) number ⊎ (clock_left c ≡ [])

-- The next reading fails.
abbrev pub IsReadingToFail : MemClock → Type 0
IsReadingToFail c = ReadingFailsAt c (next_call (clock_calls c))
