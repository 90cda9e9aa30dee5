-- Moments, ticks and periods (this project's own, after the granularity periods of TS 28.622).
use Rattle.std.specs.Prelude.{◌≡◌, ◌≤◌, ◌<◌, ◌+◌, ◌/◌, ◌%◌, ℕ}
use Rattle.pm_base.specs.declared.moment.TheConstants.{LAST_MOMENT}

-- A moment: a count of whole seconds since 1970-01-01 00:00 UTC, up to 9999-12-31 23:59:59.
abbrev pub IsMoment : ℕ → Type 0
IsMoment m = m ≤ LAST_MOMENT

-- The tick of a moment: the minute that it lies in.
abbrev pub tick_of : ℕ → ℕ
tick_of moment = moment / 60

-- A period of so many seconds begins at a multiple of its length.
abbrev pub IsPeriod : ℕ → ℕ → Type 0
IsPeriod seconds begin = (0 < seconds) × (begin % seconds ≡ 0)

-- A moment lies in the period of so many seconds from `begin` on, its end left out.
abbrev pub IsWithinPeriod : ℕ → ℕ → ℕ → Type 0
IsWithinPeriod seconds begin moment = (begin ≤ moment) × (moment < begin + seconds)
