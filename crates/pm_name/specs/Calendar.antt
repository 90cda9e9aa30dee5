-- The Gregorian calendar from 1970-01-01 to 9999-12-31 (ISO 8601).
use Rattle.std.specs.Prelude.{◌≡◌, ◌≤◌, ℕ, ◌+◌, ◌-◌, ◌/◌, ◌%◌, Bool, not, ◌&&◌, ◌||◌, ◌==◌, if◌then◌else◌, map, sum}
use Rattle.std.specs.List.{range_with_len}

-- Every fourth year, but of the centuries only every fourth.
abbrev pub is_leap_year : ℕ → Bool
is_leap_year year =
    (year % 4 == 0) && (not (year % 100 == 0) || (year % 400 == 0))

-- The days of a year.
abbrev pub days_in_year : ℕ → ℕ
days_in_year year = if is_leap_year year then 366 else 365

-- Thirty days have September, April, June and November.
abbrev pub days_in_month : ℕ → ℕ → ℕ
days_in_month year month =
    if month == 2 then (if is_leap_year year then 29 else 28)
    else (if (month == 4) || (month == 6) || (month == 9) || (month == 11) then 30 else 31)

-- A year, a month from 1 and a day from 1.
pub record Date : Type 0 where
  pub year : ℕ
  pub month : ℕ
  pub day : ℕ

-- The calendar has this date.
pub record IsDate (date : Date) : Type 0 where
  pub first_year : 1970 ≤ date.year
  pub last_year : date.year ≤ 9999
  pub first_month : 1 ≤ date.month
  pub last_month : date.month ≤ 12
  pub first_day : 1 ≤ date.day
  pub last_day : date.day ≤ days_in_month date.year date.month

-- The days of the years from 1970 up to this one.
unfoldable pub days_before_year : ℕ → ℕ
days_before_year year = sum (map days_in_year (range_with_len 1970 (year - 1970)))

-- The days of the year's months up to this one.
unfoldable pub days_before_month : ℕ → ℕ → ℕ
days_before_month year month = sum (map (days_in_month year) (range_with_len 1 (month - 1)))

-- The days since 1970-01-01.
unfoldable pub day_number : Date → ℕ
day_number date =
    days_before_year date.year + days_before_month date.year date.month + (date.day - 1)

-- The date on which a moment lies.
pub record IsDateOf (date : Date) (moment : ℕ) : Type 0 where
  pub is_date : IsDate date
  pub day_is : day_number date ≡ moment / 86400
