-- How day numbers grow with the date.
use Rattle.std.proofs.Common.{◌≡◌, ℕ, zero, suc, ◌+◌, ◌-◌, ◌<◌, ◌≤◌, ◌⊎◌, inl, inr, refl, sym, ap, ◌∙◌, subst, arith, map, sum}
use Rattle.std.specs.List.{range_with_len}
use Rattle.std.proofs.lemmas.Bool.{cases_order}
use Rattle.std.proofs.lemmas.List.FromFn.{sum_by-map-range_with_len_more}
use Rattle.pm_name.specs.Calendar.{Date, IsDate, days_in_year, days_in_month, days_before_year, days_before_month, day_number}

-- a sum over one more number of a range
sum-range-suc : (f : ℕ → ℕ) (a n : ℕ) → sum (map f (range_with_len a (suc n))) ≡ sum (map f (range_with_len a n)) + f (a + n)
sum-range-suc f a n =
    let e : n + 1 ≡ suc n = omega arith in
    subst (λ (m : ℕ). sum (map f (range_with_len a m)) ≡ sum (map f (range_with_len a n)) + f (a + n)) e (sum_by-map-range_with_len_more (λ x. x) f a n (a + n) refl)

-- the next year begins after the days of this one
pub days_before_year-next : (n : ℕ) → days_before_year (1970 + suc n) ≡ days_before_year (1970 + n) + days_in_year (1970 + n)
unfolding days_before_year
days_before_year-next n =
    let more : 1970 + suc n - 1970 ≡ suc n = omega arith in
    let here : 1970 + n - 1970 ≡ n = omega arith in
    rw (more, here) (sum-range-suc days_in_year 1970 n)

-- the first year begins with the calendar
pub days_before_year-first : days_before_year 1970 ≡ 0
unfolding days_before_year
days_before_year-first = refl

-- the first month begins with the year
pub days_before_month-first : (year : ℕ) → days_before_month year 1 ≡ 0
unfolding days_before_month
days_before_month-first year = refl

-- and the next one after the days of this one
pub days_before_month-next : (year n : ℕ) → days_before_month year (suc (suc n)) ≡ days_before_month year (suc n) + days_in_month year (suc n)
unfolding days_before_month
days_before_month-next year n =
    let more : suc (suc n) - 1 ≡ suc n = omega arith in
    let here : suc n - 1 ≡ n = omega arith in
    let place : 1 + n ≡ suc n = omega arith in
    rw (more, here) (subst (λ (m : ℕ). sum (map (days_in_month year) (range_with_len 1 (suc n))) ≡ sum (map (days_in_month year) (range_with_len 1 n)) + days_in_month year m) place (sum-range-suc (days_in_month year) 1 n))

-- the months make up the year
days_before_month-all : (year : ℕ) → days_before_month year 13 ≡ days_in_year year
unfolding days_before_month
days_before_month-all year = grind arith

-- a running total grows by at least each of its steps
climbs : (total step : ℕ → ℕ) → ((n : ℕ) → total (suc n) ≡ total n + step n) → (n k : ℕ) → total n + step n ≤ total (k + suc n)
climbs total step next n zero = let e : 0 + suc n ≡ suc n = omega arith in rw e (omega (arith, next n))
climbs total step next n (suc k) =
    let e : suc k + suc n ≡ suc (k + suc n) = omega arith in
    rw e (omega (arith, climbs total step next n k, next (k + suc n)))

-- the same between two places
climbs-lt : (total step : ℕ → ℕ) → ((n : ℕ) → total (suc n) ≡ total n + step n) → (m n : ℕ) → m < n → total m + step m ≤ total n
climbs-lt total step next m n lt =
    let e : (n - suc m) + suc m ≡ n = omega arith in
    subst (λ (x : ℕ). total m + step m ≤ total x) e (climbs total step next m (n - suc m))

-- a later year begins after all days of an earlier one
pub days_before_year-lt : (y z : ℕ) → 1970 ≤ y → y < z → days_before_year y + days_in_year y ≤ days_before_year z
days_before_year-lt y z from lt =
    let here : 1970 + (y - 1970) ≡ y = omega arith in
    let there : 1970 + (z - 1970) ≡ z = omega arith in
    let h = climbs-lt (λ (n : ℕ). days_before_year (1970 + n)) (λ (n : ℕ). days_in_year (1970 + n)) days_before_year-next (y - 1970) (z - 1970) (omega arith) in
    subst (λ (x : ℕ). days_before_year y + days_in_year y ≤ days_before_year x) there (subst (λ (x : ℕ). days_before_year x + days_in_year x ≤ days_before_year (1970 + (z - 1970))) here h)

-- a later month begins after all days of an earlier one
pub days_before_month-lt : (year m n : ℕ) → 1 ≤ m → m < n → days_before_month year m + days_in_month year m ≤ days_before_month year n
days_before_month-lt year zero n from lt = absurd (omega arith)
days_before_month-lt year (suc m) zero from lt = absurd (omega arith)
days_before_month-lt year (suc m) (suc n) from lt =
    climbs-lt (λ (k : ℕ). days_before_month year (suc k)) (λ (k : ℕ). days_in_month year (suc k)) (days_before_month-next year) m n (omega arith)

-- a date lies within its year
pub day_of_year-le : (date : Date) → IsDate date → days_before_month date.year date.month + date.day ≤ days_in_year date.year
day_of_year-le date is =
    let last = is.last_month in
    let day = is.last_day in
    omega (arith, days_before_month-all date.year, days_before_month-lt date.year date.month 13 is.first_month (omega arith))

-- the first date comes before the second
abbrev pub IsEarlier : Date → Date → Type 0
IsEarlier a b =
    (a.year < b.year)
    ⊎ ((a.year ≡ b.year) × ((a.month < b.month) ⊎ ((a.month ≡ b.month) × (a.day < b.day))))

-- and has the smaller number
pub day_number-lt : (a b : Date) → IsDate a → IsDate b → IsEarlier a b → day_number a < day_number b
unfolding day_number
day_number-lt a b is_a is_b (inl year) =
    let day = is_a.first_day in
    omega (arith, days_before_year-lt a.year b.year is_a.first_year year, day_of_year-le a is_a)
day_number-lt a b is_a is_b (inr (year, inl month)) =
    let first = is_a.first_day in
    let last = is_a.last_day in
    rw (← year) (omega (arith, days_before_month-lt a.year a.month b.month is_a.first_month month))
day_number-lt a b is_a is_b (inr (year, inr (month, day))) =
    let first = is_a.first_day in
    rw (← year, ← month) (omega arith)

-- dates with the same parts are the same
pub date-same : (a b : Date) → a.year ≡ b.year → a.month ≡ b.month → a.day ≡ b.day → a ≡ b
date-same a b year month day =
    let at : ℕ → ℕ → ℕ → Date = λ y m d. record { year = y; month = m; day = d } in
    ap (λ (y : ℕ). at y a.month a.day) year ∙ (ap (λ (m : ℕ). at b.year m a.day) month ∙ ap (λ (d : ℕ). at b.year b.month d) day)

-- one day number has one date
pub day_number-injective : (a b : Date) → IsDate a → IsDate b → day_number a ≡ day_number b → a ≡ b
day_number-injective a b is_a is_b e =
    elim (cases_order a.year b.year) [
      | inr (inl lt) ↦ absurd (omega (arith, day_number-lt a b is_a is_b (inl lt)))
      | inr (inr gt) ↦ absurd (omega (arith, day_number-lt b a is_b is_a (inl gt)))
      | inl year ↦ elim (cases_order a.month b.month) [
        | inr (inl lt) ↦ absurd (omega (arith, day_number-lt a b is_a is_b (inr (year, inl lt))))
        | inr (inr gt) ↦ absurd (omega (arith, day_number-lt b a is_b is_a (inr (sym year, inl gt))))
        | inl month ↦ elim (cases_order a.day b.day) [
          | inr (inl lt) ↦ absurd (omega (arith, day_number-lt a b is_a is_b (inr (year, inr (month, lt)))))
          | inr (inr gt) ↦ absurd (omega (arith, day_number-lt b a is_b is_a (inr (sym year, inr (sym month, gt)))))
          | inl day ↦ date-same a b year month day
        ]
      ]
    ]

-- the first and the last day, a leap day, and the days after the leap day of a century and after none
pub known_days : (day_number (record { year = 1970; month = 1; day = 1 }) ≡ 0) × (day_number (record { year = 9999; month = 12; day = 31 }) ≡ 2_932_896)
    × (day_number (record { year = 2024; month = 2; day = 29 }) ≡ 19_782) × (day_number (record { year = 2000; month = 3; day = 1 }) ≡ 11_017)
    × (day_number (record { year = 2100; month = 3; day = 1 }) ≡ 47_541) × (day_number (record { year = 2023; month = 11; day = 14 }) ≡ 19_675)
unfolding day_number days_before_year days_before_month
known_days = (refl, refl, refl, refl, refl, refl)
