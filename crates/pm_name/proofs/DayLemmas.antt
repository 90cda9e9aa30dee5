-- The day numbers of the definition are those of `jiff`.
use Rattle.std.proofs.Common.{to_z, of_z, w8, w16, w32, Fits, ◌≡◌, ℕ, zero, suc, ◌+◌, ◌-◌, ◌<◌, ◌≤◌, refl, sym, ap, ◌∙◌, subst, arith, ℤ, pos, negsuc, ◌-ℤ◌, ◌≤ℤ◌}
use Rattle.std.proofs.lemmas.Int.{by_lt_z}
use Rattle.jiff_core.specs.Calendar as jiff
use Rattle.jiff_core.specs.declared.civil.date.Date.{Date as JiffDate}
use Rattle.jiff_core.specs.Date.{epoch_day}
use Rattle.std.proofs.lemmas.Int.{ints}
use lib.Dec.{T}
use lib.Signed.{non_neg}
use lib.IntN.{nat_abs}
use Rattle.jiff_core.proofs.SignedLemmas.{signed_arith, back_small}
use Rattle.jiff_core.proofs.CalendarLemmas.{days_from_civil-day_count, day_count-epoch, day_count-lt_year, days_of_months-zero}
use Rattle.pm_name.specs.Calendar.{IsDate, days_in_year, days_in_month, days_before_year, days_before_month, day_number}
use Rattle.pm_name.proofs.CalendarLemmas.{days_before_year-first, days_before_year-next, days_before_month-first, days_before_month-next}

-- the days of the years before 1970
years-epoch : jiff.days_of_years 11970 ≡ 4371953
unfolding jiff.day_count
years-epoch = omega (arith, day_count-epoch, days_of_months-zero (pos 1970))

-- one more year
years-suc : (n : ℕ) → jiff.days_of_years (suc n) ≡ jiff.days_of_years n + jiff.days_in_year (pos n -ℤ pos 10000)
unfolding jiff.days_of_years
years-suc n = refl

years-agree : (n : ℕ) → jiff.days_of_years (11970 + n) ≡ 4371953 + days_before_year (1970 + n)
years-agree zero = omega (arith, years-epoch, days_before_year-first)
years-agree (suc n) =
    let shift : 11970 + suc n ≡ suc (11970 + n) = omega arith in
    let year : pos (11970 + n) -ℤ pos 10000 ≡ pos (1970 + n) = omega (arith, signed_arith) in
    let next : jiff.days_of_years (suc (11970 + n)) ≡ jiff.days_of_years (11970 + n) + days_in_year (1970 + n) = years-suc (11970 + n) ∙ ap (λ (z : ℤ). jiff.days_of_years (11970 + n) + jiff.days_in_year z) year in
    rw shift (omega (arith, next, years-agree n, days_before_year-next n))

months-suc : (y : ℤ) (n : ℕ) → jiff.days_of_months y (suc n) ≡ jiff.days_of_months y n + jiff.days_in_month y (suc n)
unfolding jiff.days_of_months
months-suc y n = refl

months-agree : (y n : ℕ) → jiff.days_of_months (pos y) n ≡ days_before_month y (suc n)
months-agree y zero = days_of_months-zero (pos y) ∙ sym (days_before_month-first y)
months-agree y (suc n) =
    let more : jiff.days_of_months (pos y) (suc n) ≡ jiff.days_of_months (pos y) n + days_in_month y (suc n) = months-suc (pos y) n in
    omega (arith, more, months-agree y n, days_before_month-next y n)

count-agrees : (y m d : ℕ) → 1970 ≤ y → 1 ≤ m → 1 ≤ d → jiff.day_count (pos y) m d ≡ 4371953 + day_number (record { year = y; month = m; day = d })
unfolding jiff.day_count day_number
count-agrees y zero d from first least = absurd (omega arith)
count-agrees y (suc m) d from first least =
    let place : 11970 + (y - 1970) ≡ y + 10000 = omega arith in
    let year : 1970 + (y - 1970) ≡ y = omega arith in
    let back : suc m - 1 ≡ m = omega arith in
    let years : jiff.days_of_years (y + 10000) ≡ 4371953 + days_before_year y = rw (place, year) at (years-agree (y - 1970)) in
    rw back (omega (arith, years, months-agree y m))

-- a date has the same number in both calendars
pub civil-agrees : (y m d : ℕ) → 1970 ≤ y → 1 ≤ m → 1 ≤ d → jiff.days_from_civil (pos y) m d ≡ pos (day_number (record { year = y; month = m; day = d }))
civil-agrees y m d from first least =
    omega (arith, signed_arith, days_from_civil-day_count (pos y) m d, count-agrees y m d from first least)

-- the parts of a date from 1970 on
pub date-agrees : (d : JiffDate) (y : ℕ) → d.year ≡ pos y → 1970 ≤ y → IsDate (record { year = y; month = d.month; day = d.day }) × (epoch_day d ≡ pos (day_number (record { year = y; month = d.month; day = d.day })))
date-agrees d y year from =
    let long = subst (λ (z : ℤ). d.day ≤ jiff.days_in_month z d.month) year d.day_in.1 in
    let most : y ≤ 9999 = omega (arith, signed_arith, year, d.year_in.1) in (
      record {
        first_year = from;
        last_year = most;
        first_month = d.month_in.0;
        last_month = d.month_in.1;
        first_day = d.day_in.0;
        last_day = long;
      },
      subst (λ (z : ℤ). jiff.days_from_civil z d.month d.day ≡ pos (day_number (record { year = y; month = d.month; day = d.day }))) (sym year) (civil-agrees y d.month d.day from d.month_in.0 d.day_in.0),
    )

-- a day number that is not negative is that of a year from 1970 on
pub year-from : (d : JiffDate) (n : ℕ) → epoch_day d ≡ pos n → pos 1970 ≤ℤ d.year
year-from d n is =
    by_lt_z d.year (pos 1970)
    (λ lt. absurd (omega (arith, signed_arith, is, days_from_civil-day_count d.year d.month d.day, day_count-epoch, day_count-lt_year d.year d.month d.day (pos 1970) 1 1 (d.year_in, d.month_in, d.day_in) (omega arith) lt)))
    (λ ge. ge)

-- the same where the date was made from three numbers
pub made-agrees : (d : JiffDate) (y m k : ℕ) → d.year ≡ to_z w16 y → pos d.month ≡ to_z w8 m → pos d.day ≡ to_z w8 k → 1970 ≤ y → y < 10000 → m < 100 → k < 100
    → IsDate (record { year = y; month = m; day = k }) × (epoch_day d ≡ pos (day_number (record { year = y; month = m; day = k })))
made-agrees d y m k year month day from y_in m_in k_in =
    let y_is : to_z w16 y ≡ pos y = omega (arith, ints) in
    let m_is : to_z w8 m ≡ pos m = omega (arith, ints) in
    let k_is : to_z w8 k ≡ pos k = omega (arith, ints) in
    let same_m : d.month ≡ m = cc (month ∙ m_is) in
    let same_k : d.day ≡ k = cc (day ∙ k_is) in
    rw (← same_m, ← same_k) (date-agrees d y (year ∙ y_is) from)

-- a small number keeps its value through a cast
pub cast32 : (z : ℤ) (n : ℕ) → z ≡ pos n → n ≤ 2932896 → (T (non_neg (to_z w32 (of_z w32 z))) × Fits w32 (nat_abs (to_z w32 (of_z w32 z)))) × (nat_abs (to_z w32 (of_z w32 z)) ≡ n)
cast32 z n e le =
    let back : to_z w32 (of_z w32 (pos n)) ≡ pos n = back_small w32 (pos n) (omega arith) in
    rw (e, back) ((tt, omega arith), refl)

pub cast16 : (z : ℤ) (n : ℕ) → z ≡ pos n → n < 10000 → (T (non_neg (to_z w16 (of_z w16 z))) × Fits w16 (nat_abs (to_z w16 (of_z w16 z)))) × (nat_abs (to_z w16 (of_z w16 z)) ≡ n)
cast16 z n e le =
    let back : to_z w16 (of_z w16 (pos n)) ≡ pos n = back_small w16 (pos n) (omega arith) in
    rw (e, back) ((tt, omega arith), refl)

-- a number from 0 is that of its absolute value
pub natural : (z : ℤ) → pos 1970 ≤ℤ z → z ≤ℤ pos 9999 → (z ≡ pos (nat_abs z)) × (1970 ≤ nat_abs z) × (nat_abs z < 10000)
natural (pos n) low high = (refl, omega (arith, signed_arith, low), omega (arith, signed_arith, high))
natural (negsuc n) low high = absurd (omega (arith, signed_arith, low))
