-- The words of a file name at their places: what they say, and the tests of dates.
use Rattle.std.proofs.Common.{rules, ◌≡◌, ℕ, ◌+◌, ◌-◌, ◌*◌, ◌/◌, ◌%◌, ◌<◌, ◌&&◌, Bool, true, false, List, refl, sym, ap, ◌∙◌, arith, leb, eqb, bytes_eq}
use Rattle.std.specs.Cmp.Lexicographic.{same_text}
use Rattle.std.proofs.lemmas.Bool.{leb-true, le-leb}
use Rattle.std.proofs.lemmas.Bool.Decides.{nat_tests}
use Rattle.pm_name.specs.Calendar.{Date, IsDate, IsDateOf, days_in_month, day_number}
use Rattle.pm_name.specs.FileName.{minute_of_day}
use Rattle.pm_name.proofs.FileNameLemmas.{days_in_month-le, moment-parts}
use Rattle.pm_notice.specs.NameTest.{two_at, date_at, is_date, begin_in}

pub both : (a b : Bool) → (a && b) ≡ true → (a ≡ true) × (b ≡ true)
both true b h = (refl, h)
both false b h = cc

pub and : (a b : Bool) → a ≡ true → b ≡ true → (a && b) ≡ true
and a b p q = rw (p, q) refl

pub equal : (x y : ℕ) → eqb x y ≡ true → x ≡ y
equal x y e = grind (arith, nat_tests)

pub same : (x y : ℕ) → x ≡ y → eqb x y ≡ true
same x y e = grind (arith, nat_tests)

pub same_bytes : (a b : List ℕ) → bytes_eq a b ≡ true → a ≡ b
same_bytes a b e = same_text a b (sym e)

pub itself : (a : List ℕ) → bytes_eq a a ≡ true
itself a = search rules

-- ---- dates

pub is_date-IsDate : (d : Date) → is_date d ≡ true → IsDate d
is_date-IsDate d e =
    let f = both _ (leb d.day (days_in_month d.year d.month)) e in
    let g = both _ (leb 1 d.day) f.0 in
    let h = both _ (leb d.month 12) g.0 in
    let i = both _ (leb 1 d.month) h.0 in
    let j = both (leb 1970 d.year) (leb d.year 9999) i.0 in
    record {
      first_year = leb-true 1970 d.year j.0;
      last_year = leb-true d.year 9999 j.1;
      first_month = leb-true 1 d.month i.1;
      last_month = leb-true d.month 12 h.1;
      first_day = leb-true 1 d.day g.1;
      last_day = leb-true d.day (days_in_month d.year d.month) f.1;
    }

pub IsDate-is_date : (d : Date) → IsDate d → is_date d ≡ true
IsDate-is_date d is =
    rw (
      le-leb 1970 d.year is.first_year,
      le-leb d.year 9999 is.last_year,
      le-leb 1 d.month is.first_month,
      le-leb d.month 12 is.last_month,
      le-leb 1 d.day is.first_day,
    ) (le-leb d.day (days_in_month d.year d.month) is.last_day)

-- The number that two digits of a number say.
abbrev pub read : ℕ → ℕ
read n = 10 * ((48 + n / 10) - 48) + ((48 + n % 10) - 48)

read-is : (n : ℕ) → n < 100 → read n ≡ n
read-is n lt = omega (arith, lt)

-- The digits of a date say the date.
pub date-read : (d : Date) → IsDate d → (100 * read (d.year / 100) + read (d.year % 100) ≡ d.year) × (read d.month ≡ d.month) × (read d.day ≡ d.day)
date-read d is =
    let last = is.last_year in
    let month = is.last_month in
    let long = days_in_month-le d.year d.month in
    let day = is.last_day in
    (omega (arith, last), read-is d.month (omega (arith, month)), read-is d.day (omega (arith, long, day)))

pub time-read : (m : ℕ) → m < 1440 → 60 * read (m / 60) + read (m % 60) ≡ m
time-read m lt =
    let h = read-is (m / 60) (omega (arith, lt)) in
    let k = read-is (m % 60) (omega arith) in
    omega (arith, h, k)

pub begin-read : (s : List ℕ) (f : Date) (b : ℕ) → date_at s 1 ≡ f → IsDateOf f b → 60 * two_at s 10 + two_at s 12 ≡ minute_of_day b → b % 60 ≡ 0 → begin_in s ≡ b
begin-read s f b date is minute whole =
    ap (λ (d : Date). 86400 * day_number d + 60 * (60 * two_at s 10 + two_at s 12)) date
    ∙ ap (λ (n : ℕ). 86400 * n + 60 * (60 * two_at s 10 + two_at s 12)) is.day_is
    ∙ ap (λ (n : ℕ). 86400 * (b / 86400) + 60 * n) minute
    ∙ sym (moment-parts b whole)
