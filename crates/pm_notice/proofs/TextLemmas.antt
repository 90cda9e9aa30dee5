-- Names of files are UTF-8.
use Rattle.std.proofs.Common.{◌≡◌, ℕ, zero, suc, ◌+◌, ◌/◌, ◌%◌, ◌<◌, ◌&&◌, Bool, true, false, List, [], ◌∷◌, ◌++◌, refl, arith, lit<, codes, get_or}
use Rattle.std.specs.List.{list_all}
use Rattle.std.specs.Str.{IsUtf8}
use Rattle.std.proofs.lemmas.Bool.Decides.{nat_tests}
use Rattle.std.proofs.lemmas.List.Sums.{list_all-from_AllPass}
use Rattle.std.proofs.lemmas.Str.{IsUtf8-append, IsUtf8-nil, IsUtf8-from_ascii}
use Rattle.pm_base.specs.Names.{is_id_char, is_name_char}
use Rattle.pm_name.proofs.FileNameLemmas.{days_in_month-le}
use Rattle.pm_name.specs.Calendar.{Date, IsDate}
use Rattle.pm_name.specs.FileName.{FileType, A, C, FileNameParts, IsFileName, SaysFileName, IsEndDate, two_digits, date_text, time_text, type_text, minute_of_day}

both : (a b : Bool) → (a && b) ≡ true → (a ≡ true) × (b ≡ true)
both true b h = (refl, h)
both false b h = cc

one : (b : ℕ) → b < 128 → IsUtf8 (b ∷ [])
one b lt = IsUtf8-from_ascii (b ∷ []) at
  where
    at : (i : ℕ) → get_or (b ∷ []) i 0 < 128
    at zero = lt
    at (suc i) = omega arith

all : (p : ℕ → Bool) → ((b : ℕ) → p b ≡ true → b < 128) → (s : List ℕ) → list_all p s ≡ true → IsUtf8 s
all p small [] e = IsUtf8-nil
all p small (b ∷ s) e = let q = both (p b) (list_all p s) e in IsUtf8-append (b ∷ []) s (one b (small b q.0)) (all p small s q.1)

small_name : (b : ℕ) → is_name_char b ≡ true → b < 128
small_name b e = grind (arith, nat_tests)

small_id : (b : ℕ) → is_id_char b ≡ true → b < 128
small_id b e = grind (arith, nat_tests)

two-utf8 : (n : ℕ) → n < 100 → IsUtf8 (two_digits n)
two-utf8 n lt =
    let tens : n / 10 < 10 = omega (arith, lt) in
    let ones : n % 10 < 10 = omega (arith, lt) in
    IsUtf8-append ((48 + n / 10) ∷ []) ((48 + n % 10) ∷ []) (one (48 + n / 10) (omega (arith, tens))) (one (48 + n % 10) (omega (arith, ones)))

day-small : (d : Date) → IsDate d → d.day < 100
day-small d is = let most = days_in_month-le d.year d.month in let last = is.last_day in omega (arith, most, last)

date-utf8 : (d : Date) → IsDate d → IsUtf8 (date_text d)
date-utf8 d is =
    let year = is.last_year in
    let month = is.last_month in
    let day : d.day < 100 = day-small d is in
    let front : d.year / 100 < 100 = omega (arith, year) in
    let back : d.year % 100 < 100 = omega (arith, year) in
    IsUtf8-append (two_digits (d.year / 100)) _ (two-utf8 (d.year / 100) front)
    (IsUtf8-append (two_digits (d.year % 100)) _ (two-utf8 (d.year % 100) back)
    (IsUtf8-append (two_digits d.month) _ (two-utf8 d.month (omega (arith, month))) (two-utf8 d.day day)))

plus-utf8 : IsUtf8 (codes "+0000")
plus-utf8 = IsUtf8-append (43 ∷ []) (codes "0000") (one 43 (lit< tt)) (all is_name_char small_name (codes "0000") refl)

time-utf8 : (m : ℕ) → IsUtf8 (time_text (minute_of_day m))
time-utf8 m =
    let hours : minute_of_day m / 60 < 100 = omega arith in
    let minutes : minute_of_day m % 60 < 100 = omega arith in
    IsUtf8-append (two_digits (minute_of_day m / 60)) _ (two-utf8 _ hours)
    (IsUtf8-append (two_digits (minute_of_day m % 60)) _ (two-utf8 _ minutes) plus-utf8)

type-utf8 : (k : FileType) → IsUtf8 (type_text k)
type-utf8 A = one 65 (lit< tt)
type-utf8 C = one 67 (lit< tt)

end-utf8 : (k : FileType) (end : ℕ) (text : List ℕ) → IsEndDate k end text → IsUtf8 text
end-utf8 A end text is = rw is IsUtf8-nil
end-utf8 C end text is = rw is.2 (IsUtf8-append (date_text is.0) (codes ".") (date-utf8 is.0 is.1.is_date) (one 46 (lit< tt)))

named-utf8 : (s : List ℕ) (name : FileNameParts) → IsFileName s name → IsUtf8 s
named-utf8 s name is =
    let job = all is_id_char small_id name.job (list_all-from_AllPass is_id_char name.job is.nameable.job_is.alphabet) in
    let unique = all is_name_char small_name name.unique (list_all-from_AllPass is_name_char name.unique is.nameable.unique_is.alphabet) in
    let dash = one 45 (lit< tt) in
    let low = one 95 (lit< tt) in
    let t1 = IsUtf8-append (type_text name.kind) _ (type-utf8 name.kind) (date-utf8 is.first is.first_is.is_date) in
    let t2 = IsUtf8-append _ (codes ".") t1 (one 46 (lit< tt)) in
    let t3 = IsUtf8-append _ (time_text (minute_of_day name.begin)) t2 (time-utf8 name.begin) in
    let t4 = IsUtf8-append _ (codes "-") t3 dash in
    let t5 = IsUtf8-append _ is.end_date t4 (end-utf8 name.kind name.end is.end_date is.end_date_is) in
    let t6 = IsUtf8-append _ (time_text (minute_of_day name.end)) t5 (time-utf8 name.end) in
    let t7 = IsUtf8-append _ (codes "_-") t6 (IsUtf8-append (95 ∷ []) (45 ∷ []) low dash) in
    let t8 = IsUtf8-append _ name.job t7 job in
    let t9 = IsUtf8-append _ (codes "_") t8 low in
    rw is.text (IsUtf8-append _ name.unique t9 unique)

slash_files-utf8 : IsUtf8 (codes "/files/")
slash_files-utf8 =
    let slash = one 47 (lit< tt) in
    IsUtf8-append (47 ∷ []) (codes "files/") slash (IsUtf8-append (codes "files") (47 ∷ []) (all is_name_char small_name (codes "files") refl) slash)

pub location-utf8 : (name : List ℕ) → SaysFileName name → IsUtf8 (codes "/files/" ++ name)
location-utf8 name says = IsUtf8-append (codes "/files/") name slash_files-utf8 (named-utf8 name says.0 says.1)
