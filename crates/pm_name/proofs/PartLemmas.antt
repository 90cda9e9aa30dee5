-- What the parts of a text hold.
use Rattle.std.proofs.Common.{inl, inr, ◌∷◌, length, take, drop, get_or, ap, subst, codes, append_assoc, length-append, Bool, ◌≡◌, ◌≢◌, ℕ, List, ◌++◌, sym, ◌∙◌, ◌/◌, ◌%◌, ◌<◌, ◌≤◌, arith}
use Rattle.std.proofs.lemmas.List.{take-append-drop}
use Rattle.std.proofs.Math.Seq.{drop-cons, take-append_seam, get_or-append_seam}
use Rattle.std.specs.List.{AllPass, prefix_len}
use Rattle.std.specs.Char.{is_ascii_digit}
use Rattle.std.proofs.lemmas.Bool.{cases_lt}
use Rattle.std.proofs.lemmas.Grind.{common_steps}
use Rattle.std.proofs.lemmas.List.Sums.{prefix_len-drop_no, prefix_len-drop_all, prefix_len_stops}
use Rattle.pm_base.specs.Names.{IsJobId, is_id_char}
use Rattle.pm_name.specs.Calendar.{Date, IsDate}
use Rattle.pm_name.specs.FileName.{two_digits}
use Rattle.pm_name.proofs.FileNameLemmas.{days_in_month-le, two_digits-front, prefix_len-run, append-same_length, tails}
use Rattle.pm_name.specs.Reading.{BeginsWith, ReadsDate, ReadsJob, LooksLikeDate}

-- each part of a date has its digits
pub year-lt : (date : Date) → IsDate date → date.year < 10000
year-lt date is = let year = is.last_year in omega arith

pub month-lt : (date : Date) → IsDate date → date.month < 100
month-lt date is = let month = is.last_month in omega arith

pub day-lt : (date : Date) → IsDate date → date.day < 100
day-lt date is =
    let long = days_in_month-le date.year date.month in
    let day = is.last_day in
    omega arith

-- no two digits stand at the front
abbrev NoDigits : List ℕ → Type 0
NoDigits bytes = (n : ℕ) (rest : List ℕ) → n < 100 → bytes ≢ two_digits n ++ rest

-- a text is no date where it lacks the century
pub no_century : (bytes : List ℕ) → NoDigits bytes → ¬ BeginsWith ReadsDate bytes
no_century bytes none (day, rest, r) =
    let year = year-lt r.date r.is_date in
    none (r.date.year / 100) _ (omega arith) r.text

-- or the year of the century
pub no_year : (bytes b1 : List ℕ) (c : ℕ) → c < 100 → bytes ≡ two_digits c ++ b1 → NoDigits b1 → ¬ BeginsWith ReadsDate bytes
no_year bytes b1 c c_in e1 none (day, rest, r) =
    let year = year-lt r.date r.is_date in
    let front = two_digits-front c (r.date.year / 100) b1 _ c_in (omega arith) (sym e1 ∙ r.text) in
    none (r.date.year % 100) _ (omega arith) front.1

-- or the month
pub no_month : (bytes b1 b2 : List ℕ) (c y : ℕ) → c < 100 → bytes ≡ two_digits c ++ b1 → y < 100 → b1 ≡ two_digits y ++ b2 → NoDigits b2 → ¬ BeginsWith ReadsDate bytes
no_month bytes b1 b2 c y c_in e1 y_in e2 none (day, rest, r) =
    let year = year-lt r.date r.is_date in
    let front = two_digits-front c (r.date.year / 100) b1 _ c_in (omega arith) (sym e1 ∙ r.text) in
    let front2 = two_digits-front y (r.date.year % 100) b2 _ y_in (omega arith) (sym e2 ∙ front.1) in
    none r.date.month _ (month-lt r.date r.is_date) front2.1

-- or the day
pub no_day : (bytes b1 b2 b3 : List ℕ) (c y m : ℕ) → c < 100 → bytes ≡ two_digits c ++ b1 → y < 100 → b1 ≡ two_digits y ++ b2 → m < 100 → b2 ≡ two_digits m ++ b3 → NoDigits b3 → ¬ BeginsWith ReadsDate bytes
no_day bytes b1 b2 b3 c y m c_in e1 y_in e2 m_in e3 none (day, rest, r) =
    let year = year-lt r.date r.is_date in
    let front = two_digits-front c (r.date.year / 100) b1 _ c_in (omega arith) (sym e1 ∙ r.text) in
    let front2 = two_digits-front y (r.date.year % 100) b2 _ y_in (omega arith) (sym e2 ∙ front.1) in
    let front3 = two_digits-front m r.date.month b3 _ m_in (month-lt r.date r.is_date) (sym e3 ∙ front2.1) in
    none r.date.day _ (day-lt r.date r.is_date) front3.1

-- a run of passing elements ends where none passes
prefix_len-behind : (p : ℕ → Bool) (xs : List ℕ) → prefix_len p (drop (prefix_len p xs) xs) ≡ 0
prefix_len-behind p xs =
    elim (cases_lt (prefix_len p xs) (length xs)) [
      | inl lt ↦ prefix_len-drop_no p xs (prefix_len p xs) 0 lt (prefix_len_stops p xs 0 lt)
      | inr ge ↦ prefix_len-drop_all p xs (prefix_len p xs) ge
    ]

-- the run behind the mark is the job id, if it is one
pub job_read : (bytes behind : List ℕ) (n : ℕ) → bytes ≡ codes "_-" ++ behind → n ≡ prefix_len is_id_char behind → IsJobId (take n behind) → ReadsJob bytes (take n behind) (drop n behind)
job_read bytes behind n text run is = record {
  job_is = is;
  text = rw text (grind (arith, common_steps));
  longest = rw run (prefix_len-behind is_id_char behind);
}

-- and no other is
pub no_job : (bytes behind : List ℕ) (n : ℕ) → bytes ≡ codes "_-" ++ behind → n ≡ prefix_len is_id_char behind → n ≤ length behind → ¬ IsJobId (take n behind) → ¬ BeginsWith ReadsJob bytes
no_job bytes behind n text run within other (job, rest, r) =
    let all : behind ≡ job ++ rest = tails (tails (sym text ∙ r.text)) in
    let long : prefix_len is_id_char behind ≡ length job = rw all (prefix_len-run is_id_char job rest r.job_is.alphabet r.longest) in
    let whole : take n behind ++ drop n behind ≡ behind = grind (arith, common_steps) in
    let same : length (take n behind) ≡ length job = grind (arith, common_steps) in
    other (subst IsJobId (sym (append-same_length (take n behind) job (drop n behind) rest same (whole ∙ all)).0) r.job_is)

-- eight digits and a full stop
pub looks_like : (bytes : List ℕ) → 9 ≤ length bytes → AllPass is_ascii_digit (take 8 bytes) → get_or bytes 8 0 ≡ 46 → LooksLikeDate bytes
looks_like bytes long digits dot = record {
  digits = take 8 bytes;
  rest = drop 9 bytes;
  eight = grind (arith, common_steps);
  all_digits = digits;
  text =
      let at : drop 8 bytes ≡ get_or bytes 8 0 ∷ drop 9 bytes = drop-cons bytes 8 0 (omega arith) in
      sym (take-append-drop 8 bytes) ∙ (ap (λ (x : List ℕ). take 8 bytes ++ x) (at ∙ ap (λ (y : ℕ). y ∷ drop 9 bytes) dot) ∙ sym (append_assoc (take 8 bytes) (codes ".") (drop 9 bytes)));
}

front_looks : (bytes digits rest : List ℕ) → length digits ≡ 8 → AllPass is_ascii_digit digits → bytes ≡ digits ++ 46 ∷ rest → (9 ≤ length bytes) × AllPass is_ascii_digit (take 8 bytes) × (get_or bytes 8 0 ≡ 46)
front_looks bytes digits rest eight all text =
    let front : take 8 bytes ≡ digits = rw (text, ← eight) (take-append_seam digits (46 ∷ rest)) in (
      omega (arith, ap length text, length-append digits (46 ∷ rest)),
      rw front all,
      rw (text, ← eight) (get_or-append_seam digits 46 rest 0),
    )

pub like_looks : (bytes : List ℕ) → LooksLikeDate bytes → (9 ≤ length bytes) × AllPass is_ascii_digit (take 8 bytes) × (get_or bytes 8 0 ≡ 46)
like_looks bytes like =
    front_looks bytes like.digits like.rest like.eight like.all_digits (like.text ∙ append_assoc like.digits (codes ".") like.rest)
