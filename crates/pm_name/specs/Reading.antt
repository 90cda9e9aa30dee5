-- How a text is read as a file name, part by part, and which refusal names the first part that fails.
use Rattle.std.specs.Prelude.{◌≡◌, ◌≤◌, ◌<◌, ℕ, ◌+◌, ◌*◌, ◌%◌, List, ◌++◌, length, codes, Option, None, Some}
use Rattle.std.specs.List.{AllPass, prefix_len}
use Rattle.std.specs.Char.{is_ascii_digit}
use Rattle.pm_name.specs.Calendar.{Date, IsDate, day_number}
use Rattle.pm_base.specs.Names.{IsJobId, IsDnId, is_id_char}
use Rattle.pm_name.specs.FileName.{FileType, A, C, IsFileSpan, minute_of_day, date_text, time_text, type_text}
use Rattle.pm_name.specs.declared.error.NameError.{NameError}
use Rattle.pm_name.specs.declared.error.NameError.TheVariants.{F1, F2, F3, F4, F5, F6, F7, Memory}

-- Some part of this form stands at the front.
abbrev pub BeginsWith : {V : Type 0} → (List ℕ → V → List ℕ → Type 0) → List ℕ → Type 0
BeginsWith {V} Reads bytes = (value : V) × (rest : List ℕ) × Reads bytes value rest

-- Type, and the bytes behind it.
abbrev pub ReadsType : List ℕ → FileType → List ℕ → Type 0
ReadsType bytes kind rest = bytes ≡ type_text kind ++ rest

-- A date, by its day number, and `.`.
pub record ReadsDate (bytes : List ℕ) (day : ℕ) (rest : List ℕ) : Type 0 where
  pub date : Date
  pub is_date : IsDate date
  pub day_is : day_number date ≡ day
  pub text : bytes ≡ date_text date ++ codes "." ++ rest

-- A time, as the minute of the day, and `+0000`.
pub record ReadsTime (bytes : List ℕ) (minute : ℕ) (rest : List ℕ) : Type 0 where
  pub in_day : minute < 1440
  pub text : bytes ≡ time_text minute ++ rest

-- Starttime and `-`.
pub record ReadsStart (bytes : List ℕ) (minute : ℕ) (rest : List ℕ) : Type 0 where
  pub in_day : minute < 1440
  pub text : bytes ≡ time_text minute ++ codes "-" ++ rest

-- Eight digits and `.`.
pub record LooksLikeDate (bytes : List ℕ) : Type 0 where
  pub digits : List ℕ
  pub rest : List ℕ
  pub eight : length digits ≡ 8
  pub all_digits : AllPass is_ascii_digit digits
  pub text : bytes ≡ digits ++ codes "." ++ rest

-- Enddate: with A nothing that looks like a date, with C a date.
abbrev pub ReadsEndDate : FileType → List ℕ → Option ℕ → List ℕ → Type 0
ReadsEndDate A bytes None rest = (bytes ≡ rest) × ¬ LooksLikeDate bytes
ReadsEndDate A bytes (Some day) rest = ⊥
ReadsEndDate C bytes None rest = ⊥
ReadsEndDate C bytes (Some day) rest = ReadsDate bytes day rest

-- The end: on the written day, or else the first moment after the start that has the end's time of day.
abbrev pub IsEnd : ℕ → Option ℕ → ℕ → ℕ → Type 0
IsEnd begin None minute end =
    (begin < end) × (end ≤ begin + 86400) × (end % 60 ≡ 0) × (minute_of_day end ≡ minute)
IsEnd begin (Some day) minute end = end ≡ 86400 * day + 60 * minute

-- Endtime, with the length rule.
pub record ReadsEnd (kind : FileType) (begin : ℕ) (day : Option ℕ) (bytes : List ℕ) (end : ℕ) (rest : List ℕ) : Type 0 where
  pub minute : ℕ
  pub time : ReadsTime bytes minute rest
  pub end_is : IsEnd begin day minute end
  pub span : IsFileSpan kind begin end

-- `_-` and a job id, up to the first byte that is not of its alphabet.
pub record ReadsJob (bytes job rest : List ℕ) : Type 0 where
  pub job_is : IsJobId job
  pub text : bytes ≡ codes "_-" ++ (job ++ rest)
  pub longest : prefix_len is_id_char rest ≡ 0

-- `_` and an id of a distinguished name, to the end.
pub record ReadsUnique (bytes unique : List ℕ) : Type 0 where
  pub unique_is : IsDnId unique
  pub text : bytes ≡ codes "_" ++ unique

-- The text up to Startdate, Starttime, Enddate, Endtime and jobId, and the bytes behind that part.
pub record ToStartDate (bytes : List ℕ) (kind : FileType) (day : ℕ) (rest : List ℕ) : Type 0 where
  pub behind : List ℕ
  pub type : ReadsType bytes kind behind
  pub date : ReadsDate behind day rest

pub record ToStart (bytes : List ℕ) (kind : FileType) (begin : ℕ) (rest : List ℕ) : Type 0 where
  pub day : ℕ
  pub minute : ℕ
  pub behind : List ℕ
  pub before : ToStartDate bytes kind day behind
  pub time : ReadsStart behind minute rest
  pub begin_is : begin ≡ 86400 * day + 60 * minute

pub record ToEndDate (bytes : List ℕ) (kind : FileType) (begin : ℕ) (day : Option ℕ) (rest : List ℕ) : Type 0 where
  pub behind : List ℕ
  pub before : ToStart bytes kind begin behind
  pub date : ReadsEndDate kind behind day rest

pub record ToEnd (bytes : List ℕ) (kind : FileType) (begin end : ℕ) (rest : List ℕ) : Type 0 where
  pub day : Option ℕ
  pub behind : List ℕ
  pub before : ToEndDate bytes kind begin day behind
  pub time : ReadsEnd kind begin day behind end rest

pub record ToJob (bytes : List ℕ) (kind : FileType) (begin end : ℕ) (job rest : List ℕ) : Type 0 where
  pub behind : List ℕ
  pub before : ToEnd bytes kind begin end behind
  pub id : ReadsJob behind job rest

-- The refusal of a text: all parts before the one that it names stand, and that one doesn't.
abbrev pub Refuses : List ℕ → NameError → Type 0
Refuses bytes F1 = ¬ BeginsWith ReadsType bytes
Refuses bytes F2 =
    (kind : FileType) × (rest : List ℕ) × ReadsType bytes kind rest × ¬ BeginsWith ReadsDate rest
Refuses bytes F3 =
    (kind : FileType) × (day : ℕ) × (rest : List ℕ) × ToStartDate bytes kind day rest
    × ¬ BeginsWith ReadsStart rest
Refuses bytes F4 =
    (kind : FileType) × (begin : ℕ) × (rest : List ℕ) × ToStart bytes kind begin rest
    × ¬ BeginsWith (ReadsEndDate kind) rest
Refuses bytes F5 =
    (kind : FileType) × (begin : ℕ) × (day : Option ℕ) × (rest : List ℕ)
    × ToEndDate bytes kind begin day rest × ¬ BeginsWith (ReadsEnd kind begin day) rest
Refuses bytes F6 =
    (kind : FileType) × (begin end : ℕ) × (rest : List ℕ) × ToEnd bytes kind begin end rest
    × ¬ BeginsWith ReadsJob rest
Refuses bytes F7 =
    (kind : FileType) × (begin end : ℕ) × (job rest : List ℕ) × ToJob bytes kind begin end job rest
    × ((unique : List ℕ) → ¬ ReadsUnique rest unique)
Refuses bytes Memory = ⊥
