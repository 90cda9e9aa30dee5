-- Names of report files (TS 32.432; the meaning of the types, the ranges of dates and times and the length rule are this
-- project's own).
use Rattle.std.specs.Prelude.{◌≡◌, ◌≤◌, ℕ, ◌+◌, ◌*◌, ◌/◌, ◌%◌, List, [], ◌∷◌, ◌++◌, codes, Contains, Bool, if◌then◌else◌}
use Rattle.pm_name.specs.Calendar.{Date, IsDateOf}
use Rattle.pm_base.specs.Names.{IsJobId, IsDnId}

-- A: the file covers one granularity period. C: several.
pub data FileType : Type 0 where
  A : FileType
  C : FileType

-- The type of a file, by whether it covers one granularity period alone.
abbrev pub file_type : Bool → FileType
file_type one_period = if one_period then A else C

-- What a name says: the type, the first moment and the end of the reporting period, the job's id, and the id of the
-- ManagedElement.
pub record FileNameParts : Type 0 where
  pub kind : FileType
  pub begin : ℕ
  pub end : ℕ
  pub job : List ℕ
  pub unique : List ℕ

-- The minutes that a file of a type may cover.
abbrev pub IsFileLength : FileType → ℕ → Type 0
IsFileLength A minutes = Contains (1 ∷ 5 ∷ 15 ∷ 30 ∷ 60 ∷ []) minutes
IsFileLength C minutes = (2 ≤ minutes) × (minutes ≤ 1440) × (1440 % minutes ≡ 0)

-- The minute of the day in which a moment lies.
abbrev pub minute_of_day : ℕ → ℕ
minute_of_day moment = moment % 86400 / 60

-- The length rule: the reporting periods that a name can say. Within its day the start is a multiple of the length. The
-- end is at most 9999-12-31 23:59.
pub record IsFileSpan (kind : FileType) (begin end : ℕ) : Type 0 where
  pub minutes : ℕ
  pub permitted : IsFileLength kind minutes
  pub end_is : end ≡ begin + 60 * minutes
  pub whole : begin % 60 ≡ 0
  pub aligned : minute_of_day begin % minutes ≡ 0
  pub end_in : end ≤ 253402300740

-- What a name must say to have a text.
pub record IsNameable (name : FileNameParts) : Type 0 where
  pub span : IsFileSpan name.kind name.begin name.end
  pub job_is : IsJobId name.job
  pub unique_is : IsDnId name.unique

-- A number below 100 in two digits.
abbrev pub two_digits : ℕ → List ℕ
two_digits n = (48 + n / 10) ∷ (48 + n % 10) ∷ []

-- YYYYMMDD.
abbrev pub date_text : Date → List ℕ
date_text date =
    two_digits (date.year / 100) ++ two_digits (date.year % 100) ++ two_digits date.month
    ++ two_digits date.day

-- HHMM+0000 of a minute of the day.
abbrev pub time_text : ℕ → List ℕ
time_text minute = two_digits (minute / 60) ++ two_digits (minute % 60) ++ codes "+0000"

-- The letter of a type.
abbrev pub type_text : FileType → List ℕ
type_text A = codes "A"
type_text C = codes "C"

-- Enddate stands in a name of type C alone. With A the end is the first moment after the start that has the end's time of
-- day.
abbrev pub IsEndDate : FileType → ℕ → List ℕ → Type 0
IsEndDate A end text = text ≡ []
IsEndDate C end text = (date : Date) × IsDateOf date end × (text ≡ date_text date ++ codes ".")

-- Type Startdate . Starttime - [Enddate .] Endtime _- jobId _ UniqueId, given the start's date and the text of Enddate.
abbrev pub file_name_text : FileNameParts → Date → List ℕ → List ℕ
file_name_text name first end_date =
    type_text name.kind ++ date_text first ++ codes "." ++ time_text (minute_of_day name.begin)
    ++ codes "-" ++ end_date ++ time_text (minute_of_day name.end) ++ codes "_-" ++ name.job
    ++ codes "_" ++ name.unique

-- The bytes are the file name that says this.
pub record IsFileName (bytes : List ℕ) (name : FileNameParts) : Type 0 where
  pub nameable : IsNameable name
  pub first : Date
  pub first_is : IsDateOf first name.begin
  pub end_date : List ℕ
  pub end_date_is : IsEndDate name.kind name.end end_date
  pub text : bytes ≡ file_name_text name first end_date

-- The bytes are some file name.
abbrev pub SaysFileName : List ℕ → Type 0
SaysFileName bytes = (name : FileNameParts) × IsFileName bytes name
