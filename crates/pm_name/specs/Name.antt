-- What a file name of the program says.
use Rattle.std.specs.Prelude.{◌≡◌, ℕ, List, ◌++◌, codes}
use Rattle.pm_name.specs.Calendar.{Date, IsDateOf}
use Rattle.pm_name.specs.FileName.{FileType, FileNameParts, IsEndDate, date_text, time_text, type_text, minute_of_day}
use Rattle.pm_name.specs.declared.kind.FileKind.{FileKind}
use Rattle.pm_name.specs.Kind.{type_of}

-- The parts of a name.
abbrev pub name_parts : FileKind → ℕ → ℕ → List ℕ → List ℕ → FileNameParts
name_parts kind begin end job unique =
    record { kind = type_of kind; begin = begin; end = end; job = job; unique = unique }

-- The text of a name up to Endtime.
pub record IsTimesText (kind : FileType) (begin end : ℕ) (text : List ℕ) : Type 0 where
  pub first : Date
  pub first_is : IsDateOf first begin
  pub end_date : List ℕ
  pub end_date_is : IsEndDate kind end end_date
  pub text_is : text
      ≡ type_text kind ++ date_text first ++ codes "." ++ time_text (minute_of_day begin) ++ codes "-" ++ end_date
      ++ time_text (minute_of_day end)
