-- Which texts are names of report files, as a test: the words of a name stand at fixed places, and a text is a name where it
-- is the text of what they say.
use Rattle.std.specs.Prelude.{ℕ, ◌+◌, ◌-◌, ◌*◌, ◌/◌, ◌&&◌, ◌||◌, ◌==◌, Bool, true, false, List, [], ◌++◌, codes, nat_le, slice_index, take, drop, bytes_eq}
use Rattle.std.specs.List.{list_any, prefix_len, range_with_len}
use Rattle.pm_base.specs.Names.{is_id_char}
use Rattle.pm_name.specs.Calendar.{Date, days_in_month, day_number}
use Rattle.pm_name.specs.FileName.{FileNameParts, file_type, date_text, file_name_text}
use Rattle.pm_form.specs.Names.{job_id, dn_id}
use Rattle.pm_file.specs.Agreement.{is_file_span}

-- The number of the two digits at a place.
abbrev pub two_at : List ℕ → ℕ → ℕ
two_at s i = 10 * (slice_index s i - 48) + (slice_index s (i + 1) - 48)

-- The date at a place.
abbrev pub date_at : List ℕ → ℕ → Date
date_at s i = record { year = 100 * two_at s i + two_at s (i + 2); month = two_at s (i + 4); day = two_at s (i + 6) }

abbrev pub is_date : Date → Bool
is_date d =
    nat_le 1970 d.year && nat_le d.year 9999 && nat_le 1 d.month && nat_le d.month 12 && nat_le 1 d.day
    && nat_le d.day (days_in_month d.year d.month)

-- The first moment: the date comes behind the type, and the time behind the date and a point.
abbrev pub begin_in : List ℕ → ℕ
begin_in s = 86400 * day_number (date_at s 1) + 60 * (60 * two_at s 10 + two_at s 12)

-- The ids, which come behind the end. With type C a date and a point come before the end's time.
abbrev pub ids_in : Bool → List ℕ → List ℕ
ids_in true s = drop 31 s
ids_in false s = drop 40 s

-- The end's date and a point, with type C.
abbrev pub end_date_in : Bool → List ℕ → List ℕ
end_date_in true s = []
end_date_in false s = date_text (date_at s 20) ++ codes "."

-- The end lies on that date, with type C.
abbrev pub is_end_date : Bool → List ℕ → ℕ → Bool
is_end_date true s end = true
is_end_date false s end = is_date (date_at s 20) && day_number (date_at s 20) == end / 86400

-- The job's id comes first, up to the first byte that is not of its alphabet, and behind that byte the id of the element.
abbrev pub job_in : List ℕ → List ℕ
job_in ids = take (prefix_len is_id_char ids) ids

abbrev pub element_in : List ℕ → List ℕ
element_in ids = drop (prefix_len is_id_char ids + 1) ids

-- What the text says if its period has so many minutes, with type A or with type C.
abbrev pub name_in : Bool → List ℕ → ℕ → FileNameParts
name_in one s minutes =
    record {
      kind = file_type one;
      begin = begin_in s;
      end = begin_in s + 60 * minutes;
      job = job_in (ids_in one s);
      unique = element_in (ids_in one s);
    }

-- What a name says is permitted, and the text is that of the name.
abbrev pub is_text_of : Bool → List ℕ → FileNameParts → Date → Bool
is_text_of one s name first =
    is_date first && day_number first == name.begin / 86400 && is_end_date one s name.end
    && is_file_span one name.begin name.end && job_id name.job && dn_id name.unique
    && bytes_eq s (file_name_text name first (end_date_in one s))

abbrev pub is_name_of : Bool → List ℕ → ℕ → Bool
is_name_of one s minutes = is_text_of one s (name_in one s minutes) (date_at s 1)

-- A text is a name of type A or of type C, of a period of up to a day.
unfoldable pub is_file_name : List ℕ → Bool
is_file_name s = list_any (is_name_of true s) (range_with_len 1 1440) || list_any (is_name_of false s) (range_with_len 1 1440)
