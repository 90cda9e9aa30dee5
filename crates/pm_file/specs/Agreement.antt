-- Which values of a report agree with each other (this project's own).
use Rattle.std.specs.Prelude.{ℕ, ◌+◌, ◌-◌, ◌/◌, ◌%◌, ◌&&◌, ◌==◌, Bool, true, false, List, [], ◌∷◌, length, nat_eq, nat_lt, nat_le}
use Rattle.std.specs.List.{list_any, list_all}
use Rattle.std.specs.Cmp.Lexicographic.{slice_cmp}
use Rattle.std.specs.Ordering.{nat_cmp, match_ordering}
use Rattle.pm_name.specs.FileName.{minute_of_day}
use Rattle.pm_file.specs.Content.{RowContent, GroupContent, PartContent, ReportContent}

abbrev pub is_some_list : {A : Type 0} → List A → Bool
is_some_list [] = false
is_some_list (x ∷ xs) = true

-- A row has as many results as its group has types.
abbrev pub row_agrees : ℕ → RowContent → Bool
row_agrees count row = length row.results == count

abbrev pub group_agrees : GroupContent → Bool
group_agrees g = is_some_list g.types && is_some_list g.rows && list_all (row_agrees (length g.types)) g.rows

-- One text is before another in byte order.
abbrev pub text_before : List ℕ → List ℕ → Bool
text_before a b = match_ordering (slice_cmp nat_cmp a b) true false false

-- Each class comes after the one before it.
abbrev pub classes_rise : List GroupContent → Bool
classes_rise [] = true
classes_rise (g ∷ []) = true
classes_rise (g ∷ h ∷ gs) = text_before g.class h.class && classes_rise (h ∷ gs)

-- A part of so many seconds.
abbrev pub part_agrees : ℕ → PartContent → Bool
part_agrees seconds p =
    p.granularity == seconds && p.begin + seconds == p.end && is_some_list p.groups && classes_rise p.groups && list_all group_agrees p.groups

-- The parts follow each other from one moment to another without gap.
abbrev pub parts_follow : ℕ → ℕ → List PartContent → Bool
parts_follow from to [] = from == to
parts_follow from to (p ∷ ps) = p.begin == from && parts_follow p.end to ps

-- The granularity period of the first part.
abbrev pub first_granularity : List PartContent → ℕ
first_granularity [] = 0
first_granularity (p ∷ ps) = p.granularity

-- The permitted granularity periods in seconds.
abbrev pub is_granularity : ℕ → Bool
is_granularity seconds = list_any (nat_eq seconds) (60 ∷ 300 ∷ 900 ∷ 1800 ∷ 3600 ∷ [])

-- The minutes that a file may cover, of one part and of more.
abbrev pub is_file_length : Bool → ℕ → Bool
is_file_length true minutes = list_any (nat_eq minutes) (1 ∷ 5 ∷ 15 ∷ 30 ∷ 60 ∷ [])
is_file_length false minutes = nat_le 2 minutes && nat_le minutes 1440 && (1440 % minutes == 0)

-- A file name can say this period, of one part or of more.
abbrev pub is_file_span : Bool → ℕ → ℕ → Bool
is_file_span one begin end =
    nat_lt begin end && nat_le end 253402300740 && (begin % 60 == 0) && (end % 60 == 0)
    && is_file_length one ((end - begin) / 60) && (minute_of_day begin % ((end - begin) / 60) == 0)

-- Nothing is empty that may not be; lengths and times agree; and the whole is a period that a file name can say.
abbrev pub report_agrees : ReportContent → Bool
report_agrees r =
    is_granularity (first_granularity r.parts) && list_all (part_agrees (first_granularity r.parts)) r.parts
    && parts_follow r.begin r.end r.parts && is_file_span (length r.parts == 1) r.begin r.end
