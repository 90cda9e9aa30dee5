-- How long a file name is at the most.
use Rattle.std.proofs.Common.{◌≡◌, ℕ, ◌+◌, ◌≤◌, List, ◌++◌, length, refl, ap, ◌∙◌, arith, length-append}
use Rattle.std.specs.Prelude.{codes}
use Rattle.pm_name.specs.FileName.{FileType, A, C, FileNameParts, IsFileName, IsEndDate, type_text, date_text, time_text, minute_of_day}

type_length : (k : FileType) → length (type_text k) ≡ 1
type_length A = refl
type_length C = refl

end_length : (k : FileType) (end : ℕ) (text : List ℕ) → IsEndDate k end text → length text ≤ 9
end_length A end text is = omega (arith, ap length is)
end_length C end text is = omega (arith, ap length is.2)

parts_length : (a b c d e f g h i j k : List ℕ) → length (a ++ b ++ c ++ d ++ e ++ f ++ g ++ h ++ i ++ j ++ k)
    ≡ length a + length b + length c + length d + length e + length f + length g + length h + length i + length j + length k
parts_length a b c d e f g h i j k = simp length-append refl

pub name_short : (bytes : List ℕ) (name : FileNameParts) → IsFileName bytes name → length bytes ≤ 255
name_short bytes name is =
    omega (
      arith,
      ap length is.text
          ∙ parts_length (type_text name.kind) (date_text is.first) (codes ".") (time_text (minute_of_day name.begin)) (codes "-") is.end_date
          (time_text (minute_of_day name.end)) (codes "_-") name.job (codes "_") name.unique,
      type_length name.kind,
      end_length name.kind name.end is.end_date is.end_date_is,
      is.nameable.job_is.most,
      is.nameable.unique_is.most,
    )
