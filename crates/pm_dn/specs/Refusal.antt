-- Which rule of the grammar of names a text breaks first (this project's own).
use Rattle.std.specs.Prelude.{◌==◌, ◌&&◌, ◌||◌, ℕ, Bool, not, nat_lt, Option, Some, None, List, [], ◌∷◌, length, map, slice_index, if◌then◌else◌}
use Rattle.std.specs.List.{list_any, list_all}
use Rattle.std.specs.Char.{is_ascii_alphabetic, is_ascii_alphanumeric}
use Rattle.pm_base.specs.Names.{is_name_char}
use Rattle.pm_base.specs.Pieces.{pieces_of}
use Rattle.pm_base.specs.declared.names.TheConstants.{WORD_BYTES}
use Rattle.pm_dn.specs.declared.refusal.TheConstants.{NAME_BYTES, NAME_PARTS}
use Rattle.pm_dn.specs.Name.{part_of, is_equals}
use Rattle.pm_dn.specs.declared.error.DnError.{DnError}
use Rattle.pm_dn.specs.declared.error.DnError.TheVariants.{N1, N2, N3, N4, N5}

-- The code of a rule, where it is broken.
abbrev pub when_broken : {E : Type 0} → Bool → E → Option E
when_broken broken code = if broken then Some code else None

-- The first code of a list of answers.
abbrev pub first_code : {E : Type 0} → List (Option E) → Option E
first_code [] = None
first_code (Some code ∷ answers) = Some code
first_code (None ∷ answers) = first_code answers

-- Letters and digits, a letter first: the alphabet of a class.
abbrev pub is_of_class_alphabet : List ℕ → Bool
is_of_class_alphabet class = is_ascii_alphabetic (slice_index class 0) && list_all is_ascii_alphanumeric class

-- Letters, digits, `.` and `-`: the alphabet of an id.
abbrev pub is_of_id_alphabet : List ℕ → Bool
is_of_id_alphabet id = list_all is_name_char id

-- The rules of what stands between two commas, in their order.
abbrev pub part_refusal : List ℕ → Option DnError
part_refusal piece =
    first_code
    (when_broken (length piece == 0) N1
    ∷ when_broken (not (list_any is_equals piece)) N2
    ∷ when_broken (length (part_of piece).class == 0 || length (part_of piece).id == 0) N1
    ∷ when_broken (not (is_of_class_alphabet (part_of piece).class && is_of_id_alphabet (part_of piece).id)) N3
    ∷ when_broken (nat_lt WORD_BYTES (length (part_of piece).class) || nat_lt WORD_BYTES (length (part_of piece).id)) N4
    ∷ [])

-- The rules of a text, in their order: its length, the parts one after the other, and their number.
abbrev pub name_refusal : List ℕ → Option DnError
name_refusal bytes =
    first_code
    (when_broken (nat_lt NAME_BYTES (length bytes)) N4
    ∷ first_code (map part_refusal (pieces_of 44 bytes))
    ∷ when_broken (nat_lt NAME_PARTS (length (pieces_of 44 bytes))) N5
    ∷ [])
