-- The grammars of names as tests, for the strings of a document.
use Rattle.std.specs.Prelude.{ℕ, ◌&&◌, ◌||◌, ◌==◌, ◌-◌, Bool, not, List, length, nat_eq, nat_le, bytes_eq, slice_index}
use Rattle.std.specs.List.{list_any, list_all}
use Rattle.std.specs.Char.{is_ascii_alphabetic, is_ascii_alphanumeric}
use Rattle.pm_base.specs.Class.{class_name}
use Rattle.pm_base.specs.declared.class.Class.TheVariants.{ManagedElement, GnbCuCp, NrCellCu, GnbDu, NrCellDu}
use Rattle.pm_base.specs.Names.{is_id_char, is_name_char}

-- The id of a job, a monitor or a subscription.
abbrev pub job_id : List ℕ → Bool
job_id s = nat_le 1 (length s) && nat_le (length s) 32 && list_all is_id_char s && is_ascii_alphanumeric (slice_index s 0)

-- The id of a part of a distinguished name.
abbrev pub dn_id : List ℕ → Bool
dn_id s = nat_le 1 (length s) && nat_le (length s) 64 && list_all is_name_char s

-- The name of a measurement.
abbrev pub measure_name : List ℕ → Bool
measure_name s =
    nat_le 3 (length s) && nat_le (length s) 64 && list_all is_name_char s && is_ascii_alphabetic (slice_index s 0)
    && list_any (nat_eq 46) s && not (slice_index s (length s - 1) == 46)

-- The name of a class of managed objects.
abbrev pub class_word : List ℕ → Bool
class_word s =
    bytes_eq s (class_name ManagedElement) || bytes_eq s (class_name GnbCuCp) || bytes_eq s (class_name NrCellCu)
    || bytes_eq s (class_name GnbDu) || bytes_eq s (class_name NrCellDu)
