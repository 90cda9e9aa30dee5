-- Forms of single values.
use Rattle.std.specs.Prelude.{ℕ, Bool, true, List, if◌then◌else◌, nat_le, Option, Some, None, Ok, Err, bytes_eq}
use Rattle.serde_json.specs.Data.{Num, unsigned, negative, float, Data, null, boolean, number, string, array, object}
use Rattle.serde_json.specs.Find.{as_str, as_bool, as_number}
use Rattle.pm_form.specs.declared.refusal.Refusal.TheVariants.{WrongType, WrongNumber}
use Rattle.pm_form.specs.Form.{Read, then_read, Form}

-- What is looked up, which is of its type or isn't there.
abbrev pub of_type : {A : Type 0} → Option A → Read A
of_type (Some a) = Ok a
of_type None = Err WrongType

-- A string that passes a test.
abbrev pub text : (List ℕ → Bool) → Form (List ℕ)
text test =
    record {
      reads = λ d. then_read (of_type (as_str d)) (λ s. if test s then Ok s else Err WrongType);
      tree = string;
      fits = test;
    }

-- This one string.
abbrev pub fixed : List ℕ → Form (Unit {0})
fixed word =
    record {
      reads = λ d. then_read (of_type (as_str d)) (λ s. if bytes_eq s word then Ok tt else Err WrongType);
      tree = λ _. string word;
      fits = λ _. true;
    }

-- True or false.
abbrev pub flag : Form Bool
flag = record { reads = λ d. of_type (as_bool d); tree = boolean; fits = λ _. true }

abbrev pub whole_number : ℕ → Num → Read ℕ
whole_number most (unsigned n) = if nat_le n most then Ok n else Err WrongNumber
whole_number most (negative z) = Err WrongNumber
whole_number most (float x) = Err WrongNumber

-- A whole number of at most so much.
abbrev pub whole : ℕ → Form ℕ
whole most =
    record {
      reads = λ d. then_read (of_type (as_number d)) (whole_number most);
      tree = λ n. number (unsigned n);
      fits = λ n. nat_le n most;
    }

abbrev pub or_null_reads : ℕ → Data → Read (Option ℕ)
or_null_reads most null = Ok None
or_null_reads most (boolean b) = Err WrongType
or_null_reads most (number n) = then_read (whole_number most n) (λ m. Ok (Some m))
or_null_reads most (string s) = Err WrongType
or_null_reads most (array ds) = Err WrongType
or_null_reads most (object ms) = Err WrongType

abbrev pub or_null_tree : Option ℕ → Data
or_null_tree None = null
or_null_tree (Some n) = number (unsigned n)

abbrev pub or_null_fits : ℕ → Option ℕ → Bool
or_null_fits most None = true
or_null_fits most (Some n) = nat_le n most

-- Null or such a number.
abbrev pub whole_or_null : ℕ → Form (Option ℕ)
whole_or_null most = record { reads = or_null_reads most; tree = or_null_tree; fits = or_null_fits most }
