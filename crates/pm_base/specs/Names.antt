-- The grammars of names (this project's own).
use Rattle.std.specs.Prelude.{◌≢◌, ◌≤◌, ◌||◌, ◌==◌, ℕ, Bool, List, length, Contains, slice_index, ◌-◌, IsTrue}
use Rattle.std.specs.List.{AllPass}
use Rattle.std.specs.Char.{is_ascii_alphabetic, is_ascii_alphanumeric}
use Rattle.pm_base.specs.declared.names.TheConstants.{WORD_BYTES, ID_BYTES}

-- An ASCII letter or digit, `-` or `.`: what an id in a distinguished name and a measure name are made of.
abbrev pub is_name_char : ℕ → Bool
is_name_char c = is_ascii_alphanumeric c || (c == 45 || c == 46)

-- An ASCII letter or digit, or `-`: what an id of a job, a monitor or a subscription is made of.
abbrev pub is_id_char : ℕ → Bool
is_id_char c = is_ascii_alphanumeric c || c == 45

-- The class of a part of a distinguished name: letters and digits, the first a letter.
pub record IsDnClass (bytes : List ℕ) : Type 0 where
  pub least : 1 ≤ length bytes
  pub most : length bytes ≤ WORD_BYTES
  pub alphabet : AllPass is_ascii_alphanumeric bytes
  pub first : IsTrue (is_ascii_alphabetic (slice_index bytes 0))

-- The id of a part of a distinguished name.
pub record IsDnId (bytes : List ℕ) : Type 0 where
  pub least : 1 ≤ length bytes
  pub most : length bytes ≤ WORD_BYTES
  pub alphabet : AllPass is_name_char bytes

-- The id of a job, a monitor or a subscription.
pub record IsJobId (bytes : List ℕ) : Type 0 where
  pub least : 1 ≤ length bytes
  pub most : length bytes ≤ ID_BYTES
  pub alphabet : AllPass is_id_char bytes
  pub first : IsTrue (is_ascii_alphanumeric (slice_index bytes 0))

-- The name of a measurement: a letter first, at least one `.`, and none at the end.
pub record IsMeasureName (bytes : List ℕ) : Type 0 where
  pub least : 3 ≤ length bytes
  pub most : length bytes ≤ WORD_BYTES
  pub alphabet : AllPass is_name_char bytes
  pub first : IsTrue (is_ascii_alphabetic (slice_index bytes 0))
  pub dotted : Contains bytes 46
  pub last : slice_index bytes (length bytes - 1) ≢ 46
