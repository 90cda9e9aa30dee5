-- Lines of events, of the form `MOMENT LDN METRIC VALUE` (this project's own).
use Rattle.std.specs.Prelude.{◌≡◌, ◌≢◌, ◌&&◌, ◌++◌, ℕ, All, List, [], ◌∷◌, length, nat_le, Option, Some, None, if◌then◌else◌}
use Rattle.pm_base.specs.Lines.{MOST_LINE}
use Rattle.pm_base.specs.Pieces.{words_of}
use Rattle.pm_base.specs.Number.{is_number, is_moment, number_of}

-- What a line of events says.
pub record LineEvent : Type 0 where
  pub moment : ℕ
  pub object : List ℕ
  pub metric : List ℕ
  pub value : ℕ

-- What four words say: a moment of 1 to 12 digits, two names, and a number of 1 to 10 digits.
abbrev pub event_of_words : List (List ℕ) → Option LineEvent
event_of_words (moment ∷ object ∷ metric ∷ value ∷ []) =
    if (is_moment moment && is_number 10 value) && (nat_le 1 (length object) && nat_le 1 (length metric))
    then Some (record { moment = number_of moment; object = object; metric = metric; value = number_of value })
    else None
event_of_words _ = None

-- What a line of at most `MOST_LINE` bytes says; none where it hasn't the form.
abbrev pub event_line : List ℕ → Option LineEvent
event_line line = if nat_le (length line) MOST_LINE then event_of_words (words_of line) else None

-- The names of an object and a metric, and both with the space between. That of the object has none.
pub record AreNames (object metric names : List ℕ) : Type 0 where
  pub word : All (λ b. b ≢ 32) object
  pub joined : names ≡ object ++ 32 ∷ metric
