-- What a line of ratios says (this project's own).
use Rattle.std.specs.Prelude.{◌≡◌, ◌<◌, ◌&&◌, ℕ, Bool, true, false, List, [], ◌∷◌, ◌++◌, length, map, codes, nat_le, bytes_eq, Option, Some, None, Result, Ok, Err, if◌then◌else◌}
use Rattle.std.specs.List.{list_any, list_all}
use Rattle.std.specs.Option.{option_and_then}
use Rattle.pm_base.specs.Lines.{MOST_LINE}
use Rattle.pm_base.specs.Pieces.{pieces_of, words_of}
use Rattle.pm_form.specs.Names.{job_id, measure_name}

-- A ratio: the sum of the numerators' results through the sum of the denominators'. A measurement that is named twice on one
-- side counts twice.
pub record RatioContent : Type 0 where
  pub name : List ℕ
  pub above : List (List ℕ)
  pub below : List (List ℕ)

-- The words behind the first one.
pub record RatioText : Type 0 where
  pub name : List ℕ
  pub above : List ℕ
  pub below : List ℕ

-- Four words, of which `ratio` is the first.
abbrev pub words_in : List (List ℕ) → Option RatioText
words_in (word ∷ name ∷ above ∷ below ∷ []) =
    if bytes_eq word (codes "ratio") then Some (record { name = name; above = above; below = below }) else None
words_in _ = None

-- One to eight names of measurements.
abbrev pub are_measures : List (List ℕ) → Bool
are_measures names = nat_le 1 (length names) && nat_le (length names) 8 && list_all measure_name names

-- The name is that of a job, and `+` parts the names of the measurements.
abbrev pub ratio_in : RatioText → Option RatioContent
ratio_in text =
    if job_id text.name && are_measures (pieces_of 43 text.above) && are_measures (pieces_of 43 text.below)
    then Some (record { name = text.name; above = pieces_of 43 text.above; below = pieces_of 43 text.below })
    else None

-- What a line `ratio NAME NUM DEN` of at most 2,048 bytes says; none where it hasn't this form.
abbrev pub ratio_of : List ℕ → Option RatioContent
ratio_of line = if nat_le (length line) MOST_LINE then option_and_then ratio_in (words_in (words_of line)) else None

-- A ratio of this name was given.
abbrev pub is_named : List RatioContent → List ℕ → Bool
is_named ratios name = list_any (λ (r : RatioContent). bytes_eq r.name name) ratios
