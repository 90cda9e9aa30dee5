-- What bodies ask for, by a table.
use Rattle.std.specs.Prelude.{ℕ, Bool, true, false, ◌&&◌, List, [], ◌∷◌, if◌then◌else◌}
use Rattle.std.specs.Str.{bytes_eq}
use Rattle.pm_history.specs.declared.entry.Side.{Side}
use Rattle.pm_history.specs.declared.entry.Side.TheVariants.{Job, Monitor}
use Rattle.pm_history.specs.Terms.{Terms}

pub record MeaningState : Type 0 where
  pub side : Side
  pub body : List ℕ
  pub terms : Terms

pub record BookState : Type 0 where
  pub meanings : List MeaningState
  pub otherwise : Terms

abbrev pub same_side : Side → Side → Bool
same_side Job Job = true
same_side Monitor Monitor = true
same_side Job Monitor = false
same_side Monitor Job = false

-- Whether it is what this body asks for.
abbrev pub is_meaning_of : Side → List ℕ → MeaningState → Bool
is_meaning_of side body meaning = same_side meaning.side side && bytes_eq meaning.body body

-- The terms of the first meaning of a body, or else those.
abbrev pub terms_among : List MeaningState → Terms → Side → List ℕ → Terms
terms_among [] otherwise side body = otherwise
terms_among (m ∷ ms) otherwise side body = if is_meaning_of side body m then m.terms else terms_among ms otherwise side body

-- What a body asks for.
abbrev pub terms_in : BookState → Side → List ℕ → Terms
terms_in book side body = terms_among book.meanings book.otherwise side body
