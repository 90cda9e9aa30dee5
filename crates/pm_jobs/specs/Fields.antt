-- The members of a tree.
use Rattle.std.specs.Prelude.{ℕ, Bool, false, List, option_map, unwrap_or}
use Rattle.serde_json.specs.Data.{Data, Members, no_members}
use Rattle.serde_json.specs.Find.{as_object}
use Rattle.pm_asked.specs.BodyReading.{has_only}

-- Those of an object; none of another tree.
abbrev pub members_in : Data → Members
members_in d = unwrap_or (as_object d) no_members

-- Whether it is an object without other keys than these.
abbrev pub is_object_with : List (List ℕ) → Data → Bool
is_object_with keys d = unwrap_or (option_map (has_only keys) (as_object d)) false
