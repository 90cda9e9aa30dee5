-- Maps whose keys are names of files, and the places that they have there.
use Rattle.std.specs.Prelude.{◌≡◌, ℕ, ◌&&◌, ◌||◌, Bool, not, List, bytes_eq, cond, Vec, Option, Some, is_some}
use Rattle.std.specs.declared.alloc.Global.{Global}
use Rattle.std.specs.BTreeMap.{BTreeMap, get_by}
use Rattle.std.specs.Cmp.Lexicographic.{slice_cmp}
use Rattle.std.specs.Ordering.{nat_cmp}
use Rattle.pm_collect.specs.declared.names.Place.{Place}
use Rattle.pm_collect.specs.Call.{is_one_of}

-- The map has this name.
abbrev pub has : {X : Type 0} → BTreeMap (Vec ℕ Global) X → List ℕ → Bool
has names name = is_some (get_by (λ k. slice_cmp nat_cmp name k.items) names)

-- What the map has at this name.
abbrev pub place_of : BTreeMap (Vec ℕ Global) Place → List ℕ → Option Place
place_of names name = get_by (λ k. slice_cmp nat_cmp name k.items) names

-- The one has the names of the other, and these as far as they aren't held.
abbrev pub HasMore : {X : Type 0} → BTreeMap (Vec ℕ Global) X → List (List ℕ) → BTreeMap (Vec ℕ Global) Unit → BTreeMap (Vec ℕ Global) Unit → Type 0
HasMore held told old new = (name : List ℕ) → has new name ≡ has old name || (is_one_of told name && not (has held name))

-- The one has the names of the other, and this.
abbrev pub HasOneMore : {X : Type 0} → List ℕ → BTreeMap (Vec ℕ Global) X → BTreeMap (Vec ℕ Global) X → Type 0
HasOneMore one old new = (name : List ℕ) → has new name ≡ bytes_eq one name || has old name

-- The one has the names of the other.
abbrev pub HasSame : {X : Type 0} → BTreeMap (Vec ℕ Global) X → BTreeMap (Vec ℕ Global) X → Type 0
HasSame old new = (name : List ℕ) → has new name ≡ has old name

-- The one has the places of the other, and this one at this name.
abbrev pub HasPlace : List ℕ → Place → BTreeMap (Vec ℕ Global) Place → BTreeMap (Vec ℕ Global) Place → Type 0
HasPlace one place old new = (name : List ℕ) → place_of new name ≡ cond (bytes_eq one name) (Some place) (place_of old name)

-- The one has the places of the other.
abbrev pub HasSamePlaces : BTreeMap (Vec ℕ Global) Place → BTreeMap (Vec ℕ Global) Place → Type 0
HasSamePlaces old new = (name : List ℕ) → place_of new name ≡ place_of old name
