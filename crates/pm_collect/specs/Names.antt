-- The names that a collector has in mind, between two calls.
use Rattle.std.specs.Prelude.{◌≡◌, ℕ, true, false, List, [], ◌∷◌, map, Vec, Option, Some, None, Result, Ok, Err, MatchOption}
use Rattle.std.specs.declared.alloc.Global.{Global}
use Rattle.std.specs.Cmp.Lexicographic.{slice_cmp}
use Rattle.std.specs.Ordering.{nat_cmp, is_gt}
use Rattle.pm_notice.specs.declared.notice.FileInfo.{FileInfo}
use Rattle.pm_collect.specs.declared.error.CollectError.{CollectError}
use Rattle.pm_collect.specs.declared.error.CollectError.TheVariants.{C1, C2, Memory}
use Rattle.pm_collect.specs.declared.names.Names.{Names}
use Rattle.pm_collect.specs.Call.{Call, Told, is_held, is_wanted}
use Rattle.pm_collect.specs.Maps.{has, HasSame, HasSamePlaces, HasMore}

-- The names of files that are listed.
abbrev pub names_of : List FileInfo → List (List ℕ)
names_of files = map (λ (f : FileInfo). f.name) files

-- The names are those after these calls, where these were held at the opening.
pub record IsAfter (opening : List (List ℕ)) (calls : List Call) (names : Names) : Type 0 where
  pub held : (name : List ℕ) → has names.held name ≡ is_held opening calls name
  pub wanted : (name : List ℕ) → has names.wanted name ≡ is_wanted opening calls name

-- One call more was made.
abbrev pub Makes : Call → Names → Names → Type 0
Makes call old new = (opening : List (List ℕ)) (calls : List Call) → IsAfter opening calls old → IsAfter opening (call ∷ calls) new

-- The names that were told are those of the call.
abbrev pub MakesTold : Option (List (List ℕ)) → Names → Names → Type 0
MakesTold told old new = MatchOption told ⊥ (λ names. Makes (Told names) old new)

-- Nothing was changed that a call sees.
pub record Stays (old new : Names) : Type 0 where
  pub held : HasSamePlaces old.held new.held
  pub wanted : HasSame old.wanted new.wanted

-- These names are wanted now too, as far as they aren't held.
pub record Wants (told : List (List ℕ)) (old new : Names) : Type 0 where
  pub held : HasSamePlaces old.held new.held
  pub wanted : HasMore old.held told old.wanted new.wanted

-- The name is told by these bytes, or none is; or they are no notice.
abbrev pub TellsName : Option (List (List ℕ)) → Result (Option (Vec ℕ Global)) CollectError → Type 0
TellsName told (Ok None) = told ≡ Some []
TellsName told (Ok (Some name)) = told ≡ Some (name.items ∷ [])
TellsName told (Err C1) = told ≡ None
TellsName told (Err Memory) = Unit {0}
TellsName told (Err e) = ⊥

-- The names of these files are told by these bytes; or they are no listing.
abbrev pub TellsFiles : Option (List (List ℕ)) → Result (Vec FileInfo Global) CollectError → Type 0
TellsFiles told (Ok files) = told ≡ Some (names_of files.items)
TellsFiles told (Err C2) = told ≡ None
TellsFiles told (Err Memory) = Unit {0}
TellsFiles told (Err e) = ⊥

-- The first of the wanted names in byte order.
pub record IsFirst (names : Names) (name : List ℕ) : Type 0 where
  pub wanted : has names.wanted name ≡ true
  pub least : (other : List ℕ) → has names.wanted other ≡ true → is_gt (slice_cmp nat_cmp name other) ≡ false
