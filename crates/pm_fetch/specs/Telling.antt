-- How the notices of an input are told (this project's own).
use Rattle.std.specs.Prelude.{◌≡◌, ◌⊎◌, ◌+◌, ◌<◌, ◌≤◌, ℕ, Bool, true, false, List, [], ◌∷◌, ◌++◌, length, Some, None, Result, Ok, Err}
use Rattle.pm_base.specs.Lines.{MOST_LINE}
use Rattle.pm_outside.specs.declared.feed.TheConstants.{MOST_READ}
use Rattle.pm_collect.specs.declared.collector.Collector.{Collector}
use Rattle.pm_collect.specs.Call.{Call, Told}
use Rattle.pm_collect.specs.Told.{told_by_notice}
use Rattle.pm_collect.specs.Names.{IsAfter}
use Rattle.pm_fetch.specs.declared.fetch_end.FetchEnd.{FetchEnd}
use Rattle.pm_fetch.specs.declared.fetch_end.FetchEnd.TheVariants.{NoNotice, TooLong, ReadFault, Memory}

-- The answer to a notice, which is the line of this number.
abbrev pub Tells : List ℕ → ℕ → Result (Unit {0}) FetchEnd → Type 0
Tells notice line (Ok done) = (names : List (List ℕ)) × (told_by_notice notice ≡ Some names)
Tells notice line (Err (NoNotice at)) = (at ≡ line) × (told_by_notice notice ≡ None)
Tells notice line (Err Memory) = Unit {0}
Tells notice line (Err end) = ⊥

-- The reading of the notices ends early so.
abbrev pub IsEarly : FetchEnd → Type 0
IsEarly (NoNotice line) = Unit {0}
IsEarly TooLong = Unit {0}
IsEarly ReadFault = Unit {0}
IsEarly Memory = Unit {0}
IsEarly end = ⊥
