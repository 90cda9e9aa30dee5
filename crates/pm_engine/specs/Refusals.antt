-- When each call of an engine refuses.
use Rattle.std.specs.Prelude.{Bool, true, false, Result, Ok, Err}
use Rattle.pm_engine.specs.declared.error.OpenError.{OpenError}
use Rattle.pm_engine.specs.declared.error.OpenError.TheVariants.{StoreFault, Foreign, Garbled, StoreFull, Memory}

-- The answer is that the disk failed.
abbrev pub open_fails : {T : Type 0} → Result T OpenError → Bool
open_fails (Ok value) = false
open_fails (Err StoreFault) = true
open_fails (Err Foreign) = false
open_fails (Err (Garbled offset)) = false
open_fails (Err (StoreFull length' need)) = false
open_fails (Err Memory) = false
