-- The text of a status (this project's own).
use Rattle.std.specs.Prelude.{ℕ, List, ◌∷◌, ◌++◌, codes}
use Rattle.std.specs.Fmt.{decimal}
use Rattle.pm_base.specs.Code.{code_name}
use Rattle.pm_top.specs.Exit.{exit_of}
use Rattle.pm_top.specs.declared.status.Status.{Status}
use Rattle.pm_top.specs.declared.status.Status.TheVariants.{Done, Usage, BadInput, ReadFault, WriteFault, StoreFault, Foreign, Garbled, StoreFull, LinkFault, BadPeer, BadInventory, Memory}

-- The name of a status, and what it tells: the place and the code of what is refused, an offset, or a length and the one that is needed.
abbrev pub status_name : Status → List ℕ
status_name Done = codes " Done"
status_name Usage = codes " Usage"
status_name (BadInput place code) = codes " BadInput at " ++ decimal place ++ 32 ∷ code_name code
status_name ReadFault = codes " ReadFault"
status_name WriteFault = codes " WriteFault"
status_name StoreFault = codes " StoreFault"
status_name Foreign = codes " Foreign"
status_name (Garbled offset) = codes " Garbled at " ++ decimal offset
status_name (StoreFull length' need) = codes " StoreFull " ++ decimal length' ++ 32 ∷ decimal need
status_name LinkFault = codes " LinkFault"
status_name (BadPeer place code) = codes " BadPeer at " ++ decimal place ++ 32 ∷ code_name code
status_name (BadInventory line code) = codes " BadInventory at " ++ decimal line ++ 32 ∷ code_name code
status_name Memory = codes " Memory"

abbrev pub status_text : Status → List ℕ
status_text status = codes "status " ++ decimal (exit_of status) ++ status_name status
