-- The exit statuses of the process (this project's own).
use Rattle.std.specs.Prelude.{ℕ}
use Rattle.pm_top.specs.declared.status.Status.{Status}
use Rattle.pm_top.specs.declared.status.Status.TheVariants.{Done, Usage, BadInput, ReadFault, WriteFault, StoreFault, Foreign, Garbled, StoreFull, LinkFault, BadPeer, BadInventory, Memory}

abbrev pub exit_of : Status → ℕ
exit_of Done = 0
exit_of Usage = 1
exit_of (BadInput place code) = 2
exit_of ReadFault = 3
exit_of WriteFault = 4
exit_of StoreFault = 5
exit_of Foreign = 6
exit_of (Garbled offset) = 6
exit_of (StoreFull length' need) = 8
exit_of LinkFault = 9
exit_of (BadPeer place code) = 10
exit_of (BadInventory line code) = 11
exit_of Memory = 12
