-- How a run of the collector shows in the status of the program (this project's own).
use Rattle.std.specs.Prelude.{Bool, true, false}
use Rattle.pm_base.specs.declared.code.Code.TheVariants.{C1, Z1}
use Rattle.pm_outside.specs.declared.feed.TheConstants.{MOST_READ}
use Rattle.pm_fetch.specs.declared.fetch_end.FetchEnd.{FetchEnd}
use Rattle.pm_fetch.specs.declared.fetch_end.FetchEnd.TheVariants as fetch
use Rattle.pm_top.specs.declared.status.Status.{Status}
use Rattle.pm_top.specs.declared.status.Status.TheVariants.{Done, BadInput, ReadFault, WriteFault, StoreFault, Foreign, Garbled, StoreFull, LinkFault, BadPeer, Memory}

-- The status of the end of a run of the collector.
abbrev pub status_of_collect : FetchEnd → Status
status_of_collect fetch.Done = Done
status_of_collect (fetch.NoNotice line) = BadInput line C1
status_of_collect fetch.TooLong = BadInput MOST_READ Z1
status_of_collect fetch.ReadFault = ReadFault
status_of_collect fetch.WriteFault = WriteFault
status_of_collect fetch.StoreFault = StoreFault
status_of_collect fetch.Foreign = Foreign
status_of_collect (fetch.Garbled offset) = Garbled offset
status_of_collect (fetch.StoreFull length' need) = StoreFull length' need
status_of_collect fetch.LinkFault = LinkFault
status_of_collect (fetch.BadPeer place code) = BadPeer place code
status_of_collect fetch.Memory = Memory

-- The link failed.
abbrev pub is_link_fault : Status → Bool
is_link_fault LinkFault = true
is_link_fault _ = false
