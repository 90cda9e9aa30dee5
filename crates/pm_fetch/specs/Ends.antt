-- The end of a run whose store isn't opened (this project's own).
use Rattle.pm_collect.specs.declared.error.CollectError.{CollectError}
use Rattle.pm_collect.specs.declared.error.CollectError.TheVariants as collect
use Rattle.pm_fetch.specs.declared.fetch_end.FetchEnd.{FetchEnd}
use Rattle.pm_fetch.specs.declared.fetch_end.FetchEnd.TheVariants.{StoreFault, Foreign, Garbled, Memory}

-- The end for this reason.
abbrev pub end_of : CollectError → FetchEnd
end_of collect.StoreFault = StoreFault
end_of collect.Foreign = Foreign
end_of (collect.Garbled offset) = Garbled offset
end_of error = Memory
