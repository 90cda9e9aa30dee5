use Rattle.std.proofs.Common.{◌≡◌, ◌++◌, take, map, string_bytes}
use Rattle.pm_jobs.specs.Content.{texts}
use Rattle.pm_jobs.proofs.wanted.append_copies.Given as goal

abbrev pub invariant-loop-name : goal.invariant-loop-name
invariant-loop-name l = texts l.all ≡ texts l.fn.all ++ map string_bytes (take l.name-index l.names)
