use Rattle.std.proofs.Common.{◌≡◌, take}
use Rattle.pm_jobs.specs.State.{load_of}
use Rattle.pm_jobs.proofs.jobs.load_of.Given as goal

abbrev pub invariant-loop-item : goal.invariant-loop-item
invariant-loop-item l = l.sum ≡ load_of (take l.item-index l.item-items)
