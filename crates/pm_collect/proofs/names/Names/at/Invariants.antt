use Rattle.std.proofs.Common.{◌≡◌, drop}
use Rattle.pm_collect.proofs.names.Names.at.Given as goal

abbrev pub invariant-loop-before : goal.invariant-loop-before
invariant-loop-before l = l.rest ≡ drop l._before l.self.held.entries
