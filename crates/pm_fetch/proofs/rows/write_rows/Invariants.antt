use Rattle.std.proofs.Common.{◌≡◌}
use Rattle.pm_fetch.proofs.rows.write_rows.Given as goal

abbrev pub invariant-loop-name : goal.invariant-loop-name
invariant-loop-name g l =
    (goal.iterator-loop-name g).can_next l.name-iterator × (goal.iterator-loop-name g).is_finite l.name-iterator
    × (g.K.Sink.faults l.output ≡ g.K.Sink.faults l.fn.output)
