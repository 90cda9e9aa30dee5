use Rattle.std.proofs.Common.{◌≡◌, length}
use Rattle.pm_bank.specs.Run.{IsClearedUpTo}
use Rattle.pm_bank.proofs.taking.take_slots.Given as goal

abbrev pub invariant-loop-s : goal.invariant-loop-s
invariant-loop-s l =
    (l.seat.table_id ≡ l.initial.seat.table_id)
    × (length l.tally ≡ length l.initial.tally)
    × (l.seat.me.1 ≡ l.initial.seat.me.1)
    × IsClearedUpTo l.s l.ended l.initial.seat.me.0 l.seat.me.0 l.tally
