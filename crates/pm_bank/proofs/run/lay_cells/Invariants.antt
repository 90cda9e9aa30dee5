use Rattle.std.proofs.Common.{◌≡◌, length}
use Rattle.pm_bank.specs.Steps.{passing}
use Rattle.pm_bank.specs.Run.{IsLaidUpTo}
use Rattle.pm_bank.proofs.run.lay_cells.Given as goal

abbrev pub invariant-loop-s : goal.invariant-loop-s
invariant-loop-s g l =
    (l.seat.table_id ≡ l.initial.seat.table_id)
    × (length l.cells ≡ length l.initial.cells)
    × (l.seat.me ≡ (passing l.initial.seat.me.0.numbers l.initial.seat.me.0.since l.initial.seat.me.0.quota l.epoch l.initial.seat.me.0.count l.seat.me.0.parts l.initial.seat.me.0.entries, l.initial.seat.me.1))
    × IsLaidUpTo l.s g.H.Hits.hits l.seat.me.0.parts l.cells
