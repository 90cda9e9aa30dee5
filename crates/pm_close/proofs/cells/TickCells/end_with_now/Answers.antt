use Rattle.std.proofs.Common.{arith, subst, sym}
use Rattle.pm_close.proofs.StandLemmas.{Reaches, stand-forgotten, reaches-added, reaches-past, stand-now}
use Rattle.pm_close.proofs.cells.TickCells.end_with_now.Goals as goal
use Rattle.pm_close.proofs.cells.TickCells.end_with_now.Goals.{then-from-open_tick, else-from-open_tick}

pub returns-clause-stands : goal.returns-clause-stands
returns-clause-stands c =
    λ slots h m is at row old.
    let forgot = c.forget_before.ensures in
    let added = c.add_blank.ensures in
    let kept = stand-forgotten slots h c.args.from c.args.self.now c.forget_before.new.self forgot.slots forgot.first
    forgot.ticks forgot.cells old in
    let reach = old.reach in
    let reaches : Reaches slots h c.args.from c.if-from-open_tick.self =
    elim c.if-from-open_tick.branch [
      | then-from-open_tick w ↦
          let more = w.add.ensures in
          let needed = w.if-from-open_tick.true in
          subst (Reaches slots h c.args.from) (sym w.self-is)
          (reaches-added slots h c.args.from c.forget_before.new.self w.add.new.self c.args.row.now
          (omega (arith, reach, needed)) row more.slots more.first more.ticks more.cells kept)
      | else-from-open_tick w ↦
          let later = w.if-from-open_tick.false in
          subst (Reaches slots h c.args.from) (sym w.self-is)
          (reaches-past slots h c.args.from c.forget_before.new.self (omega (arith, reach, later)) kept)
    ] in
    let now = c.requires.later in
    let from = c.requires.from in
    let near = reaches.no_further in
    stand-now slots h m c.args.from _ c.if-from-open_tick.self c.add_blank.new.self is
    (omega (arith, at, reach, now, from, near)) added.slots added.first added.ticks added.cells reaches
