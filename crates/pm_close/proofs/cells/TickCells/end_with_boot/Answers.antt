use Rattle.std.proofs.Common.{arith}
use Rattle.pm_close.proofs.StandLemmas.{stand-forgotten, stand-boot}
use Rattle.pm_close.proofs.cells.TickCells.end_with_boot.Goals as goal

pub returns-clause-stands : goal.returns-clause-stands
returns-clause-stands c =
    λ slots h m is later at old.
    let forgot = c.forget_before.ensures in
    let added = c.add_blank.ensures in
    let kept = stand-forgotten slots h c.args.from c.args.self.now c.forget_before.new.self forgot.slots forgot.first
    forgot.ticks forgot.cells old in
    let reach = old.reach in
    let now = c.requires.later in
    let from = c.requires.from in
    let ahead = kept.reach in
    stand-boot slots h m c.args.from _ c.forget_before.new.self c.add_blank.new.self is later
    (omega (arith, reach, now, from, ahead, at)) added.slots added.first added.ticks added.cells kept
