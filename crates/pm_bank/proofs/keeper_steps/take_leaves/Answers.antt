use Rattle.std.proofs.Common.{rules, arith, ◌≡◌, List, refl, sym, ap, ◌∙◌, subst}
use mathlib.Core.Option.{some}
use lib.ListN.{get_elem?}
use Rattle.atomic_table.specs.Table.Act.{keeps}
use Rattle.pm_meas.specs.declared.cell.Cell.{Cell}
use Rattle.pm_bank.specs.Steps.{keeping, emptied, TakesLeaves}
use Rattle.pm_bank.proofs.Empties.{empties, all_counted}
use Rattle.pm_bank.proofs.keeper_steps.take_leaves.Goals as goal

pub swap-requires : goal.swap-requires
swap-requires g c =
    let v = c.args.seat.now.me.0 in
    let slots = c.args.table.now.shared.key in
    let cells : List Cell = c.args.tally.now in
    let taking = c.requires.taking in (
      search rules,
      (let w = c.requires.table.1 in omega (arith, w)),
      λ s kept _ at _.
          let at' : get_elem? s.views c.args.seat.now.id ≡ some (keeping v.numbers v.entries v.told v.taken) = at ∙ ap some taking.keeper_is in (
            emptied cells v,
            keeps,
            tt,
            empties slots s.words s.views kept c.args.seat.now.id v.numbers v.entries v.told v.taken c.args.ended taking.last taking.untaken at' taking.sealed c.requires.all cells c.requires.size c.requires.found,
            (subst (λ (l : List Cell). TakesLeaves l v (emptied cells v)) (sym c.requires.cells) (refl, all_counted slots s.words s.views kept c.args.seat.now.id v.numbers v.entries v.told v.taken c.args.ended taking.last taking.untaken at' taking.sealed c.requires.all cells c.requires.size c.requires.found), refl),
          ),
    )
