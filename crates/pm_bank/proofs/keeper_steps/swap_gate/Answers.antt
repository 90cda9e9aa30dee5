use Rattle.std.proofs.Common.{rules, arith, ◌≡◌, ℕ, ◌+◌, ◌*◌, ◌<◌, ◌%◌, set, refl, sym, ap, ◌∙◌, subst}
use Rattle.std.specs.Prelude.{slice_index}
use mathlib.Core.Option.{some}
use lib.ListN.{get_elem?}
use Rattle.atomic_table.specs.Table.Act.{keeps}
use Rattle.pm_bank.specs.Rule.{Kept}
use Rattle.pm_bank.specs.Steps.{keeping, flipped}
use Rattle.pm_bank.proofs.Flips.{flips, flip_tells, flip_epoch}
use Rattle.pm_bank.proofs.keeper_steps.swap_gate.Goals as goal

pub swap-requires : goal.swap-requires
swap-requires c =
    let v = c.args.seat.now.me.0 in
    let slots = c.args.table.now.shared.key in
    let epoch_is = c.requires.epoch.0 in
    let less = c.requires.epoch.1 in
    let more : v.numbers.epoch < 4294967295 = omega (arith, epoch_is, less) in (
      search rules,
      (let w = c.requires.table.1 in omega (arith, w)),
      λ s kept _ at _.
          let at' : get_elem? s.views c.args.seat.now.id ≡ some (keeping v.numbers v.entries v.told v.taken) = at ∙ ap some c.requires.keeper.0 in
          let n : ℕ = slice_index s.words 0 in (
            flipped (n % 4294967296) v,
            keeps,
            tt,
            subst (λ (e : ℕ). Kept slots (set s.words 0 ((e + 1) * 4294967296)) (set s.views c.args.seat.now.id (flipped (n % 4294967296) v))) (sym epoch_is) (flips slots s.words s.views kept c.args.seat.now.id v.numbers v.entries v.told v.taken more c.requires.taken c.requires.keeper.1 at'),
            ((refl, flip_epoch slots s.words s.views kept c.args.seat.now.id v.numbers v.entries v.told v.taken more c.requires.taken c.requires.keeper.1 at', flip_tells slots s.words s.views kept c.args.seat.now.id v.numbers v.entries v.told v.taken more c.requires.taken c.requires.keeper.1 at'), refl),
          ),
    )
