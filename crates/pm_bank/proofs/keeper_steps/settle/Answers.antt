use Rattle.std.proofs.Common.{rules, arith, ◌≡◌, ℕ, List, set, refl, sym, ap, ◌∙◌, subst}
use mathlib.Core.Option.{some}
use lib.ListN.{get_elem?}
use Rattle.atomic_table.specs.Table.Act.{keeps}
use Rattle.pm_bank.specs.declared.view.View.{View}
use Rattle.pm_bank.specs.Rule.{Kept}
use Rattle.pm_bank.specs.Steps.{keeping, settled, Settles}
use Rattle.pm_bank.proofs.TotalLemmas.{set_self}
use Rattle.pm_bank.proofs.Settles.{settles, settle_tells}
use Rattle.pm_bank.proofs.keeper_steps.settle.Goals as goal

pub load-requires : goal.load-requires
load-requires c =
    let v = c.args.seat.now.me.0 in
    let slots = c.args.table.now.shared.key in (
      search rules,
      (let w = c.requires.table.1 in omega (arith, w)),
      λ s kept _ at _.
          let at' : get_elem? s.views c.args.seat.now.id ≡ some (keeping v.numbers v.entries v.told v.taken) = at ∙ ap some c.requires.keeper in (
            settled v,
            keeps,
            tt,
            subst (λ (y : List ℕ). Kept slots y (set s.views c.args.seat.now.id (settled v))) (sym (set_self s.words 0)) (settles slots s.words s.views kept c.args.seat.now.id v.numbers v.entries v.told v.taken at'),
            (subst (λ (u : View). Settles u (settled v)) (sym c.requires.keeper) (settle_tells slots s.words s.views kept c.args.seat.now.id v.numbers v.entries v.told v.taken at'), refl),
          ),
    )
