use Rattle.std.proofs.Common.{rules, arith, ◌≡◌, ℕ, ◌+◌, ◌%◌, List, set, refl, sym, ap, ◌∙◌, subst}
use Rattle.std.specs.Prelude.{slice_index}
use mathlib.Core.Option.{some}
use lib.ListN.{get_elem?}
use Rattle.atomic_table.specs.Table.Act.{keeps}
use Rattle.pm_bank.specs.Rule.{Kept}
use Rattle.pm_bank.specs.Steps.{keeping, seen}
use Rattle.pm_bank.proofs.TotalLemmas.{set_self}
use Rattle.pm_bank.proofs.Looks.{sees, look_tells}
use Rattle.pm_bank.proofs.keeper_steps.look.Goals as goal

pub load-requires : goal.load-requires
load-requires c =
    let v = c.args.seat.now.me.0 in
    let slots = c.args.table.now.shared.key in (
      search rules,
      (let w = c.requires.table.1 in omega (arith, w)),
      λ s kept _ at _.
          let at' : get_elem? s.views c.args.seat.now.id ≡ some (keeping v.numbers v.entries v.told v.taken) = at ∙ ap some c.requires.keeper in
          let n : ℕ = slice_index s.words (1 + c.args.ended % 2) in
          let tells = look_tells slots s.words s.views kept c.args.seat.now.id v.numbers v.entries v.told v.taken c.args.ended c.requires.ended.0 c.requires.ended.1 at' in (
            seen n v,
            keeps,
            tt,
            subst (λ (y : List ℕ). Kept slots y (set s.views c.args.seat.now.id (seen n v))) (sym (set_self s.words (1 + c.args.ended % 2))) (sees slots s.words s.views kept c.args.seat.now.id v.numbers v.entries v.told v.taken c.args.ended c.requires.ended.0 c.requires.ended.1 at' c.requires.ended.2),
            ((refl, tells.0, tells.1, tells.2), refl),
          ),
    )
