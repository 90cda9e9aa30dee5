use Rattle.std.proofs.Common.{rules, arith, set, sym, ap, ◌∙◌, subst}
use mathlib.Core.Option.{some}
use Rattle.atomic_table.proofs.Lists.{set_else}
use Rattle.pm_bank.specs.declared.view.View.{View}
use Rattle.pm_bank.specs.Rule.{Kept}
use Rattle.pm_bank.specs.Steps.{meets, spent}
use Rattle.pm_bank.proofs.Meets.{meets_one}
use Rattle.pm_bank.proofs.keeper_steps.absorb.Goals as goal

pub join_seat-requires : goal.join_seat-requires
join_seat-requires c =
    let v = c.args.seat.now.me.0 in
    let p = c.args.pass.me.0 in
    let slots = c.args.table.now.shared.key in (
      search rules,
      search rules,
      c.requires.pass.0,
      (let w = c.requires.table.2 in omega (arith, w)),
      λ s kept at apart there.
          subst (λ (u : View). Kept slots s.words (set (set s.views c.args.seat.now.id (meets v u)) c.args.pass.id spent)) (sym c.requires.pass.1)
          (meets_one slots s.words s.views kept c.args.seat.now.id v.numbers v.entries v.told v.taken c.requires.keeper.1 (at ∙ ap some c.requires.keeper.0) c.args.pass.id p.numbers p.since p.quota p.entries c.requires.pass.2 apart
          (sym (set_else s.views c.args.seat.now.id c.args.pass.id (meets v p) apart) ∙ there ∙ ap some c.requires.pass.1)),
    )
