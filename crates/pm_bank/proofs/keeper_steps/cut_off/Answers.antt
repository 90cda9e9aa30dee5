use Rattle.std.proofs.Common.{rules, arith, ap, ◌∙◌}
use mathlib.Core.Option.{some}
use Rattle.pm_bank.proofs.Hires.{hires_one}
use Rattle.pm_bank.proofs.keeper_steps.cut_off.Goals as goal

pub split_seat-requires : goal.split_seat-requires
split_seat-requires g c =
    let v = c.args.seat.now.me.0 in (
      search rules,
      (let w = c.requires.table.1 in omega (arith, w)),
      λ s kept at.
          hires_one c.args.table.now.shared.key s.words s.views kept c.args.seat.now.id g.Q.Quota.quota v.numbers v.entries v.told v.taken c.requires.keeper.1.quota_none (let r = c.requires.room in let is = c.requires.quota in omega (arith, r, is)) (at ∙ ap some c.requires.keeper.0),
    )
