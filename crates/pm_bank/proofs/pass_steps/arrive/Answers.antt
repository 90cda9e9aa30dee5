use Rattle.std.proofs.Common.{rules, arith, ◌≡◌, ◌/◌, [], refl, ap, ◌∙◌}
use Rattle.std.specs.Prelude.{slice_index}
use mathlib.Core.Option.{some}
use lib.ListN.{get_elem?}
use Rattle.atomic_table.specs.Table.Act.{keeps}
use Rattle.pm_bank.specs.Steps.{passing, arrived}
use Rattle.pm_bank.proofs.Arrives.{arrives, arrives_late}
use Rattle.pm_bank.proofs.pass_steps.arrive.Goals as goal

pub fetch_add-found-requires : goal.fetch_add-found-requires
fetch_add-found-requires c =
    let v = c.args.seat.now.me.0 in
    let slots = c.args.table.now.shared.key in (
      search rules,
      (let w = c.requires.table.1 in omega (arith, w)),
      λ s kept _ at _.
          let at' : get_elem? s.views c.args.seat.now.id ≡ some (passing v.numbers v.since v.quota 0 0 [] v.entries) = at ∙ ap some c.requires.idle in
          let late = arrives_late slots s.words s.views kept c.args.seat.now.id v.numbers v.since v.quota v.entries at' in (
            arrived (slice_index s.words 0 / 4294967296) c.args.count v,
            keeps,
            tt,
            arrives slots s.words s.views kept c.args.seat.now.id v.numbers v.since v.quota v.entries at' c.args.count c.requires.quota,
            ((refl, late.0, late.1), refl),
          ),
    )
