use Rattle.std.proofs.Common.{rules, arith, ◌≡◌, ◌+◌, ◌/◌, [], refl, ap, ◌∙◌}
use Rattle.std.specs.Prelude.{slice_index}
use mathlib.Core.Option.{some}
use lib.ListN.{get_elem?}
use Rattle.atomic_table.specs.Table.Act.{keeps}
use Rattle.pm_bank.specs.Steps.{passing, glanced}
use Rattle.pm_bank.proofs.Arrives.{arrives_late, glances}
use Rattle.pm_bank.proofs.pass_steps.glance.Goals as goal

pub load-found-requires : goal.load-found-requires
load-found-requires c =
    let v = c.args.seat.now.me.0 in
    let slots = c.args.table.now.shared.key in (
      search rules,
      (let w = c.requires.table.1 in omega (arith, w)),
      λ s kept _ at _.
          let at' : get_elem? s.views c.args.seat.now.id ≡ some (passing v.numbers v.since v.quota 0 0 [] v.entries) = at ∙ ap some c.requires.idle in
          let late = arrives_late slots s.words s.views kept c.args.seat.now.id v.numbers v.since v.quota v.entries at' in (
            glanced (slice_index s.words 0 / 4294967296) v,
            keeps,
            tt,
            glances slots s.words s.views kept c.args.seat.now.id v.numbers v.since v.quota v.entries at' (record v.numbers { looks = v.numbers.looks + 1; seen = slice_index s.words 0 / 4294967296 }) c.requires.quota,
            ((refl, late.0, late.1), refl),
          ),
    )
