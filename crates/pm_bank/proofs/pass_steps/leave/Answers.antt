use Rattle.std.proofs.Common.{rules, arith, ◌≡◌, ℕ, ◌+◌, ◌%◌, List, length, set, refl, sym, ap, ◌∙◌, subst}
use Rattle.std.specs.Prelude.{slice_index}
use mathlib.Core.Option.{some}
use lib.ListN.{get_elem?}
use Rattle.atomic_table.specs.Table.Act.{keeps}
use Rattle.pm_bank.specs.declared.view.View.{View}
use Rattle.pm_bank.specs.declared.view.Hit.{Hit}
use Rattle.pm_bank.specs.Rule.{Kept}
use Rattle.pm_bank.specs.Steps.{passing, left}
use Rattle.pm_bank.proofs.Leaves.{leaves}
use Rattle.pm_bank.proofs.pass_steps.leave.Goals as goal

pub fetch_add-requires : goal.fetch_add-requires
fetch_add-requires g c =
    let v = c.args.seat.now.me.0 in
    let hits : List Hit = g.H.Hits.hits in
    let slots = c.args.table.now.shared.key in
    let visit = c.requires.visit in
    let some_hits = visit.1 in
    let count_is = c.requires.count.0 in
    let length_is = c.requires.count.1 in
    let word : ℕ = 1 + c.args.epoch % 2 in (
      search rules,
      (let w = c.requires.table.1 in omega (arith, w)),
      λ s kept _ at _.
          let at' : get_elem? s.views c.args.seat.now.id ≡ some (passing v.numbers v.since v.quota c.args.epoch (length hits) v.parts v.entries) = at ∙ ap some visit.0 ∙ ap (λ (m : ℕ). some (passing v.numbers v.since v.quota c.args.epoch m v.parts v.entries)) (sym count_is ∙ length_is) in
          let after = leaves slots s.words s.views kept c.args.seat.now.id v.numbers v.since v.quota c.args.epoch hits v.parts v.entries (λ none. omega (arith, none, some_hits, count_is, length_is)) c.requires.filled c.requires.sound at' in (
            left hits v,
            keeps,
            tt,
            subst (λ (y : ℕ × View). Kept slots (set s.words word ((slice_index s.words word + y.0) % 18446744073709551616)) (set s.views c.args.seat.now.id (left hits y.1))) (λ i. (sym length_is i, sym visit.0 i)) after,
            refl,
          ),
    )
