use Rattle.std.proofs.Common.{rules, arith, ◌≡◌, ℕ, ◌+◌, ◌%◌, sym, ap, ◌∙◌}
use Rattle.std.specs.Prelude.{slice_index}
use mathlib.Core.Option.{some}
use lib.ListN.{get_elem?}
use Rattle.atomic_table.specs.Table.Act.{keeps}
use Rattle.pm_bank.specs.Words.{cell_word}
use Rattle.pm_bank.specs.Steps.{passing, lays}
use Rattle.pm_bank.proofs.FoldLemmas.{close-adds}
use Rattle.pm_bank.proofs.Lays.{lays_one}
use Rattle.pm_bank.proofs.pass_steps.add.Goals as goal

pub fetch_add-requires : goal.fetch_add-requires
fetch_add-requires g c =
    let v = c.args.seat.now.me.0 in
    let slots = c.args.table.now.shared.key in
    let visit = c.requires.visit in
    let some_hits = visit.1 in (
      search rules,
      (let w = c.requires.table.1 in let l = c.requires.slot.0 in let m = c.requires.slot.1 in omega (arith, w, l, m)),
      λ s kept _ at _.
          let at' : get_elem? s.views c.args.seat.now.id ≡ some (passing v.numbers v.since v.quota c.args.epoch v.count v.parts v.entries) = at ∙ ap some visit.0 in
          let n : ℕ = slice_index s.words (cell_word c.args.epoch c.args.word c.args.slot) in (
            lays c.args.word c.args.slot c.args.amount (passing v.numbers v.since v.quota c.args.epoch v.count v.parts v.entries),
            keeps,
            tt,
            lays_one slots s.words s.views kept c.args.seat.now.id v.numbers v.since v.quota c.args.epoch v.count v.parts v.entries c.args.word c.args.slot c.args.amount ((n + c.args.amount) % 18446744073709551616) (λ none. omega (arith, none, some_hits)) (let l = c.requires.slot.1 in omega (arith, l)) c.requires.slot.0 at' (λ m. close-adds c.args.word n m c.args.amount c.requires.slot.1),
            (λ i. (lays (c.requires.laid.0 i) (c.requires.laid.1 i) (c.requires.laid.2 i) (sym visit.0 i), c.args.seat.now.me.1)),
          ),
    )
