use Rattle.std.proofs.Common.{rules, arith, ◌≡◌, ℕ, min, ◌-◌, sym, ap, ◌∙◌}
use Rattle.std.specs.Prelude.{slice_index}
use mathlib.Core.Option.{some}
use lib.ListN.{get_elem?}
use Rattle.atomic_table.specs.Table.Act.{keeps}
use Rattle.pm_bank.specs.Words.{cell_word}
use Rattle.pm_bank.specs.Steps.{passing, lays}
use Rattle.pm_bank.proofs.FoldLemmas.{close-lowers}
use Rattle.pm_bank.proofs.Lays.{lays_one}
use Rattle.pm_bank.proofs.pass_steps.lower.Goals as goal

pub fetch_min-requires : goal.fetch_min-requires
fetch_min-requires g c =
    let v = c.args.seat.now.me.0 in
    let slots = c.args.table.now.shared.key in
    let visit = c.requires.visit in
    let some_hits = visit.1 in (
      search rules,
      (let w = c.requires.table.1 in let l = c.requires.slot in omega (arith, w, l)),
      λ s kept _ at _.
          let at' : get_elem? s.views c.args.seat.now.id ≡ some (passing v.numbers v.since v.quota c.args.epoch v.count v.parts v.entries) = at ∙ ap some visit.0 in
          let n : ℕ = slice_index s.words (cell_word c.args.epoch 3 c.args.slot) in (
            lays 3 c.args.slot (4294967295 - c.args.least) (passing v.numbers v.since v.quota c.args.epoch v.count v.parts v.entries),
            keeps,
            tt,
            lays_one slots s.words s.views kept c.args.seat.now.id v.numbers v.since v.quota c.args.epoch v.count v.parts v.entries 3 c.args.slot (4294967295 - c.args.least) (min n c.args.least) (λ none. omega (arith, none, some_hits)) (omega arith) c.requires.slot at' (λ m is. close-lowers n m c.args.least is (search rules)),
            (λ i. (lays (c.requires.laid.0 i) (c.requires.laid.1 i) (c.requires.laid.2 i) (sym visit.0 i), c.args.seat.now.me.1)),
          ),
    )
