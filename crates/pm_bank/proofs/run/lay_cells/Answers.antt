use Rattle.std.proofs.Common.{arith, ◌≡◌, ◌+◌, ◌<◌, List, [], length, get_or, set, sym, ap, ◌∙◌, subst}
use Rattle.atomic_table.specs.declared.shared.Seat.{Seat}
use Rattle.atomic_table.specs.Table.{Me}
use Rattle.pm_meas.specs.declared.cell.Cell.{Cell}
use Rattle.pm_meas.specs.Cell.{cell_of}
use Rattle.pm_bank.specs.declared.view.View.{View}
use Rattle.pm_bank.specs.declared.view.Part.{Part}
use Rattle.pm_bank.specs.declared.view.Hit.{Hit}
use Rattle.pm_bank.specs.Run.{IsLaidUpTo, lays_cell}
use Rattle.pm_bank.specs.Steps.{passing}
use Rattle.pm_bank.proofs.LaidLemmas.{laid_now, laid_one, passed_one}
use Rattle.pm_bank.proofs.run.lay_cells.Goals.{then-cell-ne0, else-cell-ne0}
use Rattle.pm_bank.proofs.run.lay_cells.Goals as goal

pub loop-s-preserved : goal.loop-s-preserved
loop-s-preserved g c =
    let so_far = c.loop-s.invariant in
    let s = c.loop-s.s in
    let cells = c.loop-s.cells in
    let v = c.args.seat.now.me.0 in
    let hs : List Hit = g.H.Hits.hits in
    let ps = c.loop-s.seat.me.0.parts in
    let size = so_far.1 in
    let blank : Cell = record { n = 0; sum = 0; max = 0; min = 0 } in
    let lt = c.loop-s-test.true in
    let inside : s < length cells = omega (arith, size, lt) in
    elim c.if-cell-ne0.branch [
      | then-cell-ne0 w ↦
          let me_is : c.if-cell-ne0.seat.me ≡ (passing v.numbers v.since v.quota c.args.epoch v.count (laid_now s hs ps cells inside so_far.3 blank) v.entries, c.args.seat.now.me.1) =
          ap (λ (x : Seat (Unit {0}) View). x.me) w.seat-is ∙ w.lay_cell.ensures.1 ∙ ap (λ (y : Me (Unit {0}) View). (lays_cell s (get_or cells s blank) y.0, y.1)) so_far.2 in
          let parts_are = ap (λ (y : Me (Unit {0}) View). y.0.parts) me_is in
          let cells_are : c.if-cell-ne0.cells ≡ set cells s (cell_of []) = w.cells-is ∙ ap (set cells s) w.empty.ensures in (
            ap (λ (x : Seat (Unit {0}) View). x.table_id) w.seat-is ∙ w.lay_cell.ensures.0 ∙ so_far.0,
            c.if-cell-ne0.auto.cells ∙ size,
            me_is ∙ sym (ap (λ (l : List Part). (passing v.numbers v.since v.quota c.args.epoch v.count l v.entries, c.args.seat.now.me.1)) parts_are),
            subst (λ (y : List Part × List Cell). IsLaidUpTo (s + 1) hs y.0 y.1) (λ i. (sym parts_are i, sym cells_are i)) (laid_one s hs ps cells inside so_far.3 blank),
          )
      | else-cell-ne0 w ↦
          let me_is = ap (λ (x : Seat (Unit {0}) View). x.me) w.seat-is in
          let parts_are = ap (λ (y : Me (Unit {0}) View). y.0.parts) me_is in (
            ap (λ (x : Seat (Unit {0}) View). x.table_id) w.seat-is ∙ so_far.0,
            c.if-cell-ne0.auto.cells ∙ size,
            me_is ∙ so_far.2 ∙ sym (ap (λ (l : List Part). (passing v.numbers v.since v.quota c.args.epoch v.count l v.entries, c.args.seat.now.me.1)) parts_are),
            subst (λ (y : List Part × List Cell). IsLaidUpTo (s + 1) hs y.0 y.1) (λ i. (sym parts_are i, sym w.cells-is i)) (passed_one s hs ps cells inside so_far.3 blank w.if-cell-ne0.false),
          )
    ]
