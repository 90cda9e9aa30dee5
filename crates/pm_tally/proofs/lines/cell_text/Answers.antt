use Rattle.std.proofs.Common.{◌≡◌, ◌<◌, ◌*◌, ◌++◌, ℕ, List, length, Some, OnOk, sym, ◌∙◌, ap, subst, arith}
use Rattle.pm_meas.specs.Cell.{reduced}
use Rattle.pm_meas.specs.declared.kind.Reduce.{Reduce}
use Rattle.pm_tally.specs.Tally.{value_line, slot_line}
use Rattle.pm_tally.proofs.LinesLemmas.{slot_line-some}
use Rattle.pm_tally.proofs.lines.cell_text.Goals as goal

pub returns-in-Some : goal.returns-in-Some
returns-in-Some c = λ s values at cell.
    let reads : Some c.in-Some.value ≡ reduced s.reduce values = c.in-Some.ensures.fold values cell ∙ ap (λ (r : Reduce). reduced r values) (c.reduce.ensures s at) in
    let some : 0 < length values = omega (arith, c.if-cell-eq0.false, ap (λ v. v.n) cell) in
    let line : value_line (c.args.of_tick * 60) s (Some c.in-Some.value) ≡ slot_line c.args.of_tick s values =
    ap (λ (m : ℕ). value_line m s (Some c.in-Some.value)) (omega arith) ∙ ap (value_line (60 * c.args.of_tick) s) reads ∙ sym (slot_line-some c.args.of_tick s values some) in
    subst (λ (l : List ℕ). OnOk c.value_text.result (c.value_text.new.text.items ≡ c.args.text.now.items ++ l)) line (c.value_text.ensures s (c.names.ensures s at))
