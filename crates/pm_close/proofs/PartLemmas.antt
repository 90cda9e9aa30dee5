-- Values of measures, one by one, are those of the quantities that they read.
use Rattle.std.proofs.Common.{◌≡◌, ℕ, List, [], ◌∷◌, ◌++◌, length, map, slice_index_or, Option, None, refl, sym, subst, ◌∙◌, arith, inl, inr}
use Rattle.std.proofs.lemmas.Bool.{cases_lt}
use Rattle.std.proofs.lemmas.List.{get_or-map, get_or_push, get_or_append_left, length-append, length-map, ext_get_or}
use Rattle.pm_meas.specs.declared.cell.Cell.{Cell}
use Rattle.pm_inventory.specs.Inventory.{SlotKey}
use Rattle.pm_history.specs.declared.entry.Side.{Side}
use Rattle.pm_history.specs.History.{History}
use Rattle.pm_history.specs.Terms.{Terms}
use Rattle.pm_history.specs.Standing.{Making}
use Rattle.pm_history.specs.Value.{measured_value}
use Rattle.pm_close.specs.declared.measure.Measure.{Measure}
use Rattle.pm_close.specs.declared.cells.TickCells.{TickCells}
use Rattle.pm_close.specs.declared.marks.Marks.{Marks}
use Rattle.pm_close.specs.Marks.{PeriodStands}
use Rattle.pm_close.specs.Values.{KnowsCells, IsValue}
use Rattle.pm_close.specs.Parts.{Quantity, no_quantity, measure_at, ReadEach, AreValues, values_over}

pub AreValues-more : (kept : TickCells) (row : List Cell) (measures : List Measure) (period : Marks) (answers : List (Option ℕ))
    (answer : Option ℕ) (k : ℕ)
    → length answers ≡ k
    → IsValue kept row (measure_at measures k).slot period (measure_at measures k).reduce answer
    → AreValues kept row measures period answers → AreValues kept row measures period (answers ++ answer ∷ [])
AreValues-more kept row measures period answers answer k long is each j lt =
    let more = length-append answers (answer ∷ []) in
    elim (cases_lt j (length answers)) [
      | inl below ↦
          subst (IsValue kept row (measure_at measures j).slot period (measure_at measures j).reduce)
          (sym (get_or_append_left answers (answer ∷ []) None j below)) (each j below)
      | inr past ↦
          let at : k ≡ j = omega (arith, long, more, lt, past) in
          let last = get_or_push answers answer None j (omega (arith, long, at)) in
          subst (IsValue kept row (measure_at measures j).slot period (measure_at measures j).reduce) (sym last)
          (subst (λ i. IsValue kept row (measure_at measures i).slot period (measure_at measures i).reduce answer) at is)
    ]

pub values-are : (kept : TickCells) (row : List Cell) (measures : List Measure) (period : Marks) (answers : List (Option ℕ))
    (terms : Side → List ℕ → Terms) (slots : List SlotKey) (h : History) (w : Making) (quantities : List Quantity)
    (granularity end : ℕ)
    → AreValues kept row measures period answers → length answers ≡ length measures
    → KnowsCells slots h kept row → ReadEach slots measures quantities → PeriodStands terms h w granularity end period
    → answers ≡ values_over terms h w quantities period.begin granularity
values-are kept row measures period answers terms slots h w quantities granularity end each as_many knows reads stand =
    let value : Quantity → Option ℕ = λ (q : Quantity). measured_value terms h w q.object q.metric period.begin granularity in
    let long = length-map quantities value in
    let same = reads.as_many in
    ext_get_or None answers (map value quantities) (omega (arith, long, same, as_many)) (λ k lt.
    let q = slice_index_or quantities k no_quantity in
    let read = reads.each k (omega (arith, lt, as_many)) in
    each k lt terms slots h w (record { object = q.object; metric = q.metric.number }) q.metric granularity end knows
    (read.slot _) refl read.reduce stand
    ∙ sym (get_or-map value quantities k no_quantity None (omega (arith, lt, as_many, same))))
