use Rattle.std.proofs.Common.{◌≡◌, ◌∙◌, ℕ, List, [], ◌∷◌, length, map, refl, sym, ap, arith}
use Rattle.std.proofs.lemmas.Bool.{eqb-true, eq-eqb}
use Rattle.pm_base.specs.declared.class.Class.{Class}
use Rattle.pm_history.specs.Terms.{Measured}
use Rattle.pm_inventory.specs.Inventory.{InventoryState}
use Rattle.pm_asked.specs.Asked.{Numbered, metric_of, measured_objects, measured_of}
use Rattle.pm_ready.proofs.StepLemmas.{vec_len_is}
use Rattle.pm_ready.proofs.measured.of_class.Goals as goal

some : (inventory : InventoryState) (os : List ℕ) (c : Class) (l : List Numbered) → (length (map metric_of l) ≡ 0 → ⊥)
    → (let m : Measured = record { class = c; metrics = map metric_of l; objects = measured_objects inventory os c } in m) ∷ [] ≡ measured_of inventory os c l
some inventory os c [] other = absurd (other refl)
some inventory os c (x ∷ xs) other = refl

none : (inventory : InventoryState) (os : List ℕ) (c : Class) (l : List Numbered) → length (map metric_of l) ≡ 0 → [] ≡ measured_of inventory os c l
none inventory os c [] is = refl
none inventory os c (x ∷ xs) is = absurd (omega (arith, is))

pub returns-then-is_empty : goal.returns-then-is_empty
returns-then-is_empty c =
    let metrics = c.in_ok-metrics.metrics in
    let empty = eqb-true _ 0 (sym c.is_empty.ensures ∙ c.if-is_empty.true) in
    none c.args.inventory.now c.args.objects.now c.args.class _ (ap length (sym c.in_ok-metrics.ensures) ∙ sym (vec_len_is metrics) ∙ empty)

pub returns : goal.returns
returns c =
    let metrics = c.in_ok-metrics.metrics in
    let objects = c.in_ok-objects.ensures in
    let all = c.in_ok-metrics.ensures in
    let one = some c.args.inventory.now c.args.objects.now c.args.class _ (λ none.
    let zero_is = vec_len_is metrics ∙ ap length all ∙ none in
    let test = sym c.if-is_empty.false ∙ c.is_empty.ensures ∙ eq-eqb _ 0 zero_is in
    cc) in
    (λ i. (let m : Measured = record { class = c.args.class; metrics = all i; objects = objects i } in m) ∷ []) ∙ one
