-- What a body asks for, quantity by quantity.
use Rattle.std.proofs.Common.{◌≡◌, ℕ, ◌&&◌, Bool, true, false, cond, List, [], ◌∷◌, ◌++◌, map, refl, sym, ap, ◌∙◌}
use Rattle.std.specs.List.{filter, flat_map}
use Rattle.std.proofs.lemmas.Grind.{flat_map-append}
use Rattle.std.proofs.lemmas.List.{append-nil}
use Rattle.pm_base.specs.declared.class.Class.{Class}
use Rattle.pm_base.specs.declared.class.TheConstants.{CLASSES}
use Rattle.pm_inventory.specs.Inventory.{InventoryState}
use Rattle.pm_inventory.specs.Slot.{def_at}
use Rattle.pm_history.proofs.StayLemmas.{flat_map-same}
use Rattle.pm_asked.specs.Asked.{Numbered, metric_of, is_of_class, same_class, measured_of, measured_asked, measured_objects}
use Rattle.pm_jobs.specs.Numbered.{numbered}
use Rattle.pm_close.specs.Parts.{Quantity, quantities_on, quantities_in, quantities_of}
use Rattle.pm_close.specs.Measures.{quantities_for, quantities_with, quantities_asked}

flat_map-flat_map : {X Y Z : Type 0} (f : Y → List Z) (g : X → List Y) (xs : List X) → flat_map f (flat_map g xs) ≡ flat_map (λ x. flat_map f (g x)) xs
flat_map-flat_map f g [] = refl
flat_map-flat_map f g (x ∷ xs) =
    flat_map-append f (g x) (flat_map g xs) ∙ ap (λ ys. flat_map f (g x) ++ ys) (flat_map-flat_map f g xs)

-- what passes a test, one by one
flat_map-filter : {X Y : Type 0} (f : X → List Y) (p : X → Bool) (xs : List X) → flat_map f (filter p xs) ≡ flat_map (λ x. cond (p x) (f x) []) xs
flat_map-filter f p [] = refl
flat_map-filter {X} {Y} f p (x ∷ xs) = by (p x) (flat_map-filter f p xs)
  where
    by : (b : Bool) → flat_map f (filter p xs) ≡ flat_map (λ x. cond (p x) (f x) []) xs
        → flat_map f (cond b (x ∷ filter p xs) (filter p xs)) ≡ cond b (f x) [] ++ flat_map (λ x. cond (p x) (f x) []) xs
    by true rest = ap (λ ys. f x ++ ys) rest
    by false rest = rest

-- of one class
quantities_of-class : (inventory : InventoryState) (objects : List ℕ) (class : Class) (metrics : List Numbered)
    → quantities_of (measured_of inventory objects class metrics) ≡ flat_map (quantities_on (map metric_of metrics)) (measured_objects inventory objects class)
quantities_of-class inventory objects class [] = sym (none (measured_objects inventory objects class))
  where
    none : (os : List ℕ) → flat_map (quantities_on []) os ≡ []
    none [] = refl
    none (o ∷ os) = none os
quantities_of-class inventory objects class (m ∷ ms) = append-nil (flat_map (quantities_on (map metric_of (m ∷ ms))) (measured_objects inventory objects class))

-- on one object
quantities_on-filter : (p : Numbered → Bool) (object : ℕ) (ms : List Numbered)
    → quantities_on (map metric_of (filter p ms)) object ≡ flat_map (λ (m : Numbered). cond (p m) (record { object = object; metric = metric_of m } ∷ []) []) ms
quantities_on-filter p object [] = refl
quantities_on-filter p object (m ∷ ms) = by (p m) (quantities_on-filter p object ms)
  where
    by : (b : Bool) → quantities_on (map metric_of (filter p ms)) object ≡ flat_map (λ (m : Numbered). cond (p m) (record { object = object; metric = metric_of m } ∷ []) []) ms
        → quantities_on (map metric_of (cond b (m ∷ filter p ms) (filter p ms))) object
        ≡ cond b (record { object = object; metric = metric_of m } ∷ []) [] ++ flat_map (λ (m : Numbered). cond (p m) (record { object = object; metric = metric_of m } ∷ []) []) ms
    by true rest = ap (λ (qs : List Quantity). record { object = object; metric = metric_of m } ∷ qs) rest
    by false rest = rest

-- metrics by their numbers
on_numbers : (inventory : InventoryState) (class : Class) (object : ℕ) (metrics : List ℕ)
    → cond (is_of_class inventory class object) (flat_map (λ (m : Numbered). cond (same_class m.1.class class) (record { object = object; metric = metric_of m } ∷ []) []) (numbered inventory metrics)) []
    ≡ quantities_for inventory class metrics object
on_numbers inventory class object [] = nothing (is_of_class inventory class object) [] refl
  where
    nothing : (b : Bool) (qs : List Quantity) → qs ≡ [] → cond b qs [] ≡ []
    nothing true qs none = none
    nothing false qs none = refl
on_numbers inventory class object (m ∷ ms) = by (same_class (def_at inventory.measures m).class class) (is_of_class inventory class object) (on_numbers inventory class object ms)
  where
    rest : List Quantity
    rest = flat_map (λ (m : Numbered). cond (same_class m.1.class class) (record { object = object; metric = metric_of m } ∷ []) []) (numbered inventory ms)

    one : List Quantity
    one = record { object = object; metric = metric_of (m, def_at inventory.measures m) } ∷ []

    by : (a b : Bool) → cond b rest [] ≡ quantities_for inventory class ms object
        → cond b (cond a one [] ++ rest) [] ≡ cond (a && b) one [] ++ quantities_for inventory class ms object
    by true true is = ap (λ qs. one ++ qs) is
    by true false is = is
    by false true is = is
    by false false is = is

of_class : (inventory : InventoryState) (metrics objects : List ℕ) (class : Class)
    → quantities_of (measured_of inventory objects class (filter (λ (metric : Numbered). same_class metric.1.class class) (numbered inventory metrics)))
    ≡ quantities_with inventory metrics objects class
of_class inventory metrics objects class =
    quantities_of-class inventory objects class (filter (λ (metric : Numbered). same_class metric.1.class class) (numbered inventory metrics))
    ∙ (flat_map-filter (quantities_on (map metric_of (filter (λ (metric : Numbered). same_class metric.1.class class) (numbered inventory metrics)))) (is_of_class inventory class) objects
    ∙ flat_map-same _ _ objects (λ object.
    ap (λ (qs : List Quantity). cond (is_of_class inventory class object) qs []) (quantities_on-filter (λ (metric : Numbered). same_class metric.1.class class) object (numbered inventory metrics))
    ∙ on_numbers inventory class object metrics))

pub quantities-asked : (inventory : InventoryState) (metrics objects : List ℕ)
    → quantities_of (measured_asked inventory (numbered inventory metrics) objects) ≡ quantities_asked inventory metrics objects
quantities-asked inventory metrics objects =
    flat_map-flat_map quantities_in (λ class. measured_of inventory objects class (filter (λ (metric : Numbered). same_class metric.1.class class) (numbered inventory metrics))) CLASSES
    ∙ flat_map-same _ _ CLASSES (λ class. of_class inventory metrics objects class)
