-- A report's rows, groups and parts, one after the other.
use Rattle.std.proofs.Common.{◌≡◌, ℕ, zero, suc, ◌+◌, ◌<◌, Bool, true, false, Vec, Global, vec_len, rules, List, [], ◌∷◌, ◌++◌, length, map, take, drop, get_or, Option, refl, sym, ap, ◌∙◌, arith, length-append, append_assoc}
use Rattle.std.specs.List.{filter, flat_map, AllByRecursion}
use Rattle.std.proofs.lemmas.List.{drop_more, length-map, map-append, append-nil, take_more}
use Rattle.std.proofs.lemmas.List.Elements.{filter-append}
use Rattle.pm_history.specs.declared.metric.Metric.{Metric}
use Rattle.pm_history.specs.Terms.{Terms}
use Rattle.pm_history.specs.Files.{Row}
use Rattle.pm_close.specs.declared.part.PartValues.{PartValues}
use Rattle.pm_close.specs.Parts.{Quantity, quantities_on, quantities_in, quantities_of}
use Rattle.pm_close.specs.Files.{rows_with, group_with, groups_with, part_with, parts_with}
use Rattle.pm_ready.specs.declared.measured.Measured.{Measured}
use Rattle.pm_ready.specs.Measured.{measured_of}
use Rattle.pm_ready.specs.Whole.{tick_after}

-- one more is done
pub joined : {A : Type 0} (done rest after : List A) (x : A) (all : List A) → after ≡ done ++ x ∷ [] → done ++ x ∷ rest ≡ all → after ++ rest ≡ all
joined done rest after x all more is = ap (λ l. l ++ rest) more ∙ append_assoc done (x ∷ []) rest ∙ is

pub each_at : {A : Type 0} (P : A → Type 0) (xs : List A) (i : ℕ) (d : A) → AllByRecursion P xs → i < length xs → P (get_or xs i d)
each_at P [] i d all lt = absurd (omega arith)
each_at P (x ∷ xs) zero d all lt = all.0
each_at P (x ∷ xs) (suc i) d all lt = each_at P xs i d all.1 (omega arith)

pub each-front : {A : Type 0} (P : A → Type 0) (xs ys : List A) → AllByRecursion P (xs ++ ys) → AllByRecursion P xs
each-front P [] ys all = tt
each-front P (x ∷ xs) ys all = (all.0, each-front P xs ys all.1)

pub each-back : {A : Type 0} (P : A → Type 0) (xs ys : List A) → AllByRecursion P (xs ++ ys) → AllByRecursion P ys
each-back P [] ys all = all
each-back P (x ∷ xs) ys all = each-back P xs ys all.1

pub vec_len_is : {A : Type 0} (v : Vec A Global) → vec_len v ≡ length v.items
vec_len_is v = search rules

-- one more passes a test, or fails it
pub passes_more : {A B : Type 0} (f : A → B) (p : A → Bool) (xs all : List A) (x : A) (old new : List B) → all ≡ xs ++ x ∷ [] → p x ≡ true
    → new ≡ old ++ f x ∷ [] → old ≡ map f (filter p xs) → new ≡ map f (filter p all)
passes_more f p xs all x old new are passes more is =
    let own : filter p (x ∷ []) ≡ x ∷ [] = rw passes refl in
    more ∙ ap (λ l. l ++ f x ∷ []) is ∙ sym (map-append f (filter p xs) (x ∷ [])) ∙ ap (λ l. map f (filter p xs ++ l)) (sym own)
    ∙ ap (map f) (sym (filter-append p xs (x ∷ [])) ∙ ap (filter p) (sym are))

pub fails_more : {A B : Type 0} (f : A → B) (p : A → Bool) (xs all : List A) (x : A) (old : List B) → all ≡ xs ++ x ∷ [] → p x ≡ false
    → old ≡ map f (filter p xs) → old ≡ map f (filter p all)
fails_more f p xs all x old are fails is =
    let own : filter p (x ∷ []) ≡ [] = rw fails refl in
    is ∙ ap (map f) (sym (append-nil (filter p xs)) ∙ ap (λ l. filter p xs ++ l) (sym own) ∙ sym (filter-append p xs (x ∷ [])) ∙ ap (filter p) (sym are))

flat-append : {A B : Type 0} (f : A → List B) (xs : List A) (x : A) → flat_map f (xs ++ x ∷ []) ≡ flat_map f xs ++ f x
flat-append f [] x = append-nil (f x)
flat-append f (y ∷ ys) x = ap (λ l. f y ++ l) (flat-append f ys x) ∙ sym (append_assoc (f y) (flat_map f ys) (f x))

-- what one more of a list gives comes last
pub flat_more : {A B : Type 0} (f : A → List B) (xs : List A) (i : ℕ) (d : A) (old new : List B) → i < length xs → new ≡ old ++ f (get_or xs i d)
    → old ≡ flat_map f (take i xs) → new ≡ flat_map f (take (i + 1) xs)
flat_more f xs i d old new lt more is =
    more ∙ ap (λ l. l ++ f (get_or xs i d)) is ∙ sym (flat-append f (take i xs) (get_or xs i d)) ∙ ap (flat_map f) (sym (take_more xs i d lt))

-- ---- rows

pub rows_next : (metrics : List Metric) (suspect : Bool) (objects : List ℕ) (i : ℕ) (left : List (Option ℕ)) → i < length objects
    → rows_with metrics suspect (drop i objects) left
    ≡ (let row : Row = record { object = get_or objects i 0; results = take (length metrics) left; suspect = suspect } in row)
    ∷ rows_with metrics suspect (drop (i + 1) objects) (drop (length metrics) left)
rows_next metrics suspect objects i left lt = ap (λ os. rows_with metrics suspect os left) (drop_more objects i 0 lt)

pub count_next : (metrics : List Metric) (objects : List ℕ) (i : ℕ) → i < length objects
    → length (flat_map (quantities_on metrics) (drop i objects)) ≡ length metrics + length (flat_map (quantities_on metrics) (drop (i + 1) objects))
count_next metrics objects i lt =
    let o = get_or objects i 0 in
    ap (λ os. length (flat_map (quantities_on metrics) os)) (drop_more objects i 0 lt)
    ∙ length-append (quantities_on metrics o) (flat_map (quantities_on metrics) (drop (i + 1) objects))
    ∙ ap (λ n. n + length (flat_map (quantities_on metrics) (drop (i + 1) objects)))
    (length-map metrics (λ (m : Metric). let q : Quantity = record { object = o; metric = m } in q))

-- ---- groups

pub groups_next : (ms : List Measured) (suspect : Bool) (i : ℕ) (d : Measured) (left : List (Option ℕ)) → i < length ms
    → groups_with (map measured_of (drop i ms)) suspect left
    ≡ group_with (measured_of (get_or ms i d)) suspect left
    ∷ groups_with (map measured_of (drop (i + 1) ms)) suspect (drop (length (quantities_in (measured_of (get_or ms i d)))) left)
groups_next ms suspect i d left lt = ap (λ l. groups_with (map measured_of l) suspect left) (drop_more ms i d lt)

pub counts_next : (ms : List Measured) (i : ℕ) (d : Measured) → i < length ms
    → length (quantities_of (map measured_of (drop i ms)))
    ≡ length (quantities_in (measured_of (get_or ms i d))) + length (quantities_of (map measured_of (drop (i + 1) ms)))
counts_next ms i d lt =
    ap (λ l. length (quantities_of (map measured_of l))) (drop_more ms i d lt)
    ∙ length-append (quantities_in (measured_of (get_or ms i d))) (quantities_of (map measured_of (drop (i + 1) ms)))

-- ---- parts

pub parts_next : (t : Terms) (tick : ℕ) (parts : List PartValues) (i : ℕ) (d : PartValues) → i < length parts
    → parts_with t tick (drop i parts) ≡ part_with t tick (get_or parts i d) ∷ parts_with t (tick + t.granularity) (drop (i + 1) parts)
parts_next t tick parts i d lt = ap (parts_with t tick) (drop_more parts i d lt)

pub tick_next : (t : Terms) (tick : ℕ) (parts : List PartValues) (i : ℕ) (d : PartValues) → i < length parts
    → tick_after t tick (drop i parts) ≡ tick_after t (tick + t.granularity) (drop (i + 1) parts)
tick_next t tick parts i d lt = ap (tick_after t tick) (drop_more parts i d lt)

pub parts-append : (t : Terms) (first : ℕ) (xs ys : List PartValues)
    → parts_with t first (xs ++ ys) ≡ parts_with t first xs ++ parts_with t (tick_after t first xs) ys
parts-append t first [] ys = refl
parts-append t first (x ∷ xs) ys = ap (λ l. part_with t first x ∷ l) (parts-append t (first + t.granularity) xs ys)

pub tick-append : (t : Terms) (first : ℕ) (xs ys : List PartValues) → tick_after t first (xs ++ ys) ≡ tick_after t (tick_after t first xs) ys
tick-append t first [] ys = refl
tick-append t first (x ∷ xs) ys = tick-append t (first + t.granularity) xs ys

-- two that ask for the same reports have the same parts
pub parts-same : (t u : Terms) (first : ℕ) (parts : List PartValues) → t.granularity ≡ u.granularity → t.measured ≡ u.measured
    → parts_with t first parts ≡ parts_with u first parts
parts-same t u first [] g m = refl
parts-same t u first (p ∷ ps) g m =
    let rest = parts-same t u (first + t.granularity) ps g m ∙ ap (λ n. parts_with u (first + n) ps) g in
    λ i. record { begin = first; end = first + g i; groups = groups_with (m i) p.suspect p.values.items } ∷ rest i

-- one more is said as it stands
pub said_more : {A B C D : Type 0} (f : A → D) (g : B → C) (h : C → D) (xs : List B) (i : ℕ) (d : B) (done after : List A) (x : A) → i < length xs
    → after ≡ done ++ x ∷ [] → f x ≡ h (g (get_or xs i d)) → map f done ≡ map h (map g (take i xs)) → map f after ≡ map h (map g (take (i + 1) xs))
said_more f g h xs i d done after x lt more same is =
    let taken = take_more xs i d lt in
    ap (map f) more ∙ map-append f done (x ∷ []) ∙ (λ j. is j ++ same j ∷ [])
    ∙ sym (map-append h (map g (take i xs)) (g (get_or xs i d) ∷ [])) ∙ ap (map h) (sym (map-append g (take i xs) (get_or xs i d ∷ [])) ∙ ap (map g) (sym taken))

pub each-from : {A : Type 0} (P : A → Type 0) (xs : List A) → ((k : ℕ) (d : A) → k < length xs → P (get_or xs k d)) → AllByRecursion P xs
each-from P [] each = tt
each-from P (x ∷ xs) each = (each zero x (omega arith), each-from P xs (λ k d lt. each (suc k) d (omega (arith, lt))))
