-- The places of slots among the slots.
use Rattle.std.proofs.Common.{◌≡◌, ◌<◌, ◌≤◌, ◌+◌, ◌&&◌, ℕ, zero, suc, Bool, true, false, cond, List, [], ◌∷◌, ◌++◌, length, take, map, get_or, Option, Some, None, eqb, eq-eqb, inl, inr, refl, sym, ◌∙◌, ap, arith}
use Rattle.std.specs.List.{filter, enumerate_from, flat_map, position_from, slice_get}
use Rattle.std.proofs.lemmas.Bool.{ne_eqb, cases_lt}
use Rattle.std.proofs.lemmas.Grind.{get_or_default_zero}
use Rattle.std.proofs.lemmas.Option.{slice_get_cases, slice_get_within}
use Rattle.std.proofs.lemmas.List.{length-append, length-map, append-nil, get_or_append_left, get_or_at}
use Rattle.std.proofs.Math.Seq.{take-length}
use Rattle.pm_dn.specs.Containment.{has_path_to, class_of}
use Rattle.pm_dn.proofs.ClassLemmas.{has_path_to-class_of, has_path_to-alone}
use Rattle.pm_dn.specs.Tree.{objects_of}
use Rattle.pm_dn.proofs.NumberLemmas.{numbers_where_yes, numbers_where_no}
use Rattle.pm_base.specs.declared.Class.{Class}
use Rattle.pm_meas.specs.declared.def.Def.{Def}
use Rattle.pm_inventory.specs.Inventory.{SlotKey, key_of, slots_of_metric, slots_of, is_slot_of}
use Rattle.pm_inventory.specs.InventoryFields.{AreFirst, ArePlaces}

none-step : (b : Bool) (j : ℕ) (here there goal : Option ℕ) → cond b (Some j) here ≡ None → (here ≡ None → there ≡ goal) → cond b (Some j) there ≡ goal
none-step true j here there goal none rest = cc
none-step false j here there goal none rest = rest none

some-step : (b : Bool) (j v : ℕ) (here there : Option ℕ) → cond b (Some j) here ≡ Some v → (here ≡ Some v → there ≡ Some v) → cond b (Some j) there ≡ Some v
some-step true j v here there is rest = is
some-step false j v here there is rest = rest is

-- behind a list without the place
position-append_none : {K : Type 0} (t : K → Bool) (j : ℕ) (xs ys : List K) → position_from t j xs ≡ None → position_from t j (xs ++ ys) ≡ position_from t (j + length xs) ys
position-append_none t j [] ys none = let here : j ≡ j + 0 = omega arith in ap (λ i. position_from t i ys) here
position-append_none t j (x ∷ xs) ys none =
    let shift : j + 1 + length xs ≡ j + length (x ∷ xs) = omega arith in
    none-step (t x) j (position_from t (j + 1) xs) (position_from t (j + 1) (xs ++ ys)) (position_from t (j + length (x ∷ xs)) ys) none
    (λ rest. position-append_none t (j + 1) xs ys rest ∙ ap (λ i. position_from t i ys) shift)

-- within a list with the place
position-append_some : {K : Type 0} (t : K → Bool) (j v : ℕ) (xs ys : List K) → position_from t j xs ≡ Some v → position_from t j (xs ++ ys) ≡ Some v
position-append_some t j v [] ys is = cc
position-append_some t j v (x ∷ xs) ys is =
    some-step (t x) j v (position_from t (j + 1) xs) (position_from t (j + 1) (xs ++ ys)) is (λ rest. position-append_some t (j + 1) v xs ys rest)

bound-step : (b : Bool) (j v n : ℕ) (here : Option ℕ) → cond b (Some j) here ≡ Some v → (here ≡ Some v → v < j + suc n) → v < j + suc n
bound-step true j v n here is rest = let same : j ≡ v = cc in omega arith
bound-step false j v n here is rest = rest is

-- a place is within the list
pub position-within : {K : Type 0} (t : K → Bool) (j v : ℕ) (xs : List K) → position_from t j xs ≡ Some v → v < j + length xs
position-within t j v [] is = cc
position-within t j v (x ∷ xs) is =
    bound-step (t x) j v (length xs) (position_from t (j + 1) xs) is (λ rest. let within = position-within t (j + 1) v xs rest in omega (arith, within))

fail-step : (a b : Bool) (j : ℕ) (rest : Option ℕ) → b ≡ false → rest ≡ None → cond (a && b) (Some j) rest ≡ None
fail-step true true j rest differs none = cc
fail-step true false j rest differs none = none
fail-step false true j rest differs none = none
fail-step false false j rest differs none = none

-- the slots of another metric
other_metric : (object metric k j : ℕ) (xs : List ℕ) → eqb k metric ≡ false → position_from (is_slot_of object metric) j (map (key_of k) xs) ≡ None
other_metric object metric k j [] differs = refl
other_metric object metric k j (x ∷ xs) differs = fail-step (eqb x object) (eqb k metric) j (position_from (is_slot_of object metric) (j + 1) (map (key_of k) xs)) differs (other_metric object metric k (j + 1) xs differs)

same-step : (a b : Bool) (j : ℕ) (r s : Option ℕ) → b ≡ true → r ≡ s → cond (a && b) (Some j) r ≡ cond a (Some j) s
same-step true true j r s meets is = refl
same-step true false j r s meets is = cc
same-step false true j r s meets is = is
same-step false false j r s meets is = is

-- the slots of the metric
same_metric : (object metric k j : ℕ) (xs : List ℕ) → eqb k metric ≡ true → position_from (is_slot_of object metric) j (map (key_of k) xs) ≡ position_from (λ x. eqb x object) j xs
same_metric object metric k j [] meets = refl
same_metric object metric k j (x ∷ xs) meets =
    same-step (eqb x object) (eqb k metric) j (position_from (is_slot_of object metric) (j + 1) (map (key_of k) xs)) (position_from (λ x. eqb x object) (j + 1) xs) meets (same_metric object metric k (j + 1) xs meets)

-- the numbers of the objects that pass, from a first number on
abbrev numbered : (List ℕ → Bool) → ℕ → List (List ℕ) → List (ℕ × List ℕ)
numbered passes n tree = filter (λ (object : ℕ × List ℕ). passes object.1) (enumerate_from n tree)

abbrev numbers : List (ℕ × List ℕ) → List ℕ
numbers objects = map (λ (object : ℕ × List ℕ). object.0) objects

abbrev place : ℕ → ℕ → List ℕ → Option ℕ
place object j xs = position_from (λ x. eqb x object) j xs

first-place : (b : Bool) (object n j : ℕ) (text : List ℕ) (rest : List (ℕ × List ℕ)) → place object j (numbers (cond b ((n, text) ∷ rest) rest)) ≡ cond b (cond (eqb n object) (Some j) (place object (j + 1) (numbers rest))) (place object j (numbers rest))
first-place true object n j text rest = refl
first-place false object n j text rest = refl

first-length : (b : Bool) (n : ℕ) (text : List ℕ) (rest : List (ℕ × List ℕ)) → length (numbers (cond b ((n, text) ∷ rest) rest)) ≡ cond b (suc (length (numbers rest))) (length (numbers rest))
first-length true n text rest = refl
first-length false n text rest = refl

both-none : (b a : Bool) (j : ℕ) (r s : Option ℕ) → a ≡ false → r ≡ None → s ≡ None → cond b (cond a (Some j) r) s ≡ None
both-none true true j r s differs none also = cc
both-none true false j r s differs none also = none
both-none false true j r s differs none also = also
both-none false false j r s differs none also = also

last-none : (b : Bool) (r s : Option ℕ) → b ≡ false → s ≡ None → cond b r s ≡ None
last-none true r s differs none = cc
last-none false r s differs none = none

number-before : (passes : List ℕ → Bool) (object n j : ℕ) (tree : List (List ℕ)) → object < n → place object j (numbers (numbered passes n tree)) ≡ None
number-before passes object n j [] lt = refl
number-before passes object n j (text ∷ tree) lt =
    first-place (passes text) object n j text (numbered passes (n + 1) tree)
    ∙ both-none (passes text) (eqb n object) j _ _ (ne_eqb n object (λ same. omega (arith, same, lt)))
    (number-before passes object (n + 1) (j + 1) tree (omega (arith, lt))) (number-before passes object (n + 1) j tree (omega (arith, lt)))

number-none : (passes : List ℕ → Bool) (object n i j : ℕ) (tree : List (List ℕ)) → object ≡ n + i → (i < length tree → passes (get_or tree i []) ≡ false) → place object j (numbers (numbered passes n tree)) ≡ None
number-none passes object n i j [] at fails = refl
number-none passes object n zero j (text ∷ tree) at fails =
    first-place (passes text) object n j text (numbered passes (n + 1) tree)
    ∙ last-none (passes text) _ _ (fails (omega arith)) (number-before passes object (n + 1) j tree (omega (arith, at)))
number-none passes object n (suc i) j (text ∷ tree) at fails =
    let later = λ (lt : i < length tree). fails (omega (arith, lt)) in
    first-place (passes text) object n j text (numbered passes (n + 1) tree)
    ∙ both-none (passes text) (eqb n object) j _ _ (ne_eqb n object (λ same. omega (arith, same, at)))
    (number-none passes object (n + 1) i (j + 1) tree (omega (arith, at)) later) (number-none passes object (n + 1) i j tree (omega (arith, at)) later)

found-first : (b a : Bool) (j v : ℕ) (r s : Option ℕ) → b ≡ true → a ≡ true → j ≡ v → cond b (cond a (Some j) r) s ≡ Some v
found-first true true j v r s meets here is = ap (λ n. Some n) is
found-first true false j v r s meets here is = cc
found-first false a j v r s meets here is = cc

found-next : (b a : Bool) (j l m : ℕ) (r s : Option ℕ) → a ≡ false → m ≡ cond b (suc l) l → r ≡ Some (j + 1 + l) → s ≡ Some (j + l) → cond b (cond a (Some j) r) s ≡ Some (j + m)
found-next true true j l m r s differs many found also = cc
found-next true false j l m r s differs many found also = let sum : j + 1 + l ≡ j + m = omega (arith, many) in found ∙ ap (λ n. Some n) sum
found-next false a j l m r s differs many found also = let sum : j + l ≡ j + m = omega (arith, many) in also ∙ ap (λ n. Some n) sum

number-some : (passes : List ℕ → Bool) (object n i j : ℕ) (tree : List (List ℕ)) → object ≡ n + i → i < length tree → passes (get_or tree i []) ≡ true → place object j (numbers (numbered passes n tree)) ≡ Some (j + length (numbers (numbered passes n (take i tree))))
number-some passes object n i j [] at lt passed = absurd (omega (arith, lt))
number-some passes object n zero j (text ∷ tree) at lt passed =
    first-place (passes text) object n j text (numbered passes (n + 1) tree)
    ∙ found-first (passes text) (eqb n object) j (j + 0) _ _ passed (eq-eqb n object (omega (arith, at))) (omega arith)
number-some passes object n (suc i) j (text ∷ tree) at lt passed =
    first-place (passes text) object n j text (numbered passes (n + 1) tree)
    ∙ found-next (passes text) (eqb n object) j (length (numbers (numbered passes (n + 1) (take i tree)))) (length (numbers (numbered passes n (take (suc i) (text ∷ tree))))) _ _ (ne_eqb n object (λ same. omega (arith, same, at)))
    (first-length (passes text) n text (numbered passes (n + 1) (take i tree)))
    (number-some passes object (n + 1) i (j + 1) tree (omega (arith, at)) (omega (arith, lt)) passed) (number-some passes object (n + 1) i j tree (omega (arith, at)) (omega (arith, lt)) passed)

-- the slots of metrics from a first number on
abbrev pub slots_from : List (List ℕ) → ℕ → List Def → List SlotKey
slots_from objects n measures = flat_map (slots_of_metric objects) (enumerate_from n measures)

-- one block of slots of another metric
skip : (objects : List (List ℕ)) (object metric n j : ℕ) (def : Def) (rest : List SlotKey) → eqb n metric ≡ false → position_from (is_slot_of object metric) j (slots_of_metric objects (n, def) ++ rest) ≡ position_from (is_slot_of object metric) (j + length (slots_of_metric objects (n, def))) rest
skip objects object metric n j def rest differs =
    position-append_none (is_slot_of object metric) j (slots_of_metric objects (n, def)) rest (other_metric object metric n j (objects_of objects def.class) differs)

slots-behind : (objects : List (List ℕ)) (object metric n j : ℕ) (measures : List Def) → metric < n → position_from (is_slot_of object metric) j (slots_from objects n measures) ≡ None
slots-behind objects object metric n j [] lt = refl
slots-behind objects object metric n j (def ∷ measures) lt =
    skip objects object metric n j def (slots_from objects (n + 1) measures) (ne_eqb n metric (λ same. omega (arith, same, lt)))
    ∙ slots-behind objects object metric (n + 1) (j + length (slots_of_metric objects (n, def))) measures (omega (arith, lt))

-- no metric has the number
pub slots-past : (objects : List (List ℕ)) (object metric n i j : ℕ) (measures : List Def) → metric ≡ n + i → length measures ≤ i → position_from (is_slot_of object metric) j (slots_from objects n measures) ≡ None
slots-past objects object metric n i j [] at past = refl
slots-past objects object metric n zero j (def ∷ measures) at past = absurd (omega (arith, past))
slots-past objects object metric n (suc i) j (def ∷ measures) at past =
    skip objects object metric n j def (slots_from objects (n + 1) measures) (ne_eqb n metric (λ same. omega (arith, same, at)))
    ∙ slots-past objects object metric (n + 1) i (j + length (slots_of_metric objects (n, def))) measures (omega (arith, at)) (omega (arith, past))

-- the object isn't of the metric's class, or no object has the number
pub slots-none : (objects : List (List ℕ)) (object metric n i j : ℕ) (measures : List Def) (def : Def) → metric ≡ n + i → slice_get measures i ≡ Some def → (object < length objects → has_path_to def.class (get_or objects object []) ≡ false) → position_from (is_slot_of object metric) j (slots_from objects n measures) ≡ None
slots-none objects object metric n i j [] def at is other = cc
slots-none objects object metric n zero j (first ∷ measures) def at is other =
    let same : first ≡ def = cc in
    position-append_none (is_slot_of object metric) j (slots_of_metric objects (n, first)) (slots_from objects (n + 1) measures)
    (same_metric object metric n j (objects_of objects first.class) (eq-eqb n metric (omega (arith, at)))
    ∙ number-none (has_path_to first.class) object 0 object j objects (omega arith) (λ lt. ap (λ (d : Def). has_path_to d.class (get_or objects object [])) same ∙ other lt))
    ∙ slots-behind objects object metric (n + 1) (j + length (slots_of_metric objects (n, first))) measures (omega (arith, at))
slots-none objects object metric n (suc i) j (first ∷ measures) def at is other =
    skip objects object metric n j first (slots_from objects (n + 1) measures) (ne_eqb n metric (λ same. omega (arith, same, at)))
    ∙ slots-none objects object metric (n + 1) i (j + length (slots_of_metric objects (n, first))) measures def (omega (arith, at)) is other

-- the place of a slot: behind the slots of earlier metrics, and of earlier objects of the class
pub slots-some : (objects : List (List ℕ)) (object metric n i j : ℕ) (measures : List Def) (def : Def) → metric ≡ n + i → slice_get measures i ≡ Some def → object < length objects → has_path_to def.class (get_or objects object []) ≡ true → position_from (is_slot_of object metric) j (slots_from objects n measures) ≡ Some (j + length (slots_from objects n (take i measures)) + length (objects_of (take object objects) def.class))
slots-some objects object metric n i j [] def at is lt passes = cc
slots-some objects object metric n zero j (first ∷ measures) def at is lt passes =
    let same : first ≡ def = cc in
    let passed : has_path_to first.class (get_or objects object []) ≡ true = ap (λ (d : Def). has_path_to d.class (get_or objects object [])) same ∙ passes in
    let before = λ (d : Def). length (objects_of (take object objects) d.class) in
    let total : j + before first ≡ j + 0 + before def = omega (arith, ap before same) in
    position-append_some (is_slot_of object metric) j (j + 0 + before def) (slots_of_metric objects (n, first)) (slots_from objects (n + 1) measures)
    (same_metric object metric n j (objects_of objects first.class) (eq-eqb n metric (omega (arith, at)))
    ∙ number-some (has_path_to first.class) object 0 object j objects (omega arith) lt passed ∙ ap (λ v. Some v) total)
slots-some objects object metric n (suc i) j (first ∷ measures) def at is lt passes =
    let block = slots_of_metric objects (n, first) in
    let rest = slots_from objects (n + 1) (take i measures) in
    let before = length (objects_of (take object objects) def.class) in
    let total : j + length block + length rest + before ≡ j + length (block ++ rest) + before = omega (arith, length-append block rest) in
    skip objects object metric n j first (slots_from objects (n + 1) measures) (ne_eqb n metric (λ same. omega (arith, same, at)))
    ∙ slots-some objects object metric (n + 1) i (j + length block) measures def (omega (arith, at)) is lt passes
    ∙ ap (λ v. Some v) total

-- one more metric
pub slots-more : (objects : List (List ℕ)) (n i : ℕ) (measures : List Def) (def : Def) → slice_get measures i ≡ Some def → length (slots_from objects n (take (suc i) measures)) ≡ length (slots_from objects n (take i measures)) + length (objects_of objects def.class)
slots-more objects n i [] def is = cc
slots-more objects n zero (first ∷ measures) def is =
    let same : first ≡ def = cc in
    let many = λ (d : Def). length (objects_of objects d.class) in
    let block = slots_of_metric objects (n, first) in
    let total : length (block ++ []) ≡ 0 + many def = omega (arith, ap length (append-nil block), length-map (objects_of objects first.class) (key_of n), ap many same) in
    total
slots-more objects n (suc i) (first ∷ measures) def is =
    let block = slots_of_metric objects (n, first) in
    let some = slots_from objects (n + 1) (take (suc i) measures) in
    let fewer = slots_from objects (n + 1) (take i measures) in
    let total : length (block ++ some) ≡ length (block ++ fewer) + length (objects_of objects def.class) =
    omega (arith, length-append block some, length-append block fewer, slots-more objects (n + 1) i measures def is) in
    total

-- one more object, of the class or not
pub objects-yes : (objects : List (List ℕ)) (class : Class) (i n : ℕ) → i < length objects → has_path_to class (get_or objects i []) ≡ true → n ≡ length (objects_of (take i objects) class) → n + 1 ≡ length (objects_of (take (i + 1) objects) class)
objects-yes objects class i n lt passes is =
    let before = objects_of (take i objects) class in
    let more : before ++ i ∷ [] ≡ objects_of (take (i + 1) objects) class = numbers_where_yes (has_path_to class) objects i before lt passes refl in
    omega (arith, ap length more, length-append before (i ∷ []), is)

pub objects-no : (objects : List (List ℕ)) (class : Class) (i n : ℕ) → i < length objects → has_path_to class (get_or objects i []) ≡ false → n ≡ length (objects_of (take i objects) class) → n ≡ length (objects_of (take (i + 1) objects) class)
objects-no objects class i n lt fails is =
    let before = objects_of (take i objects) class in
    let more : before ≡ objects_of (take (i + 1) objects) class = numbers_where_no (has_path_to class) objects i before lt fails refl in
    is ∙ ap length more

-- one more metric, with as many slots as there are objects of its class
pub metric-more : (objects : List (List ℕ)) (measures : List Def) (def : Def) (metric end n : ℕ) → slice_get measures metric ≡ Some def → end ≡ length objects → n ≡ length (objects_of (take end objects) def.class) → length (slots_of objects (take (metric + 1) measures)) ≡ length (slots_of objects (take metric measures)) + n
metric-more objects measures def metric end n is whole many =
    let next : metric + 1 ≡ suc metric = omega arith in
    let all : take end objects ≡ objects = ap (λ e. take e objects) whole ∙ take-length objects in
    let count : n ≡ length (objects_of objects def.class) = many ∙ ap (λ (o : List (List ℕ)). length (objects_of o def.class)) all in
    ap (λ k. length (slots_of objects (take k measures))) next
    ∙ slots-more objects 0 metric measures def is
    ∙ ap (λ k. length (slots_of objects (take metric measures)) + k) (sym count)

-- the place of one more object within its class
pub places-push : (objects : List (List ℕ)) (places : List ℕ) (n count : ℕ) (own : Class) → length places ≡ n → ((k : ℕ) (class : Class) → k < n → has_path_to class (get_or objects k []) ≡ true → get_or places k 0 ≡ length (objects_of (take k objects) class)) → class_of (get_or objects n []) ≡ Some own → count ≡ length (objects_of (take n objects) own) → (k : ℕ) (class : Class) → k < n + 1 → has_path_to class (get_or objects k []) ≡ true → get_or (places ++ count ∷ []) k 0 ≡ length (objects_of (take k objects) class)
places-push objects places n count own many each classed is k class lt passes =
    elim (cases_lt k (length places)) [
      | inl earlier ↦ get_or_append_left places (count ∷ []) 0 k earlier ∙ each k class (omega (arith, earlier, many)) passes
      | inr later ↦
          let at : length places ≡ k = omega (arith, later, many, lt) in
          let same : n ≡ k = omega (arith, later, many, lt) in
          let own_path : has_path_to own (get_or objects k []) ≡ true = ap (λ m. has_path_to own (get_or objects m [])) (sym same) ∙ has_path_to-class_of (get_or objects n []) own classed in
          get_or_at places count [] 0 k at ∙ is
          ∙ ap (λ m. length (objects_of (take m objects) own)) same
          ∙ ap (λ (c : Class). length (objects_of (take k objects) c)) (has_path_to-alone (get_or objects k []) own class own_path passes)
    ]

-- no object has the number
pub slot-of_no_object : (objects : List (List ℕ)) (measures : List Def) (object metric : ℕ) → length objects ≤ object → position_from (is_slot_of object metric) 0 (slots_of objects measures) ≡ None
slot-of_no_object objects measures object metric past =
    elim (slice_get_cases measures metric).1 [
      | inl found ↦ slots-none objects object metric 0 metric 0 measures found.0 (omega arith) found.2 (λ lt. absurd (omega (arith, lt, past)))
      | inr none ↦ slots-past objects object metric 0 metric 0 measures (omega arith) none.0
    ]

-- the number of a slot by what is kept for its metric and its object
pub slot-kept : (objects : List (List ℕ)) (measures : List Def) (first places : List ℕ) (object metric a b : ℕ) (def : Def) → AreFirst objects measures first → ArePlaces objects places → object < length objects → slice_get measures metric ≡ Some def → has_path_to def.class (get_or objects object []) ≡ true → a ≡ get_or first metric a → b ≡ get_or places object b → position_from (is_slot_of object metric) 0 (slots_of objects measures) ≡ Some (a + b)
slot-kept objects measures first places object metric a b def firsts placed lt is passes a-is b-is =
    let within : metric < length measures = slice_get_within measures metric def is in
    let before : a ≡ length (slots_of objects (take metric measures)) = a-is ∙ get_or_default_zero first metric a (omega (arith, within, firsts.many)) ∙ firsts.each metric within in
    let earlier : b ≡ length (objects_of (take object objects) def.class) = b-is ∙ get_or_default_zero places object b (omega (arith, lt, placed.many)) ∙ placed.each object def.class lt passes in
    let total : 0 + length (slots_of objects (take metric measures)) + length (objects_of (take object objects) def.class) ≡ a + b = omega (arith, before, earlier) in
    slots-some objects object metric 0 metric 0 measures def (omega arith) is lt passes ∙ ap (λ v. Some v) total
