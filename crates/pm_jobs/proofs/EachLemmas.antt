-- Lists whose items are read one after another.
use Rattle.std.proofs.Common.{◌≡◌, ℕ, suc, ◌<◌, ◌≤◌, ◌+◌, ◌&&◌, Bool, true, false, cond, leb, List, [], ◌∷◌, ◌++◌, length, map, drop, get_or, Option, Some, None, refl, sym, ap, ◌∙◌, arith, append_assoc, append-nil, drop-cons, add-one, le-leb}
use Rattle.std.proofs.Math.ListN.{drop_of_length-le}
use Rattle.std.proofs.lemmas.List.{map-append}
use Rattle.std.proofs.lemmas.Bool.{leb-true}
use Rattle.std.specs.Option.{option_map, option_and_then}
use Rattle.serde_json.specs.Data.{Data, Items, no_items, item}
use Rattle.serde_json.specs.Find.{as_str}
use Rattle.serde_json.specs.View.{view, items_view}
use Rattle.serde_json.specs.declared.value.Value.{Value}
use Rattle.pm_asked.specs.BodyReading.{texts_of, threshold_of, thresholds_of}
use Rattle.pm_jobs.specs.declared.body.Threshold.{Threshold}
use Rattle.pm_jobs.specs.Content.{threshold_content}

-- What was read of the items before, and then of the rest.
abbrev pub joined : {A : Type 0} → List A → Option (List A) → Option (List A)
joined xs rest = option_map (λ ys. xs ++ ys) rest

pub joined_none : {A : Type 0} (r : Option (List A)) → r ≡ joined [] r
joined_none (Some xs) = refl
joined_none None = refl

-- Items that are read by one reading each, from the first on.
pub record ReadsEach {A : Type 0} (reads : Data → Option A) (all : Items → Option (List A)) : Type 0 where
  pub none : all no_items ≡ Some []
  pub more : (d : Data) (ds : Items) → all (item d ds) ≡ option_and_then (λ a. option_map (λ xs. a ∷ xs) (all ds)) (reads d)

joined_more : {A : Type 0} (xs : List A) (a : A) (r : Option (List A)) → joined xs (option_map (λ ys. a ∷ ys) r) ≡ joined (xs ++ a ∷ []) r
joined_more xs a (Some ys) = ap Some (sym (append_assoc xs (a ∷ []) ys))
joined_more xs a None = refl

pub each_step : {A : Type 0} {reads : Data → Option A} {all : Items → Option (List A)} → ReadsEach reads all
    → (xs : List Value) (i : ℕ) (d : Value) (done : List A) (a : A) → i < length xs → reads (view (get_or xs i d)) ≡ Some a
    → joined done (all (items_view (drop i xs))) ≡ joined (done ++ a ∷ []) (all (items_view (drop (i + 1) xs)))
each_step each xs i d done a lt is = rw (drop-cons xs i d lt, add-one i, each.more, is) (joined_more done a _)

pub each_stop : {A : Type 0} {reads : Data → Option A} {all : Items → Option (List A)} → ReadsEach reads all
    → (xs : List Value) (i : ℕ) (d : Value) (done : List A) → i < length xs → reads (view (get_or xs i d)) ≡ None
    → joined done (all (items_view (drop i xs))) ≡ None
each_stop each xs i d done lt is = rw (drop-cons xs i d lt, each.more, is) refl

pub each_end : {A : Type 0} {reads : Data → Option A} {all : Items → Option (List A)} → ReadsEach reads all
    → (xs : List Value) (i : ℕ) (done : List A) → length xs ≤ i → joined done (all (items_view (drop i xs))) ≡ Some done
each_end each xs i done le = rw (drop_of_length-le xs le, each.none, append-nil done) refl

-- ---- lengths

-- Lists of so many.
abbrev pub bounded : {A : Type 0} → ℕ → ℕ → Option (List A) → Option (List A)
bounded least most o = option_and_then (λ ts. cond (leb least (length ts) && leb (length ts) most) (Some ts) None) o

some_is : {A : Type 0} {x y : A} → Some x ≡ Some y → x ≡ y
some_is e = cc

more_length : {A : Type 0} (n : ℕ) (r : Option A) (o : Option (List A)) (ts : List A) → ((xs : List A) → o ≡ Some xs → length xs ≡ n)
    → option_and_then (λ a. option_map (λ xs. a ∷ xs) o) r ≡ Some ts → length ts ≡ suc n
more_length n None o ts rest e = cc
more_length n (Some a) None ts rest e = cc
more_length n (Some a) (Some xs) ts rest e = let here : a ∷ xs ≡ ts = some_is e in sym (ap length here) ∙ ap suc (rest xs refl)

pub read_length : {A : Type 0} {reads : Data → Option A} {all : Items → Option (List A)} → ReadsEach reads all
    → (vs : List Value) (ts : List A) → all (items_view vs) ≡ Some ts → length ts ≡ length vs
read_length each [] ts e = let here : [] ≡ ts = some_is (sym each.none ∙ e) in sym (ap length here)
read_length {A} {reads} {all} each (v ∷ vs) ts e =
    more_length (length vs) (reads (view v)) (all (items_view vs)) ts (λ xs h. read_length each vs xs h)
    (sym (each.more (view v) (items_view vs)) ∙ e)

not_below : (a b : ℕ) → a < b → leb b a ≡ false
not_below a b lt = by (leb b a) refl
  where
    by : (r : Bool) → leb b a ≡ r → r ≡ false
    by true e = let le = leb-true b a e in absurd (omega (arith, le, lt))
    by false e = refl

bounded_in : {A : Type 0} (least most n : ℕ) (o : Option (List A)) → ((ts : List A) → o ≡ Some ts → length ts ≡ n) → least ≤ n → n ≤ most
    → bounded least most o ≡ o
bounded_in least most n None len ge le = refl
bounded_in least most n (Some ts) len ge le = rw (len ts refl, le-leb least n ge, le-leb n most le) refl

bounded_short : {A : Type 0} (least most n : ℕ) (o : Option (List A)) → ((ts : List A) → o ≡ Some ts → length ts ≡ n) → n < least
    → bounded least most o ≡ None
bounded_short least most n None len lt = refl
bounded_short least most n (Some ts) len lt = rw (len ts refl, not_below n least lt) refl

at_false : {A : Type 0} (b : Bool) (a : A) → cond (b && false) (Some a) None ≡ None
at_false true a = refl
at_false false a = refl

bounded_long : {A : Type 0} (least most n : ℕ) (o : Option (List A)) → ((ts : List A) → o ≡ Some ts → length ts ≡ n) → most < n
    → bounded least most o ≡ None
bounded_long least most n None len lt = refl
bounded_long least most n (Some ts) len lt = rw (len ts refl, not_below most n lt) (at_false (leb least n) ts)

abbrev listed : {A : Type 0} → ℕ → ℕ → (Items → Option (List A)) → Option Items → Option (List A)
listed least most all o = bounded least most (option_and_then all o)

pub list_in : {A : Type 0} {reads : Data → Option A} {all : Items → Option (List A)} → ReadsEach reads all
    → (o : Option Items) (vs : List Value) (least most : ℕ) → Some (items_view vs) ≡ o → least ≤ length vs → length vs ≤ most
    → all (items_view vs) ≡ listed least most all o
list_in {A} {reads} {all} each o vs least most is ge le =
    sym (bounded_in least most (length vs) (all (items_view vs)) (read_length each vs) ge le) ∙ ap (listed least most all) is

pub list_short : {A : Type 0} {reads : Data → Option A} {all : Items → Option (List A)} → ReadsEach reads all
    → (o : Option Items) (vs : List Value) (least most : ℕ) → Some (items_view vs) ≡ o → length vs < least → None ≡ listed least most all o
list_short {A} {reads} {all} each o vs least most is lt =
    sym (bounded_short least most (length vs) (all (items_view vs)) (read_length each vs) lt) ∙ ap (listed least most all) is

pub list_long : {A : Type 0} {reads : Data → Option A} {all : Items → Option (List A)} → ReadsEach reads all
    → (o : Option Items) (vs : List Value) (least most : ℕ) → Some (items_view vs) ≡ o → most < length vs → None ≡ listed least most all o
list_long {A} {reads} {all} each o vs least most is lt =
    sym (bounded_long least most (length vs) (all (items_view vs)) (read_length each vs) lt) ∙ ap (listed least most all) is

pub texts_each : ReadsEach as_str texts_of
texts_each = record { none = refl; more = λ d ds. refl }

pub thresholds_each : ReadsEach threshold_of thresholds_of
thresholds_each = record { none = refl; more = λ d ds. refl }

-- one more threshold
pub thresholds_step : (items : List Value) (i : ℕ) (d : Value) (old new : List Threshold) (t : Threshold) → i < length items
    → threshold_of (view (get_or items i d)) ≡ Some (threshold_content t) → new ≡ old ++ t ∷ []
    → joined (map threshold_content old) (thresholds_of (items_view (drop i items)))
    ≡ joined (map threshold_content new) (thresholds_of (items_view (drop (i + 1) items)))
thresholds_step items i d old new t lt is pushed =
    each_step thresholds_each items i d (map threshold_content old) (threshold_content t) lt is
    ∙ ap (λ done. joined done (thresholds_of (items_view (drop (i + 1) items)))) (sym (ap (map threshold_content) pushed ∙ map-append threshold_content old (t ∷ [])))
