-- Ids in byte order, each once.
use Rattle.std.proofs.Common.{◌≡◌, ℕ, Bool, true, false, not, cond, List, [], ◌∷◌, filter, refl, sym, ap, ◌∙◌}
use Rattle.std.specs.List.{AllByRecursion}
use Rattle.std.specs.Str.{bytes_eq}
use Rattle.std.specs.Ordering.{ordering_reverse, nat_cmp, match_ordering, is_eq}
use Rattle.std.specs.declared.cmp.Ordering.{Ordering}
use Rattle.std.specs.declared.cmp.Ordering.TheVariants.{Less, Equal, Greater}
use Rattle.std.specs.Cmp.Lexicographic.{slice_cmp}
use Rattle.std.proofs.lemmas.Cmp.{nat_list_cmp_total}
use Rattle.std.proofs.lemmas.Map.Text.{is_eq-slice_cmp}
use Rattle.pm_history.specs.declared.entry.Entry.{Entry}
use Rattle.pm_history.specs.declared.entry.Entry.TheVariants.{Subscribed, Unsubscribed}
use Rattle.pm_history.specs.History.{History, Start, ◌▷◌}
use Rattle.pm_history.specs.Standing.{with_id}
use Rattle.pm_items.specs.Subscribed.{subscribers_next, subscribers_after}

abbrev pub IsBefore : List ℕ → List ℕ → Type 0
IsBefore i j = slice_cmp nat_cmp i j ≡ Less

abbrev pub IsSorted : List (List ℕ) → Type 0
IsSorted [] = Unit {0}
IsSorted (i ∷ is) = AllByRecursion (IsBefore i) is × IsSorted is

pub before-other : (i j : List ℕ) → IsBefore i j → bytes_eq i j ≡ false
before-other i j less = sym (is_eq-slice_cmp i j) ∙ ap is_eq less

pub before-turned : (i j : List ℕ) → IsBefore i j → bytes_eq j i ≡ false
before-turned i j less =
    sym (is_eq-slice_cmp j i) ∙ ap is_eq (nat_list_cmp_total.antisymm j i ∙ ap ordering_reverse less)

pub equal-same : (i j : List ℕ) → slice_cmp nat_cmp i j ≡ Equal → bytes_eq j i ≡ true
equal-same i j equal =
    sym (is_eq-slice_cmp j i) ∙ ap is_eq (nat_list_cmp_total.antisymm j i ∙ ap ordering_reverse equal)

each-map : (P Q : List ℕ → Type 0) (is : List (List ℕ)) → ((i : List ℕ) → P i → Q i) → AllByRecursion P is → AllByRecursion Q is
each-map P Q [] f all = tt
each-map P Q (i ∷ is) f all = (f i all.0, each-map P Q is f all.1)

each-filter : (P : List ℕ → Type 0) (p : List ℕ → Bool) (is : List (List ℕ)) → AllByRecursion P is → AllByRecursion P (filter p is)
each-filter P p [] all = tt
each-filter P p (i ∷ is) all = by (p i) (each-filter P p is all.1)
  where
    by : (b : Bool) → AllByRecursion P (filter p is) → AllByRecursion P (cond b (i ∷ filter p is) (filter p is))
    by true rest = (all.0, rest)
    by false rest = rest

with_id-each : (P : List ℕ → Type 0) (id : List ℕ) (is : List (List ℕ)) → P id → AllByRecursion P is → AllByRecursion P (with_id id is)
with_id-each P id [] one all = (one, tt)
with_id-each P id (i ∷ is) one all = by (slice_cmp nat_cmp id i) (with_id-each P id is one all.1)
  where
    by : (o : Ordering) → AllByRecursion P (with_id id is) → AllByRecursion P (match_ordering o (id ∷ (i ∷ is)) (i ∷ is) (i ∷ with_id id is))
    by Less rest = (one, all)
    by Equal rest = all
    by Greater rest = (all.0, rest)

with_id-sorted : (id : List ℕ) (is : List (List ℕ)) → IsSorted is → IsSorted (with_id id is)
with_id-sorted id [] sorted = (tt, tt)
with_id-sorted id (i ∷ is) sorted = by (slice_cmp nat_cmp id i) refl (with_id-sorted id is sorted.1)
  where
    by : (o : Ordering) → slice_cmp nat_cmp id i ≡ o → IsSorted (with_id id is) → IsSorted (match_ordering o (id ∷ (i ∷ is)) (i ∷ is) (i ∷ with_id id is))
    by Less less rest = ((less, each-map (IsBefore i) (IsBefore id) is (λ j later. nat_list_cmp_total.trans id i j less later) sorted.0), sorted)
    by Equal same rest = sorted
    by Greater greater rest = (with_id-each (IsBefore i) id is (nat_list_cmp_total.antisymm i id ∙ ap ordering_reverse greater) sorted.0, rest)

filter-sorted : (p : List ℕ → Bool) (is : List (List ℕ)) → IsSorted is → IsSorted (filter p is)
filter-sorted p [] sorted = tt
filter-sorted p (i ∷ is) sorted = by (p i) (filter-sorted p is sorted.1)
  where
    by : (b : Bool) → IsSorted (filter p is) → IsSorted (cond b (i ∷ filter p is) (filter p is))
    by true rest = (each-filter (IsBefore i) p is sorted.0, rest)
    by false rest = rest

next-sorted : (is : List (List ℕ)) (e : Entry) → IsSorted is → IsSorted (subscribers_next is e)
next-sorted is (Subscribed moment id port path) sorted = with_id-sorted id is sorted
next-sorted is (Unsubscribed moment id) sorted = filter-sorted (λ i. not (bytes_eq i id)) is sorted
next-sorted is _ sorted = sorted

-- The ids of subscriptions rise.
pub subscribers_after-sorted : (h : History) → IsSorted (subscribers_after h)
subscribers_after-sorted Start = tt
subscribers_after-sorted (h ▷ e) = next-sorted (subscribers_after h) e (subscribers_after-sorted h)
