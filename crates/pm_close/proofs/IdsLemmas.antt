-- The ids of a history stand in byte order, each once.
use Rattle.std.proofs.Common.{◌≡◌, ℕ, Bool, true, false, not, cond, List, [], ◌∷◌, filter, refl, sym, ap, ◌∙◌}
use Rattle.std.specs.List.{list_any, AllByRecursion}
use Rattle.std.specs.Str.{bytes_eq}
use Rattle.std.specs.Ordering.{ordering_reverse, nat_cmp, is_eq, match_ordering}
use Rattle.std.specs.declared.cmp.Ordering.{Ordering}
use Rattle.std.specs.declared.cmp.Ordering.TheVariants.{Less, Equal, Greater}
use Rattle.std.specs.Cmp.Lexicographic.{slice_cmp}
use Rattle.std.proofs.lemmas.Cmp.{nat_list_cmp_total}
use Rattle.std.proofs.lemmas.Map.Text.{is_eq-slice_cmp}
use Rattle.pm_history.specs.declared.entry.Side.{Side}
use Rattle.pm_history.specs.declared.entry.Side.TheVariants.{Job, Monitor}
use Rattle.pm_history.specs.declared.entry.Entry.{Entry}
use Rattle.pm_history.specs.declared.entry.Entry.TheVariants.{JobMade, JobDeleted, MonitorMade, MonitorDeleted}
use Rattle.pm_history.specs.History.{History, Start, ◌▷◌}
use Rattle.pm_history.specs.Standing.{with_id, ids_next, ids_after}
use Rattle.pm_history.proofs.DistinctLemmas.{each-map}
use Rattle.pm_jobs.specs.State.{AreApart}

abbrev IsBehind : List ℕ → List ℕ → Type 0
IsBehind i j = slice_cmp nat_cmp i j ≡ Less

abbrev IsSorted : List (List ℕ) → Type 0
IsSorted [] = Unit {0}
IsSorted (i ∷ is) = AllByRecursion (IsBehind i) is × IsSorted is

each-filter : (P : List ℕ → Type 0) (p : List ℕ → Bool) (xs : List (List ℕ)) → AllByRecursion P xs → AllByRecursion P (filter p xs)
each-filter P p [] all = tt
each-filter P p (x ∷ xs) all = by (p x) (each-filter P p xs all.1)
  where
    by : (b : Bool) → AllByRecursion P (filter p xs) → AllByRecursion P (cond b (x ∷ filter p xs) (filter p xs))
    by true rest = (all.0, rest)
    by false rest = rest

each-with_id : (P : List ℕ → Type 0) (id : List ℕ) (is : List (List ℕ)) → P id → AllByRecursion P is → AllByRecursion P (with_id id is)
each-with_id P id [] one all = (one, tt)
each-with_id P id (i ∷ is) one all = by (slice_cmp nat_cmp id i) (each-with_id P id is one all.1)
  where
    by : (o : Ordering) → AllByRecursion P (with_id id is)
        → AllByRecursion P (match_ordering o (id ∷ (i ∷ is)) (i ∷ is) (i ∷ with_id id is))
    by Less rest = (one, all)
    by Equal rest = all
    by Greater rest = (all.0, rest)

sorted-with_id : (id : List ℕ) (is : List (List ℕ)) → IsSorted is → IsSorted (with_id id is)
sorted-with_id id [] sorted = (tt, tt)
sorted-with_id id (i ∷ is) sorted = by (slice_cmp nat_cmp id i) refl (sorted-with_id id is sorted.1)
  where
    by : (o : Ordering) → slice_cmp nat_cmp id i ≡ o → IsSorted (with_id id is)
        → IsSorted (match_ordering o (id ∷ (i ∷ is)) (i ∷ is) (i ∷ with_id id is))
    by Less less rest =
        ((less, each-map (IsBehind i) (IsBehind id) is (λ j later. nat_list_cmp_total.trans id i j less later) sorted.0), sorted)
    by Equal same rest = sorted
    by Greater greater rest =
        (each-with_id (IsBehind i) id is (nat_list_cmp_total.antisymm i id ∙ ap ordering_reverse greater) sorted.0, rest)

sorted-filter : (p : List ℕ → Bool) (is : List (List ℕ)) → IsSorted is → IsSorted (filter p is)
sorted-filter p [] sorted = tt
sorted-filter p (i ∷ is) sorted = by (p i) (sorted-filter p is sorted.1)
  where
    by : (b : Bool) → IsSorted (filter p is) → IsSorted (cond b (i ∷ filter p is) (filter p is))
    by true rest = (each-filter (IsBehind i) p is sorted.0, rest)
    by false rest = rest

sorted-next : (side : Side) (ids : List (List ℕ)) (e : Entry) → IsSorted ids → IsSorted (ids_next side ids e)
sorted-next Job ids (JobMade moment id body) sorted = sorted-with_id id ids sorted
sorted-next Job ids (JobDeleted moment id) sorted = sorted-filter (λ i. not (bytes_eq i id)) ids sorted
sorted-next Monitor ids (MonitorMade moment id body) sorted = sorted-with_id id ids sorted
sorted-next Monitor ids (MonitorDeleted moment id) sorted = sorted-filter (λ i. not (bytes_eq i id)) ids sorted
sorted-next _ ids _ sorted = sorted

sorted-after : (side : Side) (h : History) → IsSorted (ids_after side h)
sorted-after side Start = tt
sorted-after side (h ▷ e) = sorted-next side (ids_after side h) e (sorted-after side h)

behind-apart : (i j : List ℕ) → IsBehind i j → bytes_eq i j ≡ false
behind-apart i j less = sym (is_eq-slice_cmp i j) ∙ ap is_eq less

none-of : (i : List ℕ) (is : List (List ℕ)) → AllByRecursion (IsBehind i) is → list_any (bytes_eq i) is ≡ false
none-of i [] all = refl
none-of i (j ∷ js) all = rw (behind-apart i j all.0) (none-of i js all.1)

sorted-apart : (is : List (List ℕ)) → IsSorted is → AreApart is
sorted-apart [] sorted = tt
sorted-apart (i ∷ is) sorted = (none-of i is sorted.0, sorted-apart is sorted.1)

pub ids-apart : (side : Side) (h : History) → AreApart (ids_after side h)
ids-apart side h = sorted-apart (ids_after side h) (sorted-after side h)
