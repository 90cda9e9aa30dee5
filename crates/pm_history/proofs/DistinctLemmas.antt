-- The files of a history are distinct by end and id.
use Rattle.std.proofs.Common.{◌≡◌, ℕ, zero, suc, ◌+◌, ◌*◌, ◌≤◌, Bool, true, false, not, cond, List, [], ◌∷◌, ◌++◌, filter, Option, Some, None, refl, sym, ap, ◌∙◌, arith}
use Rattle.std.specs.List.{flat_map, AllByRecursion}
use Rattle.std.specs.Str.{bytes_eq}
use Rattle.std.specs.Ordering.{ordering_reverse, nat_cmp, match_ordering}
use Rattle.std.specs.declared.cmp.Ordering.{Ordering}
use Rattle.std.specs.declared.cmp.Ordering.TheVariants.{Less, Equal, Greater}
use Rattle.std.specs.Cmp.Lexicographic.{slice_cmp}
use Rattle.std.proofs.lemmas.Cmp.{nat_list_cmp_total}
use Rattle.pm_base.specs.Moment.{tick_of}
use Rattle.pm_history.specs.declared.entry.Side.{Side}
use Rattle.pm_history.specs.declared.entry.Side.TheVariants.{Job, Monitor}
use Rattle.pm_history.specs.declared.entry.Entry.{Entry}
use Rattle.pm_history.specs.declared.entry.Entry.TheVariants.{JobMade, JobDeleted, MonitorMade, MonitorDeleted}
use Rattle.pm_history.specs.History.{History, Start, ◌▷◌, before, last_moment}
use Rattle.pm_history.specs.Terms.{Terms}
use Rattle.pm_history.specs.Ticks.{behind}
use Rattle.pm_history.specs.Standing.{Standing, making_of, with_id, ids_next, ids_after, standing_after}
use Rattle.pm_history.specs.Files.{Report, report_of, is_due, file_of, file_at, files_at, files_of}
use Rattle.pm_history.specs.Laws.{AreApart, AreDistinct}

-- ---- of each element

pub each-append : {A : Type 0} (P : A → Type 0) (xs ys : List A) → AllByRecursion P xs → AllByRecursion P ys → AllByRecursion P (xs ++ ys)
each-append P [] ys one other = other
each-append P (x ∷ xs) ys one other = (one.0, each-append P xs ys one.1 other)

pub each-map : {A : Type 0} (P Q : A → Type 0) (xs : List A) → ((x : A) → P x → Q x) → AllByRecursion P xs → AllByRecursion Q xs
each-map P Q [] f all = tt
each-map P Q (x ∷ xs) f all = (f x all.0, each-map P Q xs f all.1)

each-filter : {A : Type 0} (P : A → Type 0) (p : A → Bool) (xs : List A) → AllByRecursion P xs → AllByRecursion P (filter p xs)
each-filter P p [] all = tt
each-filter P p (x ∷ xs) all = by (p x) (each-filter P p xs all.1)
  where
    by : (b : Bool) → AllByRecursion P (filter p xs) → AllByRecursion P (cond b (x ∷ filter p xs) (filter p xs))
    by true rest = (all.0, rest)
    by false rest = rest

-- ---- ids stand in byte order, each once

abbrev IsSorted : List (List ℕ) → Type 0
IsSorted [] = Unit {0}
IsSorted (i ∷ is) = AllByRecursion (λ j. slice_cmp nat_cmp i j ≡ Less) is × IsSorted is

less-irrefl : (i : List ℕ) → slice_cmp nat_cmp i i ≡ Less → ⊥
less-irrefl i less =
    let turned : Less ≡ Greater = sym less ∙ (nat_list_cmp_total.antisymm i i ∙ ap ordering_reverse less) in
    absurd cc

with_id-each : (P : List ℕ → Type 0) (id : List ℕ) (is : List (List ℕ)) → P id → AllByRecursion P is → AllByRecursion P (with_id id is)
with_id-each P id [] one all = (one, tt)
with_id-each P id (i ∷ is) one all = by (slice_cmp nat_cmp id i) (with_id-each P id is one all.1)
  where
    by : (o : Ordering) → AllByRecursion P (with_id id is) → AllByRecursion P (match_ordering o (id ∷ (i ∷ is)) (i ∷ is) (i ∷ with_id id is))
    by Less rest = (one, all)
    by Equal rest = all
    by Greater rest = (all.0, rest)

with_id-sorted : (id : List ℕ) (is : List (List ℕ)) → IsSorted is → IsSorted (with_id id is)
with_id-sorted id [] sorted = (tt, tt)
with_id-sorted id (i ∷ is) sorted = by (slice_cmp nat_cmp id i) refl (with_id-sorted id is sorted.1)
  where
    by : (o : Ordering) → slice_cmp nat_cmp id i ≡ o → IsSorted (with_id id is) → IsSorted (match_ordering o (id ∷ (i ∷ is)) (i ∷ is) (i ∷ with_id id is))
    by Less less rest = ((less, each-map (λ j. slice_cmp nat_cmp i j ≡ Less) (λ j. slice_cmp nat_cmp id j ≡ Less) is (λ j later. nat_list_cmp_total.trans id i j less later) sorted.0), sorted)
    by Equal same rest = sorted
    by Greater greater rest = (with_id-each (λ j. slice_cmp nat_cmp i j ≡ Less) id is (nat_list_cmp_total.antisymm i id ∙ ap ordering_reverse greater) sorted.0, rest)

filter-sorted : (p : List ℕ → Bool) (is : List (List ℕ)) → IsSorted is → IsSorted (filter p is)
filter-sorted p [] sorted = tt
filter-sorted p (i ∷ is) sorted = by (p i) (filter-sorted p is sorted.1)
  where
    by : (b : Bool) → IsSorted (filter p is) → IsSorted (cond b (i ∷ filter p is) (filter p is))
    by true rest = (each-filter (λ j. slice_cmp nat_cmp i j ≡ Less) p is sorted.0, rest)
    by false rest = rest

ids_next-sorted : (side : Side) (ids : List (List ℕ)) (e : Entry) → IsSorted ids → IsSorted (ids_next side ids e)
ids_next-sorted Job ids (JobMade moment id body) sorted = with_id-sorted id ids sorted
ids_next-sorted Job ids (JobDeleted moment id) sorted = filter-sorted (λ i. not (bytes_eq i id)) ids sorted
ids_next-sorted Monitor ids (MonitorMade moment id body) sorted = with_id-sorted id ids sorted
ids_next-sorted Monitor ids (MonitorDeleted moment id) sorted = filter-sorted (λ i. not (bytes_eq i id)) ids sorted
ids_next-sorted _ ids _ sorted = sorted

ids_after-sorted : (side : Side) (h : History) → IsSorted (ids_after side h)
ids_after-sorted side Start = tt
ids_after-sorted side (h ▷ e) = ids_next-sorted side (ids_after side h) e (ids_after-sorted side h)

-- ---- files

distinct-append : (xs ys : List Report) → AreDistinct xs → AreDistinct ys → AllByRecursion (λ x. AllByRecursion (AreApart x) ys) xs → AreDistinct (xs ++ ys)
distinct-append [] ys one other apart = other
distinct-append (x ∷ xs) ys one other apart =
    (each-append (AreApart x) xs ys one.0 apart.0, distinct-append xs ys one.1 other apart.1)

flat_map-each : {A : Type 0} (P : A → Type 0) (Q : Report → Type 0) (f : A → List Report) (is : List A) → ((i : A) → P i → AllByRecursion Q (f i)) → AllByRecursion P is → AllByRecursion Q (flat_map f is)
flat_map-each P Q f [] each all = tt
flat_map-each P Q f (i ∷ is) each all = each-append Q (f i) (flat_map f is) (each i all.0) (flat_map-each P Q f is each all.1)

-- what a file of an id at an end says of itself
abbrev IsOf : List ℕ → ℕ → Report → Type 0
IsOf id end f = (f.end ≡ end) × (f.job ≡ id)

all-true : {A : Type 0} (P : A → Type 0) (is : List A) → ((i : A) → P i) → AllByRecursion P is
all-true P [] all = tt
all-true P (i ∷ is) all = (all i, all-true P is all)

module _ (terms : Side → List ℕ → Terms) where
  file_of-is : (h : History) (id : List ℕ) (end : ℕ) (o : Option Standing) → AllByRecursion (IsOf id end) (file_of terms h id end o)
  file_of-is h id end None = tt
  file_of-is h id end (Some s) = by (is_due terms h (making_of Job id s) (terms Job s.body) end)
    where
      by : (b : Bool) → AllByRecursion (IsOf id end) (cond b (report_of terms h (making_of Job id s) (terms Job s.body) end ∷ []) [])
      by true = ((refl, refl), tt)
      by false = tt

  file_of-distinct : (h : History) (id : List ℕ) (end : ℕ) (o : Option Standing) → AreDistinct (file_of terms h id end o)
  file_of-distinct h id end None = tt
  file_of-distinct h id end (Some s) = by (is_due terms h (making_of Job id s) (terms Job s.body) end)
    where
      by : (b : Bool) → AreDistinct (cond b (report_of terms h (making_of Job id s) (terms Job s.body) end ∷ []) [])
      by true = (tt, tt)
      by false = tt

  file_at-is : (h : History) (end : ℕ) (id : List ℕ) → AllByRecursion (IsOf id end) (file_at terms h end id)
  file_at-is h end id = file_of-is h id end (standing_after terms Job (before (60 * end) h) id)

  among-distinct : (h : History) (end : ℕ) (is : List (List ℕ)) → IsSorted is → AreDistinct (flat_map (file_at terms h end) is)
  among-distinct h end [] sorted = tt
  among-distinct h end (i ∷ is) sorted =
      distinct-append (file_at terms h end i) (flat_map (file_at terms h end) is)
      (file_of-distinct h i end (standing_after terms Job (before (60 * end) h) i))
      (among-distinct h end is sorted.1)
      (each-map (IsOf i end) (λ x. AllByRecursion (AreApart x) (flat_map (file_at terms h end) is)) (file_at terms h end i)
      (λ x of_i. flat_map-each (λ j. slice_cmp nat_cmp i j ≡ Less) (AreApart x) (file_at terms h end) is
      (λ j less. each-map (IsOf j end) (AreApart x) (file_at terms h end j)
      (λ y of_j ends jobs.
      let same : i ≡ j = sym of_i.1 ∙ (jobs ∙ of_j.1) in
      less-irrefl i (ap (λ k. slice_cmp nat_cmp i k) same ∙ less))
      (file_at-is h end j))
      sorted.0)
      (file_at-is h end i))

  files_at-distinct : (h : History) (end : ℕ) → AreDistinct (files_at terms h end)
  files_at-distinct h end = among-distinct h end (ids_after Job (before (60 * end) h)) (ids_after-sorted Job (before (60 * end) h))

  files_at-ends : (h : History) (end : ℕ) → AllByRecursion (λ f. f.end ≡ end) (files_at terms h end)
  files_at-ends h end =
      flat_map-each (λ id. Unit {0}) (λ f. f.end ≡ end) (file_at terms h end) (ids_after Job (before (60 * end) h))
      (λ id any. each-map (IsOf id end) (λ f. f.end ≡ end) (file_at terms h end id) (λ f of_id. of_id.0) (file_at-is h end id))
      (all-true (λ id. Unit {0}) (ids_after Job (before (60 * end) h)) (λ id. tt))

  pub behind-ends : (h : History) (t n : ℕ) → AllByRecursion (λ f. f.end ≤ t + n) (behind (files_at terms h) t n)
  behind-ends h t zero = tt
  behind-ends h t (suc n) =
      each-append (λ f. f.end ≤ t + suc n) (behind (files_at terms h) t n) (files_at terms h (suc (t + n)))
      (each-map (λ f. f.end ≤ t + n) (λ f. f.end ≤ t + suc n) (behind (files_at terms h) t n) (λ f le. omega arith) (behind-ends h t n))
      (each-map (λ f. f.end ≡ suc (t + n)) (λ f. f.end ≤ t + suc n) (files_at terms h (suc (t + n))) (λ f is. omega arith) (files_at-ends h (suc (t + n))))

  behind-distinct : (h : History) (t n : ℕ) → AreDistinct (behind (files_at terms h) t n)
  behind-distinct h t zero = tt
  behind-distinct h t (suc n) =
      distinct-append (behind (files_at terms h) t n) (files_at terms h (suc (t + n)))
      (behind-distinct h t n)
      (files_at-distinct h (suc (t + n)))
      (each-map (λ f. f.end ≤ t + n) (λ x. AllByRecursion (AreApart x) (files_at terms h (suc (t + n)))) (behind (files_at terms h) t n)
      (λ x le. each-map (λ f. f.end ≡ suc (t + n)) (AreApart x) (files_at terms h (suc (t + n)))
      (λ y is ends jobs. let late : ⊥ = omega (arith, le, is, ends) in late)
      (files_at-ends h (suc (t + n))))
      (behind-ends h t n))

  pub files_of-distinct : (h : History) → AreDistinct (files_of terms h)
  files_of-distinct h = behind-distinct h 0 (tick_of (last_moment h))
