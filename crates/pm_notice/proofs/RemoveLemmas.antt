-- A subscription that is taken out of its place.
use Rattle.std.proofs.Common.{rules, ◌≡◌, ℕ, zero, suc, ◌<◌, Bool, true, false, not, cond, List, [], ◌∷◌, length, filter, remove, Option, Some, None, refl, sym, ap, ◌∙◌, arith}
use Rattle.std.specs.List.{AllByRecursion}
use Rattle.std.specs.Str.{bytes_eq}
use Rattle.std.specs.Cmp.Lexicographic.{same_text}
use Rattle.pm_history.specs.Standing.{without_id}
use Rattle.pm_notice.specs.declared.subscription.Subscription.{Subscription}
use Rattle.pm_notice.specs.Plan.{subscription_under}
use Rattle.pm_notice.specs.StandFor.{ids_of, id_at}
use Rattle.pm_notice.proofs.OrderLemmas.{IsBefore, IsSorted, before-other, before-turned}

same_bytes : (a b : List ℕ) → bytes_eq a b ≡ true → a ≡ b
same_bytes a b e = same_text a b (sym e)

-- The subscriptions without an id.
abbrev pub without : List ℕ → List Subscription → List Subscription
without id xs = filter (λ s. not (bytes_eq s.id id)) xs

later-kept : (id : List ℕ) (xs : List Subscription) → AllByRecursion (IsBefore id) (ids_of xs) → xs ≡ without id xs
later-kept id [] all = refl
later-kept id (x ∷ xs) all =
    rw (before-turned id x.id all.0) (ap (λ (t : List Subscription). x ∷ t) (later-kept id xs all.1))

at-later : (i : List ℕ) (xs : List Subscription) (place : ℕ) → AllByRecursion (IsBefore i) (ids_of xs) → place < length xs → IsBefore i (id_at xs place)
at-later i [] place all lt = absurd (omega (arith, lt))
at-later i (x ∷ xs) zero all lt = all.0
at-later i (x ∷ xs) (suc place) all lt = at-later i xs place all.1 (omega (arith, lt))

itself : (a : List ℕ) → bytes_eq a a ≡ true
itself a = search rules

pub remove-without : (xs : List Subscription) (place : ℕ) → IsSorted (ids_of xs) → place < length xs → remove xs place ≡ without (id_at xs place) xs
remove-without [] place sorted lt = absurd (omega (arith, lt))
remove-without (x ∷ xs) zero sorted lt = rw (itself x.id) (later-kept x.id xs sorted.0)
remove-without (x ∷ xs) (suc place) sorted lt =
    let less = at-later x.id xs place sorted.0 (omega (arith, lt)) in
    rw (before-other x.id (id_at xs place) less) (ap (λ (t : List Subscription). x ∷ t) (remove-without xs place sorted.1 (omega (arith, lt))))

pub ids-without : (id : List ℕ) (xs : List Subscription) → ids_of (without id xs) ≡ without_id id (ids_of xs)
ids-without id [] = refl
ids-without id (x ∷ xs) = by (bytes_eq x.id id) (ids-without id xs)
  where
    by : (b : Bool) → ids_of (without id xs) ≡ without_id id (ids_of xs)
        → ids_of (cond (not b) (x ∷ without id xs) (without id xs)) ≡ cond (not b) (x.id ∷ without_id id (ids_of xs)) (without_id id (ids_of xs))
    by true rest = rest
    by false rest = ap (λ (t : List (List ℕ)). x.id ∷ t) rest

abbrev nobody : Option Subscription
nobody = None

either : (b : Bool) → nobody ≡ cond b nobody nobody
either true = refl
either false = refl

-- Which one has an id, where those of an id were taken out.
pub under-without : (gone id : List ℕ) (xs : List Subscription)
    → subscription_under id (without gone xs) ≡ cond (bytes_eq gone id) None (subscription_under id xs)
under-without gone id [] = either (bytes_eq gone id)
under-without gone id (x ∷ xs) = by (bytes_eq x.id gone) (bytes_eq x.id id) (bytes_eq gone id) refl refl refl (under-without gone id xs)
  where
    by : (b d g : Bool) → bytes_eq x.id gone ≡ b → bytes_eq x.id id ≡ d → bytes_eq gone id ≡ g
        → subscription_under id (without gone xs) ≡ cond g None (subscription_under id xs)
        → subscription_under id (cond (not b) (x ∷ without gone xs) (without gone xs)) ≡ cond g None (cond d (Some x) (subscription_under id xs))
    by true true true e f g rest = rest
    by true true false e f g rest = let same = ap (λ i. bytes_eq i id) (same_bytes x.id gone e) in absurd (let bad : true ≡ false = sym f ∙ same ∙ g in cc)
    by true false g e f h rest = rest
    by false true true e f g rest =
        let same = same_bytes x.id id f ∙ sym (same_bytes gone id g) in
        absurd (let bad : true ≡ false = sym (itself gone) ∙ ap (λ i. bytes_eq i gone) (sym same) ∙ e in cc)
    by false true false e f g rest = rw f refl
    by false false g e f h rest = rw f rest
