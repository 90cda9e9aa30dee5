-- A subscription that is put at its place.
use Rattle.std.proofs.Common.{◌≡◌, ℕ, suc, ◌+◌, ◌≤◌, Bool, true, false, not, cond, List, [], ◌∷◌, length, position, insert, nat_lt, Some, None, unwrap_or, refl, sym, ap, ◌∙◌, arith}
use Rattle.std.specs.List.{prefix_len}
use Rattle.std.specs.Str.{bytes_eq}
use Rattle.std.specs.Ordering.{nat_cmp, match_ordering}
use Rattle.std.specs.declared.cmp.Ordering.{Ordering}
use Rattle.std.specs.declared.cmp.Ordering.TheVariants.{Less, Equal, Greater}
use Rattle.std.specs.Cmp.Lexicographic.{slice_cmp, same_text}
use Rattle.std.proofs.lemmas.List.Sums.{prefix_len-le-length}
use Rattle.std.proofs.lemmas.Bool.Decides.{nat_tests}
use Rattle.pm_history.specs.Standing.{with_id}
use Rattle.pm_notice.specs.declared.subscription.Subscription.{Subscription}
use Rattle.pm_notice.specs.Order.{comes_before}
use Rattle.pm_notice.specs.Plan.{subscription_under, with_subscription}
use Rattle.pm_notice.specs.StandFor.{ids_of}
use Rattle.pm_notice.proofs.OrderLemmas.{equal-same}

place-prefix : {X : Type 0} (p : X → Bool) (xs : List X) → unwrap_or (position p xs) (length xs) ≡ prefix_len (λ x. not (p x)) xs
place-prefix p xs = by (nat_lt (prefix_len (λ x. not (p x)) xs) (length xs)) refl
  where
    by : (b : Bool) → nat_lt (prefix_len (λ x. not (p x)) xs) (length xs) ≡ b
        → unwrap_or (cond b (Some (prefix_len (λ x. not (p x)) xs)) None) (length xs) ≡ prefix_len (λ x. not (p x)) xs
    by true e = refl
    by false e =
        let le = prefix_len-le-length (λ x. not (p x)) xs in
        let ge : length xs ≤ prefix_len (λ x. not (p x)) xs = grind (arith, nat_tests, e) in
        omega (arith, le, ge)

-- None has the id, so the first one hasn't, and none of the others has.
other : (id : List ℕ) (x : Subscription) (xs : List Subscription) → subscription_under id (x ∷ xs) ≡ None
    → (bytes_eq x.id id ≡ false) × (subscription_under id xs ≡ None)
other id x xs none = by (bytes_eq x.id id) refl none
  where
    by : (b : Bool) → bytes_eq x.id id ≡ b → cond b (Some x) (subscription_under id xs) ≡ None → (b ≡ false) × (subscription_under id xs ≡ None)
    by true e h = cc
    by false e h = (refl, h)

not_same : {A : Type 0} (b : Bool) → b ≡ true → b ≡ false → A
not_same true t f = cc
not_same false t f = cc

insert-next : (x s : Subscription) (xs : List Subscription) (k : ℕ) → insert (x ∷ xs) (1 + k) s ≡ x ∷ insert xs k s
insert-next x s xs k = let e : 1 + k ≡ suc k = omega arith in ap (λ n. insert (x ∷ xs) n s) e

inserted : (s : Subscription) (xs : List Subscription) → subscription_under s.id xs ≡ None
    → insert xs (prefix_len (λ x. not (comes_before s.id x.id)) xs) s ≡ with_subscription s xs
inserted s [] none = refl
inserted s (x ∷ xs) none = by (slice_cmp nat_cmp s.id x.id) refl (inserted s xs (other s.id x xs none).1)
  where
    by : (o : Ordering) → slice_cmp nat_cmp s.id x.id ≡ o
        → insert xs (prefix_len (λ y. not (comes_before s.id y.id)) xs) s ≡ with_subscription s xs
        → insert (x ∷ xs) (cond (not (match_ordering o true false false)) (1 + prefix_len (λ y. not (comes_before s.id y.id)) xs) 0) s
        ≡ match_ordering o (s ∷ (x ∷ xs)) (x ∷ xs) (x ∷ with_subscription s xs)
    by Less e rest = refl
    by Equal e rest = not_same (bytes_eq x.id s.id) (equal-same s.id x.id e) (other s.id x xs none).0
    by Greater e rest = insert-next x s xs (prefix_len (λ y. not (comes_before s.id y.id)) xs) ∙ ap (λ (t : List Subscription). x ∷ t) rest

-- A subscription that is put before the first one of a later id.
pub insert-with : (s : Subscription) (xs : List Subscription) (place : ℕ) → place ≡ unwrap_or (position (λ x. comes_before s.id x.id) xs) (length xs)
    → subscription_under s.id xs ≡ None → insert xs place s ≡ with_subscription s xs
insert-with s xs place is none =
    ap (λ k. insert xs k s) (is ∙ place-prefix (λ x. comes_before s.id x.id) xs) ∙ inserted s xs none

pub ids-with : (s : Subscription) (xs : List Subscription) → ids_of (with_subscription s xs) ≡ with_id s.id (ids_of xs)
ids-with s [] = refl
ids-with s (x ∷ xs) = by (slice_cmp nat_cmp s.id x.id) (ids-with s xs)
  where
    by : (o : Ordering) → ids_of (with_subscription s xs) ≡ with_id s.id (ids_of xs) → ids_of (match_ordering o (s ∷ (x ∷ xs)) (x ∷ xs) (x ∷ with_subscription s xs))
        ≡ match_ordering o (s.id ∷ (x.id ∷ ids_of xs)) (x.id ∷ ids_of xs) (x.id ∷ with_id s.id (ids_of xs))
    by Less rest = refl
    by Equal rest = refl
    by Greater rest = ap (λ (t : List (List ℕ)). x.id ∷ t) rest

same_bytes : (a b : List ℕ) → bytes_eq a b ≡ true → a ≡ b
same_bytes a b e = same_text a b (sym e)

-- Which one has an id, where one was put in.
pub under-with : (s : Subscription) (xs : List Subscription) (id : List ℕ) → subscription_under s.id xs ≡ None
    → subscription_under id (with_subscription s xs) ≡ cond (bytes_eq s.id id) (Some s) (subscription_under id xs)
under-with s [] id none = refl
under-with s (x ∷ xs) id none = by (slice_cmp nat_cmp s.id x.id) refl (under-with s xs id (other s.id x xs none).1)
  where
    turned : (b d : Bool) → bytes_eq x.id id ≡ b → bytes_eq s.id id ≡ d
        → cond b (Some x) (cond d (Some s) (subscription_under id xs)) ≡ cond d (Some s) (cond b (Some x) (subscription_under id xs))
    turned true true e f =
        let xs_id : x.id ≡ s.id = same_bytes x.id id e ∙ sym (same_bytes s.id id f) in
        not_same (bytes_eq x.id s.id) (ap (bytes_eq x.id) (same_bytes s.id id f) ∙ e) (other s.id x xs none).0
    turned true false e f = refl
    turned false d e f = refl

    by : (o : Ordering) → slice_cmp nat_cmp s.id x.id ≡ o
        → subscription_under id (with_subscription s xs) ≡ cond (bytes_eq s.id id) (Some s) (subscription_under id xs)
        → subscription_under id (match_ordering o (s ∷ (x ∷ xs)) (x ∷ xs) (x ∷ with_subscription s xs))
        ≡ cond (bytes_eq s.id id) (Some s) (subscription_under id (x ∷ xs))
    by Less e rest = refl
    by Equal e rest = not_same (bytes_eq x.id s.id) (equal-same s.id x.id e) (other s.id x xs none).0
    by Greater e rest =
        ap (λ o. cond (bytes_eq x.id id) (Some x) o) rest ∙ turned (bytes_eq x.id id) (bytes_eq s.id id) refl refl
