-- The posts of one round, notice by notice.
use Rattle.std.proofs.Common.{◌≡◌, ℕ, zero, suc, ◌+◌, ◌<◌, ◌≤◌, ◌&&◌, Bool, true, false, cond, List, [], ◌∷◌, ◌++◌, length, map, filter, take, get_or, nat_lt, All, refl, sym, ap, ◌∙◌, arith, append-nil}
use Rattle.std.specs.List.{AllPairs}
use Rattle.std.proofs.lemmas.Bool.Decides.{nat_tests}
use Rattle.std.proofs.lemmas.List.{map-append, take_all}
use Rattle.std.proofs.lemmas.List.Elements.{filter_more, All-head, All-tail}
use Rattle.std.specs.Prelude.{Result, Ok, Err, is_err}
use Rattle.pm_outside.specs.Posts.{Post, Posts}
use Rattle.pm_notice.specs.declared.notice.Notice.{Notice}
use Rattle.pm_notice.specs.declared.subscription.Subscription.{Subscription}
use Rattle.pm_notice.specs.Round.{is_due, post_to, round_posts}

-- What was posted of the first notices.
abbrev pub sent : Subscription → ℕ → List Notice → ℕ → List Post
sent s moment notices i = map (post_to s) (filter (is_due moment s.cursor) (take i notices))

pub sent_due : (s : Subscription) (moment : ℕ) (notices : List Notice) (i : ℕ) (d : Notice) → i < length notices → is_due moment s.cursor (get_or notices i d) ≡ true
    → sent s moment notices (i + 1) ≡ sent s moment notices i ++ post_to s (get_or notices i d) ∷ []
sent_due s moment notices i d lt due =
    ap (map (post_to s)) (filter_more (is_due moment s.cursor) notices i d lt
    ∙ ap (λ b. filter (is_due moment s.cursor) (take i notices) ++ cond b (get_or notices i d ∷ []) []) due)
    ∙ map-append (post_to s) (filter (is_due moment s.cursor) (take i notices)) (get_or notices i d ∷ [])

pub sent_other : (s : Subscription) (moment : ℕ) (notices : List Notice) (i : ℕ) (d : Notice) → i < length notices → is_due moment s.cursor (get_or notices i d) ≡ false
    → sent s moment notices (i + 1) ≡ sent s moment notices i
sent_other s moment notices i d lt other =
    ap (map (post_to s)) (filter_more (is_due moment s.cursor) notices i d lt
    ∙ ap (λ b. filter (is_due moment s.cursor) (take i notices) ++ cond b (get_or notices i d ∷ []) []) other
    ∙ append-nil (filter (is_due moment s.cursor) (take i notices)))

abbrev pub IsRising : List Notice → Type 0
IsRising xs = AllPairs (λ (m n : Notice). m.number < n.number) xs

not_below : (m n : ℕ) → n ≤ m → nat_lt m n ≡ false
not_below m n le = grind (arith, nat_tests)

below : (m n : ℕ) → m < n → nat_lt m n ≡ true
below m n lt = grind (arith, nat_tests)

and_false : (b : Bool) → (b && false) ≡ false
and_false true = refl
and_false false = refl

and_true : (b : Bool) → (b && true) ≡ b
and_true true = refl
and_true false = refl

none_below : (p : Notice → Bool) (k : ℕ) (xs : List Notice) → All (λ (n : Notice). k ≤ n.number) xs
    → filter (λ (n : Notice). p n && nat_lt n.number k) xs ≡ []
none_below p k [] all = refl
none_below p k (x ∷ xs) all =
    rw (not_below x.number k (All-head (λ (n : Notice). k ≤ n.number) x xs all), and_false (p x))
    (none_below p k xs (All-tail (λ (n : Notice). k ≤ n.number) x xs all))

tail-rising : (x : Notice) (xs : List Notice) → IsRising (x ∷ xs) → IsRising xs
tail-rising x xs rising = λ i j d lt len. rising (suc i) (suc j) d (omega (arith, lt)) (omega (arith, len))

first-below : (x : Notice) (xs : List Notice) (i : ℕ) (d : Notice) → IsRising (x ∷ xs) → i < length xs → x.number < (get_or xs i d).number
first-below x xs i d rising lt = rising 0 (suc i) d (omega arith) (omega (arith, lt))

from_first : (x : Notice) (xs : List Notice) → IsRising (x ∷ xs) → All (λ (n : Notice). x.number ≤ n.number) (x ∷ xs)
from_first x xs rising zero d lt = omega arith
from_first x xs rising (suc i) d lt = let less = first-below x xs i d rising (omega (arith, lt)) in omega (arith, less)

-- Those before the one at a place are those with numbers below its own.
before_place : (p : Notice → Bool) (xs : List Notice) (i : ℕ) (d : Notice) → IsRising xs → i < length xs
    → filter (λ (n : Notice). p n && nat_lt n.number (get_or xs i d).number) xs ≡ filter p (take i xs)
before_place p [] i d rising lt = absurd (omega (arith, lt))
before_place p (x ∷ xs) zero d rising lt = none_below p x.number (x ∷ xs) (from_first x xs rising)
before_place p (x ∷ xs) (suc i) d rising lt =
    let less = first-below x xs i d rising (omega (arith, lt)) in
    rw (below x.number (get_or xs i d).number less, and_true (p x))
    (by (p x) (before_place p xs i d (tail-rising x xs rising) (omega (arith, lt))))
  where
    by : (b : Bool) → filter (λ (n : Notice). p n && nat_lt n.number (get_or xs i d).number) xs ≡ filter p (take i xs)
        → cond b (x ∷ filter (λ (n : Notice). p n && nat_lt n.number (get_or xs i d).number) xs) (filter (λ (n : Notice). p n && nat_lt n.number (get_or xs i d).number) xs)
        ≡ cond b (x ∷ filter p (take i xs)) (filter p (take i xs))
    by b rest = rw rest refl

-- A round that stops at the notice of a place has posted what was due before it.
pub sent_stop : (s : Subscription) (moment : ℕ) (notices : List Notice) (i : ℕ) (d : Notice) → IsRising notices → i < length notices
    → sent s moment notices i ≡ round_posts notices moment s (get_or notices i d).number
sent_stop s moment notices i d rising lt = ap (map (post_to s)) (sym (before_place (is_due moment s.cursor) notices i d rising lt))

all_below : (p : Notice → Bool) (total : ℕ) (xs : List Notice) → All (λ (n : Notice). n.number < total) xs
    → filter (λ (n : Notice). p n && nat_lt n.number total) xs ≡ filter p xs
all_below p total [] all = refl
all_below p total (x ∷ xs) all =
    rw (
      below x.number total (All-head (λ (n : Notice). n.number < total) x xs all),
      and_true (p x),
      all_below p total xs (All-tail (λ (n : Notice). n.number < total) x xs all),
    ) refl

-- A round that doesn't stop has posted what was due.
pub sent_all : (s : Subscription) (moment : ℕ) (notices : List Notice) (i total : ℕ) → All (λ (n : Notice). n.number < total) notices
    → length notices ≤ i → sent s moment notices i ≡ round_posts notices moment s total
sent_all s moment notices i total all le =
    ap (λ ns. map (post_to s) (filter (is_due moment s.cursor) ns)) (take_all i notices le)
    ∙ ap (map (post_to s)) (sym (all_below (is_due moment s.cursor) total notices all))

pub post_failed : {E : Type 0} (r : Result (Unit {0}) E) (old new : List Post) (p : Post) → is_err r ≡ true → Posts old new r p → new ≡ old
post_failed (Ok u) old new p failed told = cc
post_failed (Err e) old new p failed told = told

-- One notice alone.
pub one-rising : (x : Notice) → IsRising (x ∷ [])
one-rising x zero zero d lt len = absurd (omega (arith, lt))
one-rising x zero (suc j) d lt len = absurd (omega (arith, len))
one-rising x (suc i) j d lt len = absurd (omega (arith, lt, len))

pub one-numbered : (x : Notice) (total : ℕ) → x.number < total → All (λ (n : Notice). n.number < total) (x ∷ [])
one-numbered x total lt zero d len = lt
one-numbered x total lt (suc k) d len = absurd (omega (arith, len))
