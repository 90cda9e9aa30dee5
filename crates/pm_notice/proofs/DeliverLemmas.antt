-- Rounds for the first subscriptions, one after another.
use Rattle.std.proofs.Common.{◌≡◌, ℕ, zero, suc, ◌+◌, ◌<◌, ◌≤◌, Bool, true, false, cond, List, [], ◌∷◌, ◌++◌, length, nat_lt, Some, slice_get, nat_le, ◌&&◌, refl, sym, ap, ◌∙◌, arith, append_assoc, append-nil}
use Rattle.std.proofs.lemmas.Bool.{leb-true}
use Rattle.std.proofs.lemmas.List.Sums.{sum_by-cons}
use Rattle.pm_outside.specs.Causes.{faults_after}
use Rattle.pm_outside.specs.Posts.{Post}
use Rattle.pm_notice.specs.declared.notice.Notice.{Notice}
use Rattle.pm_notice.specs.declared.subscription.Subscription.{Subscription}
use Rattle.pm_notice.specs.StandFor.{with_cursor}
use Rattle.pm_notice.specs.Round.{EndsRound, IsRound, AreRounds, round_posts, rounds_posts, is_short, stops, faults_after_stops, are_within}
use Rattle.pm_notice.proofs.StandLemmas.{AreSame}

module _ (notices : List Notice) (total moment : ℕ) where
  -- The first subscriptions have had their round, and the others are as they were.
  abbrev pub ServedTo : ℕ → List Subscription → List Subscription → Type 0
  ServedTo zero xs ys = ys ≡ xs
  ServedTo (suc i) (x ∷ xs) (y ∷ ys) = IsRound notices total moment x y × ServedTo i xs ys
  ServedTo (suc i) _ _ = ⊥

  -- What was posted in their rounds.
  abbrev pub posts_to : ℕ → List Subscription → List Subscription → List Post
  posts_to zero xs ys = []
  posts_to (suc i) (x ∷ xs) (y ∷ ys) = round_posts notices moment x y.cursor ++ posts_to i xs ys
  posts_to (suc i) _ _ = []

  -- How many of their rounds stopped short.
  abbrev pub stops_to : ℕ → List Subscription → ℕ
  stops_to zero ys = 0
  stops_to (suc i) [] = 0
  stops_to (suc i) (y ∷ ys) = cond (is_short total y) (suc (stops_to i ys)) (stops_to i ys)

  pub served-length : (i : ℕ) (xs ys : List Subscription) → ServedTo i xs ys → length ys ≡ length xs
  served-length zero xs ys same = ap length same
  served-length (suc i) (x ∷ xs) (y ∷ ys) served = ap suc (served-length i xs ys served.1)
  served-length (suc i) [] ys served = absurd served
  served-length (suc i) (x ∷ xs) [] served = absurd served

  pub served-le : (i : ℕ) (xs ys : List Subscription) → ServedTo i xs ys → i ≤ length xs
  served-le zero xs ys served = omega arith
  served-le (suc i) (x ∷ xs) (y ∷ ys) served = let le = served-le i xs ys served.1 in omega (arith, le)
  served-le (suc i) [] ys served = absurd served
  served-le (suc i) (x ∷ xs) [] served = absurd served

  -- The next one is as it was.
  pub served-next : (i : ℕ) (xs ys : List Subscription) (s : Subscription) → ServedTo i xs ys → slice_get ys i ≡ Some s → slice_get xs i ≡ Some s
  served-next zero xs ys s same at = ap (λ zs. slice_get zs 0) (sym same) ∙ at
  served-next (suc i) (x ∷ xs) (y ∷ ys) s served at = served-next i xs ys s served.1 at
  served-next (suc i) [] ys s served at = absurd served
  served-next (suc i) (x ∷ xs) [] s served at = absurd served

  some_is : (x s : Subscription) → Some x ≡ Some s → x ≡ s
  some_is x s e = cc

  same_end : (x s : Subscription) (end : ℕ) → x ≡ s → EndsRound notices total moment s end → EndsRound notices total moment x end
  same_end x s end e ends = rw e ends

  -- One more round.
  pub served-more : (i end : ℕ) (xs ys : List Subscription) (s : Subscription) → slice_get xs i ≡ Some s → EndsRound notices total moment s end → ServedTo i xs ys
      → ServedTo (suc i) xs (with_cursor i end ys)
  served-more zero end [] ys s at ends same = absurd cc
  served-more zero end (x ∷ xs) ys s at ends same =
      rw same (record { id = refl; port = refl; path = refl; ends = same_end x s end (some_is x s at) ends }, refl)
  served-more (suc i) end [] ys s at ends served = absurd served
  served-more (suc i) end (x ∷ xs) [] s at ends served = absurd served
  served-more (suc i) end (x ∷ xs) (y ∷ ys) s at ends served = (served.0, served-more i end xs ys s at ends served.1)

  same_posts : (x s : Subscription) (end : ℕ) → x ≡ s → round_posts notices moment x end ≡ round_posts notices moment s end
  same_posts x s end e = ap (λ (z : Subscription). round_posts notices moment z end) e

  pub posts-more : (i end : ℕ) (xs ys : List Subscription) (s : Subscription) → slice_get xs i ≡ Some s → ServedTo i xs ys
      → posts_to (suc i) xs (with_cursor i end ys) ≡ posts_to i xs ys ++ round_posts notices moment s end
  posts-more zero end [] ys s at same = absurd cc
  posts-more zero end (x ∷ xs) ys s at same =
      rw same (append-nil (round_posts notices moment x end) ∙ same_posts x s end (some_is x s at))
  posts-more (suc i) end [] ys s at served = absurd served
  posts-more (suc i) end (x ∷ xs) [] s at served = absurd served
  posts-more (suc i) end (x ∷ xs) (y ∷ ys) s at served =
      ap (λ ps. round_posts notices moment x y.cursor ++ ps) (posts-more i end xs ys s at served.1)
      ∙ sym (append_assoc (round_posts notices moment x y.cursor) (posts_to i xs ys) (round_posts notices moment s end))

  pub stops-more : (i end : ℕ) (ys : List Subscription) (f : ℕ) → i < length ys
      → faults_after (nat_lt end total) (faults_after_stops (stops_to i ys) f) ≡ faults_after_stops (stops_to (suc i) (with_cursor i end ys)) f
  stops-more zero end [] f lt = absurd (omega (arith, lt))
  stops-more zero end (y ∷ ys) f lt = by (nat_lt end total)
    where
      by : (b : Bool) → faults_after b f ≡ faults_after_stops (cond b 1 0) f
      by true = refl
      by false = refl
  stops-more (suc i) end [] f lt = absurd (omega (arith, lt))
  stops-more (suc i) end (y ∷ ys) f lt = by (is_short total y) (nat_lt end total) (stops-more i end ys f (omega (arith, lt)))
    where
      by : (b d : Bool) → faults_after d (faults_after_stops (stops_to i ys) f) ≡ faults_after_stops (stops_to (suc i) (with_cursor i end ys)) f
          → faults_after d (faults_after_stops (cond b (suc (stops_to i ys)) (stops_to i ys)) f)
          ≡ faults_after_stops (cond b (suc (stops_to (suc i) (with_cursor i end ys))) (stops_to (suc i) (with_cursor i end ys))) f
      by true true rest = ap (faults_after true) rest
      by true false rest = ap (faults_after true) rest
      by false d rest = rest

  -- All have had their round.
  pub served-all : (i : ℕ) (xs ys : List Subscription) → i ≡ length xs → ServedTo i xs ys → AreRounds notices total moment xs ys
  served-all zero [] ys is same = rw same tt
  served-all zero (x ∷ xs) ys is same = absurd (omega (arith, is))
  served-all (suc i) [] ys is served = absurd served
  served-all (suc i) (x ∷ xs) [] is served = absurd served
  served-all (suc i) (x ∷ xs) (y ∷ ys) is served = (served.0, served-all i xs ys (omega (arith, is)) served.1)

  pub posts-all : (i : ℕ) (xs ys : List Subscription) → i ≡ length xs → ServedTo i xs ys → posts_to i xs ys ≡ rounds_posts notices moment xs ys
  posts-all zero [] ys is same = refl
  posts-all zero (x ∷ xs) ys is same = absurd (omega (arith, is))
  posts-all (suc i) [] ys is served = absurd served
  posts-all (suc i) (x ∷ xs) [] is served = absurd served
  posts-all (suc i) (x ∷ xs) (y ∷ ys) is served =
      ap (λ ps. round_posts notices moment x y.cursor ++ ps) (posts-all i xs ys (omega (arith, is)) served.1)

  pub stops-all : (i : ℕ) (ys : List Subscription) → i ≡ length ys → stops_to i ys ≡ stops total ys
  stops-all zero [] is = refl
  stops-all zero (y ∷ ys) is = absurd (omega (arith, is))
  stops-all (suc i) [] is = refl
  stops-all (suc i) (y ∷ ys) is =
      by (is_short total y) (stops-all i ys (omega (arith, is))) ∙ sym (sum_by-cons (λ x. cond (is_short total x) 1 0) y ys)
    where
      by : (b : Bool) → stops_to i ys ≡ stops total ys → cond b (suc (stops_to i ys)) (stops_to i ys) ≡ cond b 1 0 + stops total ys
      by true rest = omega (arith, rest)
      by false rest = omega (arith, rest)

  pub rounds-same : (xs ys : List Subscription) → AreRounds notices total moment xs ys → AreSame xs ys
  rounds-same [] [] rounds = tt
  rounds-same [] (y ∷ ys) rounds = absurd rounds
  rounds-same (x ∷ xs) [] rounds = absurd rounds
  rounds-same (x ∷ xs) (y ∷ ys) rounds = (rounds.0.id, rounds.0.port, rounds.0.path, rounds-same xs ys rounds.1)

both : (a b : Bool) → (a && b) ≡ true → (a ≡ true) × (b ≡ true)
both true b h = (refl, h)
both false b h = cc

pub cursor-at : (total : ℕ) (xs : List Subscription) (i : ℕ) (s : Subscription) → are_within total xs ≡ true → slice_get xs i ≡ Some s → s.cursor ≤ total
cursor-at total [] i s all at = absurd cc
cursor-at total (x ∷ xs) zero s all at =
    let e : x ≡ s = cc in rw (← e) (leb-true x.cursor total (both (nat_le x.cursor total) (are_within total xs) all).0)
cursor-at total (x ∷ xs) (suc i) s all at = cursor-at total xs i s (both (nat_le x.cursor total) (are_within total xs) all).1 at
