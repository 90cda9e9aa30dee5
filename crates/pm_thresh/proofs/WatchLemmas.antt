-- A watch that takes one more value.
use Rattle.std.proofs.Common.{◌≡◌, ◌⊎◌, inl, inr, ◌↔◌, ℕ, ◌+◌, ◌<◌, ◌≤◌, Bool, true, false, ◌&&◌, ◌||◌, nat_le, nat_lt, IsTrue, List, [], ◌∷◌, ◌++◌, length, slice_index, length-append, Option, Some, None, if◌then◌else◌, refl, sym, subst, arith, ltb-true, leb-true, lt-ltb, le-leb}
use Rattle.std.proofs.Math.ListN.{get_or-append}
use Rattle.std.proofs.Math.Seq.{get_or-append_seam}
use Rattle.pm_history.specs.Crossing.{IsRearmedBefore, IsRaisedBefore, CrossesUp, CrossesDown}
use Rattle.pm_thresh.specs.declared.watch.Watch.{Watch}
use Rattle.pm_thresh.specs.declared.direction.Direction.{Direction}
use Rattle.pm_thresh.specs.declared.direction.Direction.TheVariants.{Up, Down}
use Rattle.pm_thresh.specs.Watch.{StandsAfter, IsCrossing, answer_by, with_value}
use Rattle.pm_thresh.proofs.CrossingLemmas.{AgreeBefore, IsRearmedBefore-agree, IsRaisedBefore-agree, IsRearmedBefore-push, IsRearmedBefore-under, IsRearmedBefore-pop, IsRaisedBefore-push, IsRaisedBefore-over, IsRaisedBefore-pop, never_both, lt_or_le}

-- further values change nothing before them
pub agree-append : (xs ys : List ℕ) → AgreeBefore xs (xs ++ ys) (length xs)
agree-append xs ys = λ k lt. sym (get_or-append xs ys 0 k lt)

agree-append_back : (xs ys : List ℕ) → AgreeBefore (xs ++ ys) xs (length xs)
agree-append_back xs ys = λ k lt. get_or-append xs ys 0 k lt

-- the value at the place where a sequence is prolonged
at_seam : (xs ys : List ℕ) (v : ℕ) → slice_index (xs ++ v ∷ ys) (length xs) ≡ v
at_seam xs ys v = get_or-append_seam xs v ys 0

pub rearmed_along : (high low : ℕ) (xs ys : List ℕ) → IsRearmedBefore high low xs (length xs) ↔ IsRearmedBefore high low (xs ++ ys) (length xs)
rearmed_along high low xs ys = (
  IsRearmedBefore-agree high low xs (xs ++ ys) (length xs) (agree-append xs ys),
  IsRearmedBefore-agree high low (xs ++ ys) xs (length xs) (agree-append_back xs ys),
)

pub raised_along : (high low : ℕ) (xs ys : List ℕ) → IsRaisedBefore high low xs (length xs) ↔ IsRaisedBefore high low (xs ++ ys) (length xs)
raised_along high low xs ys = (
  IsRaisedBefore-agree high low xs (xs ++ ys) (length xs) (agree-append xs ys),
  IsRaisedBefore-agree high low (xs ++ ys) xs (length xs) (agree-append_back xs ys),
)

and_split : (a b : Bool) → IsTrue (a && b) → IsTrue a × IsTrue b
and_split true b h = (refl, h)
and_split false b h = absurd (cc)

and_join : (a b : Bool) → IsTrue a → IsTrue b → IsTrue (a && b)
and_join true b first second = second
and_join false b first second = absurd (cc)

or_split : (a b : Bool) → IsTrue (a || b) → IsTrue a ⊎ IsTrue b
or_split true b h = inl refl
or_split false b h = inr h

or_join : (a b : Bool) → IsTrue a ⊎ IsTrue b → IsTrue (a || b)
or_join true b _ = refl
or_join false b (inl first) = absurd (cc)
or_join false b (inr second) = second

-- a sequence that is prolonged by a value, as places
prolonged : (xs : List ℕ) (v : ℕ) → length (xs ++ v ∷ []) ≡ length xs + 1
prolonged xs v = length-append xs (v ∷ [])

-- the test that a watch makes at a value, as a fact of the sequence
rearmed_test : (high low : ℕ) (rearmed : Bool) (xs : List ℕ) (v : ℕ) → IsTrue rearmed ↔ IsRearmedBefore high low xs (length xs)
    → IsTrue (nat_lt v high && (rearmed || nat_le v low)) ↔ IsRearmedBefore high low (xs ++ v ∷ []) (length (xs ++ v ∷ []))
rearmed_test high low rearmed xs v is =
    let along = rearmed_along high low xs (v ∷ []) in
    let seam = at_seam xs [] v in
    let P : ℕ → Type 0 = λ n. IsRearmedBefore high low (xs ++ v ∷ []) n in (
      λ test.
          let parts = and_split (nat_lt v high) (rearmed || nat_le v low) test in
          let under : slice_index (xs ++ v ∷ []) (length xs) < high = omega (arith, ltb-true v high parts.0, seam) in
          let how : IsRearmedBefore high low (xs ++ v ∷ []) (length xs) ⊎ (slice_index (xs ++ v ∷ []) (length xs) ≤ low) =
          elim (or_split rearmed (nat_le v low) parts.1) [
            | inl before ↦ inl (along.0 (is.0 before))
            | inr at_most ↦ inr (omega (arith, leb-true v low at_most, seam))
          ] in
          subst P (sym (prolonged xs v)) (IsRearmedBefore-push high low (xs ++ v ∷ []) (length xs) under how),
      λ fact.
          let before : IsRearmedBefore high low (xs ++ v ∷ []) (length xs + 1) = subst P (prolonged xs v) fact in
          let under : v < high = omega (arith, IsRearmedBefore-under high low (xs ++ v ∷ []) (length xs) before, seam) in
          and_join (nat_lt v high) (rearmed || nat_le v low) (lt-ltb v high under) (or_join rearmed (nat_le v low) (
          elim (lt_or_le low v) [
            | inl over ↦ inl (is.1 (along.1 (IsRearmedBefore-pop high low (xs ++ v ∷ []) (length xs) (omega (arith, seam)) before)))
            | inr at_most ↦ inr (le-leb v low at_most)
          ])),
    )

raised_test : (high low : ℕ) (raised : Bool) (xs : List ℕ) (v : ℕ) → IsTrue raised ↔ IsRaisedBefore high low xs (length xs)
    → IsTrue (nat_lt low v && (raised || nat_le high v)) ↔ IsRaisedBefore high low (xs ++ v ∷ []) (length (xs ++ v ∷ []))
raised_test high low raised xs v is =
    let along = raised_along high low xs (v ∷ []) in
    let seam = at_seam xs [] v in
    let P : ℕ → Type 0 = λ n. IsRaisedBefore high low (xs ++ v ∷ []) n in (
      λ test.
          let parts = and_split (nat_lt low v) (raised || nat_le high v) test in
          let over : low < slice_index (xs ++ v ∷ []) (length xs) = omega (arith, ltb-true low v parts.0, seam) in
          let how : IsRaisedBefore high low (xs ++ v ∷ []) (length xs) ⊎ (high ≤ slice_index (xs ++ v ∷ []) (length xs)) =
          elim (or_split raised (nat_le high v) parts.1) [
            | inl before ↦ inl (along.0 (is.0 before))
            | inr at_least ↦ inr (omega (arith, leb-true high v at_least, seam))
          ] in
          subst P (sym (prolonged xs v)) (IsRaisedBefore-push high low (xs ++ v ∷ []) (length xs) over how),
      λ fact.
          let before : IsRaisedBefore high low (xs ++ v ∷ []) (length xs + 1) = subst P (prolonged xs v) fact in
          let over : low < v = omega (arith, IsRaisedBefore-over high low (xs ++ v ∷ []) (length xs) before, seam) in
          and_join (nat_lt low v) (raised || nat_le high v) (lt-ltb low v over) (or_join raised (nat_le high v) (
          elim (lt_or_le v high) [
            | inl under ↦ inl (is.1 (along.1 (IsRaisedBefore-pop high low (xs ++ v ∷ []) (length xs) (omega (arith, seam)) before)))
            | inr at_least ↦ inr (le-leb high v at_least)
          ])),
    )

pub StandsAfter-with_value : (w : Watch) (xs : List ℕ) (v : ℕ) → StandsAfter w xs → StandsAfter (with_value w v) (xs ++ v ∷ [])
StandsAfter-with_value w xs v seen =
    record {
      rearmed = rearmed_test w.high w.low w.rearmed xs v seen.rearmed;
      raised = raised_test w.high w.low w.raised xs v seen.raised;
    }

up_test : (w : Watch) (xs ys : List ℕ) (v : ℕ) → StandsAfter w xs
    → IsTrue (w.rearmed && nat_le w.high v) ↔ CrossesUp w.high w.low (xs ++ v ∷ ys) (length xs)
up_test w xs ys v seen =
    let along = rearmed_along w.high w.low xs (v ∷ ys) in
    let seam = at_seam xs ys v in (
      λ test.
          let parts = and_split w.rearmed (nat_le w.high v) test in
          record {
            within = omega (arith, length-append xs (v ∷ ys));
            at_least_high = omega (arith, leb-true w.high v parts.1, seam);
            rearmed = along.0 (seen.rearmed.0 parts.0);
          },
      λ crosses.
          and_join w.rearmed (nat_le w.high v) (seen.rearmed.1 (along.1 crosses.rearmed)) (le-leb w.high v (omega (arith, crosses.at_least_high, seam))),
    )

down_test : (w : Watch) (xs ys : List ℕ) (v : ℕ) → StandsAfter w xs
    → IsTrue (w.raised && nat_le v w.low) ↔ CrossesDown w.high w.low (xs ++ v ∷ ys) (length xs)
down_test w xs ys v seen =
    let along = raised_along w.high w.low xs (v ∷ ys) in
    let seam = at_seam xs ys v in (
      λ test.
          let parts = and_split w.raised (nat_le v w.low) test in
          record {
            within = omega (arith, length-append xs (v ∷ ys));
            at_most_low = omega (arith, leb-true v w.low parts.1, seam);
            raised = along.0 (seen.raised.0 parts.0);
          },
      λ crosses.
          and_join w.raised (nat_le v w.low) (seen.raised.1 (along.1 crosses.raised)) (le-leb v w.low (omega (arith, crosses.at_most_low, seam))),
    )

-- the answer by two tests that never both hold
abbrev answer_of : Bool → Bool → Option Direction
answer_of rises falls = if rises then Some Up else (if falls then Some Down else None)

by_tests : (rises falls : Bool) (Rises Falls : Type 0) → IsTrue rises ↔ Rises → IsTrue falls ↔ Falls → (Rises → Falls → ⊥)
    → ((answer_of rises falls ≡ Some Up) ↔ Rises)
    × ((answer_of rises falls ≡ Some Down) ↔ Falls)
    × ((answer_of rises falls ≡ None) ↔ ((Rises → ⊥) × (Falls → ⊥)))
by_tests true falls Rises Falls rise fall never = (
  (λ _. rise.0 refl, λ _. refl),
  (λ h. absurd (cc), λ p. absurd (never (rise.0 refl) p)),
  (λ h. absurd (cc), λ p. absurd (p.0 (rise.0 refl))),
)
by_tests false true Rises Falls rise fall never = (
  (λ h. absurd (cc), λ p. let h : false ≡ true = rise.1 p in absurd (cc)),
  (λ _. fall.0 refl, λ _. refl),
  (λ h. absurd (cc), λ p. absurd (p.1 (fall.0 refl))),
)
by_tests false false Rises Falls rise fall never = (
  (λ h. absurd (cc), λ p. let h : false ≡ true = rise.1 p in absurd (cc)),
  (λ h. absurd (cc), λ p. let h : false ≡ true = fall.1 p in absurd (cc)),
  (λ _. (λ p. let h : false ≡ true = rise.1 p in absurd (cc), λ p. let h : false ≡ true = fall.1 p in absurd (cc)), λ _. refl),
)

-- a crossing that the directions keep, as a test
kept_test : (kept crosses : Bool) (Crosses : Type 0) → IsTrue crosses ↔ Crosses → IsTrue (kept && crosses) ↔ (IsTrue kept × Crosses)
kept_test kept crosses Crosses is = (
  λ h. let p = and_split kept crosses h in (p.0, is.0 p.1),
  λ p. and_join kept crosses p.0 (is.1 p.1),
)

-- the answer by what a watch keeps is that of the sequence
pub IsCrossing-answer_by : (w : Watch) (xs ys : List ℕ) (v : ℕ) → StandsAfter w xs
    → IsCrossing w.high w.low w.up w.down (xs ++ v ∷ ys) (length xs) (answer_by w v)
IsCrossing-answer_by w xs ys v seen =
    let both = by_tests (w.up && (w.rearmed && nat_le w.high v)) (w.down && (w.raised && nat_le v w.low))
    (IsTrue w.up × CrossesUp w.high w.low (xs ++ v ∷ ys) (length xs))
    (IsTrue w.down × CrossesDown w.high w.low (xs ++ v ∷ ys) (length xs))
    (kept_test w.up (w.rearmed && nat_le w.high v) (CrossesUp w.high w.low (xs ++ v ∷ ys) (length xs)) (up_test w xs ys v seen))
    (kept_test w.down (w.raised && nat_le v w.low) (CrossesDown w.high w.low (xs ++ v ∷ ys) (length xs)) (down_test w xs ys v seen))
    (λ up down. never_both w.high w.low (xs ++ v ∷ ys) (length xs) up.1 down.1) in
    record { upward = both.0; downward = both.1; none = both.2 }
