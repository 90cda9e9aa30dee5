-- What one more value does to what a sequence leaves, over the places of a sequence.
use Rattle.std.proofs.Common.{◌≡◌, ◌⊎◌, inl, inr, ℕ, zero, suc, ◌+◌, ◌<◌, ◌≤◌, List, length, slice_index, ap, arith}
use Rattle.pm_history.specs.Crossing.{IsRearmedBefore, IsRaisedBefore, NeverBoth, FlagsOfSequences}

-- what rearms between a high value and a place is low, and so the high value doesn't count for a downward crossing
never_rearmed_and_raised : (high low : ℕ) (xs : List ℕ) (n : ℕ) → IsRearmedBefore high low xs n → IsRaisedBefore high low xs n → ⊥
never_rearmed_and_raised high low xs n rearmed raised =
    let r = rearmed raised.place raised.earlier raised.at_least_high in
    let over : low < slice_index xs r.place = raised.none_low r.place r.later r.earlier in
    absurd (omega (arith, over, r.at_most_low))

-- at no place do both crossings stand
pub never_both : NeverBoth
never_both high low values place up down = never_rearmed_and_raised high low values place up.rearmed down.raised

-- two sequences have the same values before a place
abbrev pub AgreeBefore : List ℕ → List ℕ → ℕ → Type 0
AgreeBefore xs ys end = (k : ℕ) → k < end → slice_index xs k ≡ slice_index ys k

pub IsRearmedBefore-agree : (high low : ℕ) (xs ys : List ℕ) (end : ℕ)
    → AgreeBefore xs ys end → IsRearmedBefore high low xs end → IsRearmedBefore high low ys end
IsRearmedBefore-agree high low xs ys end same before = λ j lt at_least.
    let at_j : high ≤ slice_index xs j = omega (arith, same j lt) in
    let r = before j lt at_j in
    record {
      place = r.place;
      later = r.later;
      earlier = r.earlier;
      at_most_low = omega (arith, same r.place r.earlier, r.at_most_low);
      under_high = omega (arith, same r.place r.earlier, r.under_high);
    }

pub IsRaisedBefore-agree : (high low : ℕ) (xs ys : List ℕ) (end : ℕ)
    → AgreeBefore xs ys end → IsRaisedBefore high low xs end → IsRaisedBefore high low ys end
IsRaisedBefore-agree high low xs ys end same r =
    record {
      place = r.place;
      earlier = r.earlier;
      at_least_high = omega (arith, same r.place r.earlier, r.at_least_high);
      over_low = omega (arith, same r.place r.earlier, r.over_low);
      none_low = λ k later earlier. omega (arith, same k earlier, r.none_low k later earlier);
    }

pub lt_or_le : (a b : ℕ) → (a < b) ⊎ (b ≤ a)
lt_or_le a b = grind arith

-- a place before n + 1 whose value differs from that at n is before n
under_differs : (xs : List ℕ) (j n bound : ℕ) → j < n + 1 → slice_index xs n < bound → bound ≤ slice_index xs j → j < n
under_differs xs j n bound before at_n at_j =
    elim (lt_or_le j n) [
      | inl earlier ↦ earlier
      | inr other ↦ let e : j ≡ n = omega arith in absurd (omega (arith, ap (λ k. slice_index xs k) e))
    ]

over_differs : (xs : List ℕ) (j n bound : ℕ) → j < n + 1 → bound < slice_index xs n → slice_index xs j ≤ bound → j < n
over_differs xs j n bound before at_n at_j =
    elim (lt_or_le j n) [
      | inl earlier ↦ earlier
      | inr other ↦ let e : j ≡ n = omega arith in absurd (omega (arith, ap (λ k. slice_index xs k) e))
    ]

-- one more value leaves the sequence rearmed if it is under high, and rearms or finds it rearmed
pub IsRearmedBefore-push : (high low : ℕ) (xs : List ℕ) (n : ℕ) → slice_index xs n < high
    → IsRearmedBefore high low xs n ⊎ (slice_index xs n ≤ low) → IsRearmedBefore high low xs (n + 1)
IsRearmedBefore-push high low xs n under (inl before) = λ j lt at_least.
    let earlier : j < n = under_differs xs j n high lt under at_least in
    let r = before j earlier at_least in
    record { place = r.place; later = r.later; earlier = omega (arith, r.earlier); at_most_low = r.at_most_low; under_high = r.under_high }
IsRearmedBefore-push high low xs n under (inr low_enough) = λ j lt at_least.
    record { place = n; later = under_differs xs j n high lt under at_least; earlier = omega arith; at_most_low = low_enough; under_high = under }

-- and only then
pub IsRearmedBefore-under : (high low : ℕ) (xs : List ℕ) (n : ℕ) → IsRearmedBefore high low xs (n + 1) → slice_index xs n < high
IsRearmedBefore-under high low xs n before =
    elim (lt_or_le (slice_index xs n) high) [
      | inl under ↦ under
      | inr at_least ↦ let r = before n (omega arith) at_least in absurd (omega (arith, r.later, r.earlier))
    ]

pub IsRearmedBefore-pop : (high low : ℕ) (xs : List ℕ) (n : ℕ) → low < slice_index xs n
    → IsRearmedBefore high low xs (n + 1) → IsRearmedBefore high low xs n
IsRearmedBefore-pop high low xs n over before = λ j lt at_least.
    let r = before j (omega arith) at_least in
    record {
      place = r.place;
      later = r.later;
      earlier = over_differs xs r.place n low r.earlier over r.at_most_low;
      at_most_low = r.at_most_low;
      under_high = r.under_high;
    }

-- one more value leaves the sequence raised if it is over low, and is high or finds it raised
pub IsRaisedBefore-push : (high low : ℕ) (xs : List ℕ) (n : ℕ) → low < slice_index xs n
    → IsRaisedBefore high low xs n ⊎ (high ≤ slice_index xs n) → IsRaisedBefore high low xs (n + 1)
IsRaisedBefore-push high low xs n over (inl r) =
    record {
      place = r.place;
      earlier = omega (arith, r.earlier);
      at_least_high = r.at_least_high;
      over_low = r.over_low;
      none_low = λ k later earlier. elim (lt_or_le k n) [
        | inl before ↦ r.none_low k later before
        | inr other ↦ let e : k ≡ n = omega arith in omega (arith, ap (λ i. slice_index xs i) e)
      ];
    }
IsRaisedBefore-push high low xs n over (inr at_least) =
    record { place = n; earlier = omega arith; at_least_high = at_least; over_low = over; none_low = λ k later earlier. absurd (omega arith) }

-- and only then
pub IsRaisedBefore-over : (high low : ℕ) (xs : List ℕ) (n : ℕ) → IsRaisedBefore high low xs (n + 1) → low < slice_index xs n
IsRaisedBefore-over high low xs n r =
    elim (lt_or_le r.place n) [
      | inl before ↦ r.none_low n before (omega arith)
      | inr other ↦ let e : r.place ≡ n = omega (arith, r.earlier) in omega (arith, ap (λ i. slice_index xs i) e, r.over_low)
    ]

pub IsRaisedBefore-pop : (high low : ℕ) (xs : List ℕ) (n : ℕ) → slice_index xs n < high
    → IsRaisedBefore high low xs (n + 1) → IsRaisedBefore high low xs n
IsRaisedBefore-pop high low xs n under r =
    record {
      place = r.place;
      earlier = under_differs xs r.place n high r.earlier under r.at_least_high;
      at_least_high = r.at_least_high;
      over_low = r.over_low;
      none_low = λ k later earlier. r.none_low k later (omega arith);
    }

-- of the places between two, one has a value of at most low, or none has
low_between : (low : ℕ) (xs : List ℕ) (j n : ℕ)
    → ((k : ℕ) × (j < k) × (k < n) × (slice_index xs k ≤ low)) ⊎ ((k : ℕ) → j < k → k < n → low < slice_index xs k)
low_between low xs j zero = inr (λ k later earlier. absurd (omega arith))
low_between low xs j (suc n) =
    elim (low_between low xs j n) [
      | inl found ↦ inl (found.0, found.1, omega (arith, found.2), found.3)
      | inr none ↦ elim (lt_or_le j n) [
        | inl later ↦ elim (lt_or_le low (slice_index xs n)) [
          | inl over ↦ inr (λ k after before. elim (lt_or_le k n) [
            | inl earlier ↦ none k after earlier
            | inr other ↦ let e : k ≡ n = omega arith in omega (arith, ap (λ i. slice_index xs i) e)
          ])
          | inr at_most ↦ inl (n, later, omega arith, at_most)
        ]
        | inr not_later ↦ inr (λ k after before. absurd (omega arith))
      ]
    ]

-- what isn't raised is rearmed, where the limits differ
rearmed_unless_raised : (high low : ℕ) (xs : List ℕ) (n : ℕ) → low < high
    → (IsRaisedBefore high low xs n → ⊥) → IsRearmedBefore high low xs n
rearmed_unless_raised high low xs n differ not_raised = λ j lt at_least.
    elim (low_between low xs j n) [
      | inl found ↦ record { place = found.0; later = found.1; earlier = found.2; at_most_low = found.3; under_high = omega (arith, found.3) }
      | inr none ↦ absurd (not_raised (record { place = j; earlier = lt; at_least_high = at_least; over_low = omega arith; none_low = none }))
    ]

pub flags_of_sequences : FlagsOfSequences
flags_of_sequences high low values flags is = (
  λ three. elim is.rearmed [
    | inl first ↦ elim is.raised [
      | inl second ↦ never_rearmed_and_raised high low values (length values) first.0 second.0
      | inr second ↦ absurd (omega (arith, is.both, first.1, second.1))
    ]
    | inr first ↦ elim is.raised [
      | inl second ↦ absurd (omega (arith, is.both, first.1, second.1))
      | inr second ↦ absurd (omega (arith, is.both, first.1, second.1))
    ]
  ],
  λ none. elim (lt_or_le low high) [
    | inl differ ↦ elim is.rearmed [
      | inl first ↦ absurd (omega (arith, is.both, first.1))
      | inr first ↦ elim is.raised [
        | inl second ↦ absurd (omega (arith, is.both, second.1))
        | inr second ↦ absurd (first.0 (rearmed_unless_raised high low values (length values) differ second.0))
      ]
    ]
    | inr at_most ↦ at_most
  ],
)
