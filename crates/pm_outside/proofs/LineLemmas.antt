-- What the bytes of a buffer tell of the next line, told of all bytes that are left.
use Rattle.std.proofs.Common.{◌≡◌, ◌+◌, ◌-◌, ◌<◌, ◌≤◌, ◌≢◌, ℕ, Bool, true, suc, List, [], ◌∷◌, ◌++◌, length, take, drop, get_or, inl, inr, sym, ◌∙◌, ap, subst, append_assoc, add-one, arith, drop-cons, take-append-drop}
use Rattle.std.proofs.lemmas.List.{append-nil, take_all, drop_all, length-take, get_or-take, get_or_default, take-append-le, drop-drop, take-take, drop-take}
use Rattle.std.proofs.lemmas.List.Elements.{All-take}
use Rattle.std.proofs.lemmas.Bool.{eq-eqb}
use Rattle.std.proofs.Math.Dec.{eqb}
use Rattle.std.specs.List.{slice_range}
use Rattle.pm_base.specs.Lines.{HasNoLineFeed}
use Rattle.pm_outside.specs.Line.{IsLineOf}
use Rattle.pm_outside.specs.Feed.{IsFirstLine}

-- a list splits at a line feed
splits_at : (held : List ℕ) (n : ℕ) → n < length held → get_or held n 0 ≡ 10 → held ≡ take n held ++ 10 ∷ drop (n + 1) held
splits_at held n within is =
    sym (take-append-drop n held) ∙ ap (λ (l : List ℕ). take n held ++ l) (drop-cons held n 0 within ∙ ap (λ (b : ℕ). b ∷ drop (suc n) held) is ∙ ap (λ (m : ℕ). 10 ∷ drop m held) (sym (add-one n)))

-- A line of the bytes in a buffer is the first line of all that is left, where nothing follows a known end.
pub first_line : (held rest : List ℕ) (ended : Bool) (n taken : ℕ) → IsLineOf held ended n taken → (ended ≡ true → rest ≡ []) → IsFirstLine (held ++ rest) (take n held) (drop taken held ++ rest)
first_line held rest ended n taken line known = record {
  short = omega (arith, length-take n held, line.short);
  one = line.one;
  split = elim line.ends [
    | inl at ↦ inl (subst (λ (t : ℕ). held ++ rest ≡ take n held ++ 10 ∷ (drop t held ++ rest)) (sym at.0)
        (ap (λ (l : List ℕ). l ++ rest) (splits_at held n (omega (arith, at.0, line.within)) at.1) ∙ append_assoc (take n held) (10 ∷ drop (n + 1) held) rest))
    | inr at ↦ inr (
      ap (λ (l : List ℕ). held ++ l) (known at.1) ∙ append-nil held ∙ sym (take_all n held (omega (arith, at.2))),
      ap (λ (l : List ℕ). drop taken held ++ l) (known at.1) ∙ append-nil (drop taken held) ∙ drop_all taken held (omega (arith, at.0, at.2)),
      omega (arith, length-take n held, at.2, at.3),
    )
  ];
}

-- the line of a part of a buffer, and what is left of the part
pub front_of_part : (buffer : List ℕ) (start end n : ℕ) → start + n ≤ end → take n (slice_range buffer start end) ≡ slice_range buffer start (start + n)
front_of_part buffer start end n within =
    let count : start + n - start ≡ n = omega arith in
    take-take n (end - start) (drop start buffer) (omega (arith, within)) ∙ ap (λ (m : ℕ). take m (drop start buffer)) (sym count)

pub rest_of_part : (buffer : List ℕ) (start end n : ℕ) → start + n ≤ end → drop n (slice_range buffer start end) ≡ slice_range buffer (start + n) end
rest_of_part buffer start end n within =
    let count : end - start ≡ n + (end - (start + n)) = omega (arith, within) in
    ap (λ (m : ℕ). drop n (take m (drop start buffer))) count ∙ drop-take n (end - (start + n)) (drop start buffer) ∙ ap (λ (l : List ℕ). take (end - (start + n)) l) (drop-drop n start buffer)

-- a line that is too long is so with whatever follows
pub still_long : (held rest : List ℕ) → 2048 < length held → HasNoLineFeed (take 2049 held) → HasNoLineFeed (take 2049 (held ++ rest))
still_long held rest long none = subst HasNoLineFeed (sym (take-append-le 2049 held rest (omega (arith, long)))) none

-- A line of the part of a buffer that is not taken, told of all that is left.
pub line_taken : (buffer : List ℕ) (start end n taken : ℕ) (ended : Bool) (rest : List ℕ) → start ≤ end → IsLineOf (slice_range buffer start end) ended n taken → (ended ≡ true → rest ≡ []) → IsFirstLine (slice_range buffer start end ++ rest) (slice_range buffer start (start + n)) (slice_range buffer (start + taken) end ++ rest) × (n ≡ length (slice_range buffer start (start + n)))
line_taken buffer start end n taken ended rest ordered line known =
    let most : length (slice_range buffer start end) ≤ end - start = omega (arith, length-take (end - start) (drop start buffer)) in
    let least : n ≤ taken = elim line.ends [ inl at ↦ omega (arith, at.0) | inr at ↦ omega (arith, at.0) ] in
    let within : taken ≤ end - start = omega (arith, most, line.within) in
    let front = front_of_part buffer start end n (omega (arith, least, within, ordered)) in
    let back = rest_of_part buffer start end taken (omega (arith, within, ordered)) in (
      subst (λ (l : List ℕ). IsFirstLine (slice_range buffer start end ++ rest) l (slice_range buffer (start + taken) end ++ rest)) front
          (subst (λ (l : List ℕ). IsFirstLine (slice_range buffer start end ++ rest) (take n (slice_range buffer start end)) (l ++ rest)) back (first_line (slice_range buffer start end) rest ended n taken line known)),
      omega (arith, length-take n (slice_range buffer start end), ap length front, least, line.within),
    )

-- no byte before the first line feed is one
pub none_before : (held : List ℕ) (n at : ℕ) → n ≤ at → at < length held → ((k : ℕ) → 0 ≤ k → k < at → eqb (get_or held k 0) 10 ≡ true → ⊥) → HasNoLineFeed (take n held)
none_before held n at low within none k d lt is =
    let below : k < n = omega (arith, length-take n held) in
    none k (omega arith) (omega (arith, below, low)) (eq-eqb (get_or held k 0) 10 (get_or_default held k 0 d (omega (arith, below, low, within)) ∙ sym (get_or-take n held k d below) ∙ is))

-- the same where no byte is a line feed at all
pub none_at_all : (held : List ℕ) → ((k : ℕ) → 0 ≤ k → k < length held → eqb (get_or held k 0) 10 ≡ true → ⊥) → HasNoLineFeed held
none_at_all held none k d lt is =
    none k (omega arith) lt (eq-eqb (get_or held k 0) 10 (get_or_default held k 0 d lt ∙ is))

-- what holds of all bytes holds of the first of them
pub none_at_all_take : (n : ℕ) (held : List ℕ) → HasNoLineFeed held → HasNoLineFeed (take n held)
none_at_all_take n held none = All-take (λ b. b ≢ 10) n held none
