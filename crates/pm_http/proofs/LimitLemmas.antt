-- What comes before the limit.
use Rattle.std.proofs.Common.{◌≡◌, ℕ, ◌+◌, ◌-◌, ◌<◌, ◌≤◌, inl, inr, List, [], ◌++◌, length, take, drop, sym, ap, ◌∙◌, subst, arith, append_assoc, append-nil, length-append}
use Rattle.std.proofs.lemmas.List.{take_all, drop_all, length-take}
use Rattle.std.proofs.Math.Seq.{take-append-add}
use Rattle.httparse.specs.Grammar.{NeverHasRequest, EndsInTarget}
use Rattle.httparse.specs.declared.spans.HeaderSpan.{HeaderSpan}
use Rattle.httparse.specs.declared.spans.RequestSpans.{RequestSpans}
use Rattle.pm_outside.specs.declared.feed.TheConstants.{MOST_READ}
use Rattle.pm_http.specs.declared.size.BodySize.TheVariants.{Bytes}
use Rattle.pm_http.specs.Head.{body_size}
use Rattle.pm_http.specs.Stream.{looked_at, readable, StopsAtLimit, EndsInHead, EndsInRequest}
use Rattle.pm_http.specs.Piece.{IsGathered, BodyStops, IsAnswered}
use Rattle.pm_http.proofs.AnswerLemmas.{never_inside}

-- After a prefix, the readable bytes are the prefix and the readable ones of the others.
after_front : (most was now : ℕ) (all front left : List ℕ) → all ≡ front ++ left → now + length left ≡ was + length all → now ≤ most
    → take (most - was) all ≡ front ++ take (most - now) left
after_front most was now all front left split given within =
    let sizes : length front + (most - now) ≡ most - was = omega (arith, given, within, ap length split, length-append front left) in
    ap (take (most - was)) split ∙ ap (λ (k : ℕ). take k (front ++ left)) (sym sizes) ∙ take-append-add front left (most - now)

-- All readable bytes were gathered, and the limit is inside a head.
stops_after : (most was now : ℕ) (all gathered left : List ℕ) → all ≡ gathered ++ left → now + length left ≡ was + length all → now ≡ most
    → take (most - was) all ≡ gathered
stops_after most was now all gathered left split given spent =
    let within : now ≤ most = omega (arith, spent) in
    let none : most - now ≡ 0 = omega (arith, spent) in
    after_front most was now all gathered left split given within ∙ ap (λ (k : ℕ). gathered ++ take k left) none ∙ append-nil gathered

pub stops-in_head : (all gathered left : List ℕ) (was now : ℕ) → all ≡ gathered ++ left → now + length left ≡ was + length all → now ≡ MOST_READ
    → EndsInHead gathered → StopsAtLimit was all
stops-in_head all gathered left was now split given spent in_head = record {
  reached = omega (arith, given, spent);
  inside = inl (subst EndsInHead (sym (stops_after MOST_READ was now all gathered left split given spent)) in_head);
}

fewer_than : (most now size : ℕ) (left : List ℕ) → now ≤ most → most < now + size → length (take (most - now) left) < size
fewer_than most now size left within fewer = omega (arith, within, fewer, length-take (most - now) left)

-- The limit is inside a body.
pub stops-in_body : (all gathered left : List ℕ) (headers : List HeaderSpan) (spans : RequestSpans) (was now size : ℕ)
    → (g : IsGathered all gathered left headers spans) → body_size g.head ≡ Bytes size → now + length left ≡ was + length all
    → BodyStops now left size → StopsAtLimit was all
stops-in_body all gathered left headers spans was now size g size_is given stops = record {
  reached = subst (λ (k : ℕ). MOST_READ ≤ k) given stops.reached;
  inside = inr record {
    head = g.head;
    body = take (MOST_READ - now) left;
    size = size;
    reads = (g.at.reads.0, after_front MOST_READ was now all gathered left g.split given stops.within ∙ ap (λ (t : List ℕ). t ++ take (MOST_READ - now) left) g.whole);
    short = subst (λ (t : List ℕ). length t ≤ 16384) g.whole g.short;
    size_is = size_is;
    less = fewer_than MOST_READ now size left stops.within stops.fewer;
  };
}

-- Where the end was found before the limit, the limit isn't met.
pub ended_before : (was now : ℕ) (all left : List ℕ) → now + length left ≡ was + length all → left ≡ [] → now < MOST_READ → StopsAtLimit was all → ⊥
ended_before was now all left given none before stops = omega (arith, given, ap length none, before, stops.reached)

-- What stops at the limit begins with the bytes that were taken before it.
pub stops_with : (was now : ℕ) (all front left : List ℕ) → all ≡ front ++ left → now + length left ≡ was + length all → now ≤ MOST_READ
    → StopsAtLimit was all → EndsInRequest (front ++ readable now left)
stops_with was now all front left split given within stops =
    subst EndsInRequest (after_front MOST_READ was now all front left split given within) stops.inside

-- The prefix goes on by the first of the bytes that are left.
pub front_on : (all front left more rest : List ℕ) → all ≡ front ++ left → left ≡ more ++ rest → all ≡ (front ++ more) ++ rest
front_on all front left more rest split first = split ∙ ap (λ (t : List ℕ). front ++ t) first ∙ sym (append_assoc front more rest)

-- Bytes that answer by themselves, and were taken before the limit.
pub answered_before : (was now : ℕ) (all front left : List ℕ) → all ≡ front ++ left → now + length left ≡ was + length all → now ≤ MOST_READ
    → IsAnswered front → StopsAtLimit was all → ⊥
answered_before was now all front left split given within answered stops =
    answered (readable now left) (stops_with was now all front left split given within stops)

-- Bytes that begin no head, and were taken before the limit.
pub never_before : (was now : ℕ) (all front left : List ℕ) → all ≡ front ++ left → now + length left ≡ was + length all → now ≤ MOST_READ
    → NeverHasRequest (looked_at front) → StopsAtLimit was all → EndsInTarget (readable was all)
never_before was now all front left split given within never stops =
    subst EndsInTarget (sym (after_front MOST_READ was now all front left split given within))
    (never_inside front (readable now left) never (stops_with was now all front left split given within stops))

-- A list that is written back whole is what it was.
pub written_back : {X : Type 0} (n : ℕ) (new old : List X) → n ≡ length old → length new ≡ length old → take n (new ++ drop (length new) old) ≡ new
written_back {X = X} n new old all long =
    let none : length old ≤ length new = omega (arith, long) in
    let whole : length new ≤ n = omega (arith, all, long) in
    ap (λ (t : List X). take n (new ++ t)) (drop_all (length new) old none) ∙ ap (take n) (append-nil new) ∙ take_all n new whole
