-- What good lines add to the text of a tally.
use Rattle.std.proofs.Common.{◌≡◌, ◌+◌, ◌<◌, ◌≤◌, ℕ, Bool, true, false, cond, List, [], ◌∷◌, ◌++◌, length, take, Option, Some, None, is_none, Result, Ok, Err, inl, inr, refl, sym, ◌∙◌, ap, subst, arith, append_assoc}
use Rattle.std.proofs.lemmas.List.{append-nil, take-append-le, take_at, take_all}
use Rattle.std.proofs.lemmas.List.Elements.{filter_map-append}
use Rattle.std.proofs.lemmas.Bool.{eq-eqb, ltb-false}
use Rattle.std.proofs.lemmas.Bool.Decides.{eqb_tells, leb_tells}
use Rattle.std.proofs.Math.Dec.{eqb, leb, ltb}
use Rattle.std.proofs.Math.Seq.{take-append-add}
use Rattle.std.specs.List.{All, cons_option}
use Rattle.pm_base.specs.Moment.{tick_of}
use Rattle.pm_base.specs.declared.code.Code.{Code}
use Rattle.pm_base.specs.declared.code.Code.TheVariants.{E4, E5}
use Rattle.pm_inventory.specs.Slot.{Slot}
use Rattle.pm_events.specs.Event.{events_of, event_of_result, last_moment, read_event, refusal, refusal_of, order_refusal, registered_in}
use Rattle.pm_events.specs.declared.event.Event.{Event}
use Rattle.pm_events.proofs.EventLemmas.{last_moment-more, ordered-more}
use Rattle.pm_tally.specs.Tally.{good_behind, good_lines, ended_lines, all_lines, tick_lines, text_of_good, tally_text}
use Rattle.pm_tally.specs.Taking.{WritesSome}
use Rattle.pm_tally.proofs.TallyLemmas.{ended_lines-same, ended_lines-later, all_lines-ended}

-- A line that reads as an event has that one.
pub one_event : (slots : List Slot) (line : List ℕ) (e : Event) → Ok e ≡ read_event slots line → events_of slots (line ∷ []) ≡ e ∷ []
one_event slots line e is = ap (λ (r : Result Event Code). cons_option (event_of_result r) []) (sym is)

abbrev pub IsOrdered : List Event → Type 0
IsOrdered events = All (λ x. x.moment ≤ last_moment events) events

-- More events prolong the lines of the ticks that have ended.
pub record Grows (slots : List Slot) (earlier later : List Event) : Type 0 where
  pub ordered : IsOrdered later
  pub rest : List ℕ
  pub ended : ended_lines slots later ≡ ended_lines slots earlier ++ rest

grows-none : (slots : List Slot) (events : List Event) → IsOrdered events → Grows slots events (events ++ [])
grows-none slots events ordered =
    let same : Grows slots events events = record { ordered = ordered; rest = []; ended = sym (append-nil (ended_lines slots events)) } in
    subst (Grows slots events) (sym (append-nil events)) same

grows-one : (slots : List Slot) (events : List Event) (e : Event) → IsOrdered events → last_moment events ≤ e.moment → Grows slots events (events ++ e ∷ [])
grows-one slots events e ordered later =
    let order : IsOrdered (events ++ e ∷ []) = subst (λ (m : ℕ). All (λ x. x.moment ≤ m) (events ++ e ∷ [])) (sym (last_moment-more events e)) (ordered-more events e (last_moment events) ordered later) in
    elim (eqb_tells (tick_of (last_moment events)) (tick_of e.moment)) [
      | inl same ↦ record { ordered = order; rest = []; ended = ended_lines-same slots events e same.1 ∙ sym (append-nil (ended_lines slots events)) }
      | inr other ↦ record { ordered = order; rest = tick_lines slots events (tick_of (last_moment events)); ended = ended_lines-later slots events e ordered (omega (arith, other.1, later)) }
    ]

grows-both : (slots : List Slot) (a b c : List Event) → Grows slots a b → Grows slots b c → Grows slots a c
grows-both slots a b c first second = record {
  ordered = second.ordered;
  rest = first.rest ++ second.rest;
  ended = second.ended ∙ ap (λ (l : List ℕ). l ++ second.rest) first.ended ∙ append_assoc (ended_lines slots a) first.rest second.rest;
}

-- where no rule of order is broken, the moment doesn't fall
not_late : (late full : Bool) → cond late (Some E5) (cond full (Some E4) None) ≡ None → late ≡ false
not_late true full same = absurd (cc)
not_late false full same = refl

moment_kept : (slots : List Slot) (events : List Event) (e : Event) → order_refusal slots events e ≡ None → last_moment events ≤ e.moment
moment_kept slots events e none =
    let test = not_late (ltb e.moment (last_moment events)) (leb 1073741824 (registered_in slots events (tick_of e.moment))) none in
    ltb-false e.moment (last_moment events) test

-- the events of a first line and of others
events_of-first : (slots : List Slot) (line : List ℕ) (lines : List (List ℕ)) → events_of slots (line ∷ lines) ≡ events_of slots (line ∷ []) ++ events_of slots lines
events_of-first slots line lines = filter_map-append (λ l. event_of_result (read_event slots l)) (line ∷ []) lines

-- a good line prolongs them
grows-line : (slots : List Slot) (events : List Event) (line : List ℕ) (read : Result Event Code) → IsOrdered events → read_event slots line ≡ read → refusal_of slots events read ≡ None → Grows slots events (events ++ events_of slots (line ∷ []))
grows-line slots events line (Ok e) ordered is none =
    subst (λ (l : List Event). Grows slots events (events ++ l)) (sym (one_event slots line e (sym is))) (grows-one slots events e ordered (moment_kept slots events e none))
grows-line slots events line (Err code) ordered is none = absurd (cc)

-- The events are in order with those of a good line.
pub ordered-line : (slots : List Slot) (events : List Event) (line : List ℕ) → IsOrdered events → refusal slots events line ≡ None → IsOrdered (events ++ events_of slots (line ∷ []))
ordered-line slots events line ordered none = (grows-line slots events line (read_event slots line) ordered refl none).ordered

-- Good lines do.
grows-first : (slots : List Slot) (earlier : List Event) (line : List ℕ) (lines : List (List ℕ)) (why : Option Code) → IsOrdered earlier → refusal slots earlier line ≡ why → (let next = earlier ++ events_of slots (line ∷ []) in IsOrdered next → Grows slots next (next ++ events_of slots (good_behind slots next lines))) → Grows slots earlier (earlier ++ events_of slots (cond (is_none why) (line ∷ good_behind slots (earlier ++ events_of slots (line ∷ [])) lines) []))
grows-first slots earlier line lines (Some code) ordered is others = grows-none slots earlier ordered
grows-first slots earlier line lines None ordered is others =
    let first = grows-line slots earlier line (read_event slots line) ordered refl is in
    let next = earlier ++ events_of slots (line ∷ []) in
    subst (Grows slots earlier) (append_assoc earlier (events_of slots (line ∷ [])) (events_of slots (good_behind slots next lines)) ∙ ap (λ (l : List Event). earlier ++ l) (sym (events_of-first slots line (good_behind slots next lines))))
    (grows-both slots earlier next (next ++ events_of slots (good_behind slots next lines)) first (others first.ordered))

pub grows-lines : (slots : List Slot) (earlier : List Event) (lines : List (List ℕ)) → IsOrdered earlier → Grows slots earlier (earlier ++ events_of slots (good_behind slots earlier lines))
grows-lines slots earlier [] ordered = grows-none slots earlier ordered
grows-lines slots earlier (line ∷ lines) ordered = grows-first slots earlier line lines (refusal slots earlier line) ordered refl (λ order. grows-lines slots (earlier ++ events_of slots (line ∷ [])) lines order)

-- the text goes on behind the lines that have ended
text-grows : (slots : List Slot) (all : Bool) (events : List Event) → IsOrdered events → (rest : List ℕ) × (text_of_good slots all events ≡ ended_lines slots events ++ rest)
text-grows slots true events ordered = (tick_lines slots events (tick_of (last_moment events)), all_lines-ended slots events ordered)
text-grows slots false events ordered = ([], sym (append-nil (ended_lines slots events)))

-- Where some first lines are good, the text begins with what they ended.
pub text-begins : (slots : List Slot) (lines good behind : List (List ℕ)) → good_lines slots lines ≡ good ++ good_behind slots (events_of slots good) behind → IsOrdered (events_of slots good) → (rest : List ℕ) × (tally_text slots lines ≡ ended_lines slots (events_of slots good) ++ rest)
text-begins slots lines good behind is ordered =
    let earlier = events_of slots good in
    let grows = grows-lines slots earlier behind ordered in
    let events : events_of slots (good_lines slots lines) ≡ earlier ++ events_of slots (good_behind slots earlier behind) =
    ap (events_of slots) is ∙ filter_map-append (λ l. event_of_result (read_event slots l)) good (good_behind slots earlier behind) in
    let later = earlier ++ events_of slots (good_behind slots earlier behind) in
    let all = eqb (length (good_lines slots lines)) (length lines) in
    let more = text-grows slots all later grows.ordered in
    (grows.rest ++ more.0, ap (text_of_good slots all) events ∙ more.1 ∙ ap (λ (l : List ℕ). l ++ more.0) grows.ended ∙ append_assoc (ended_lines slots earlier) grows.rest more.0)

-- Of good lines the text has all.
pub text-good : (slots : List Slot) (lines : List (List ℕ)) → good_lines slots lines ≡ lines → tally_text slots lines ≡ all_lines slots (events_of slots lines)
text-good slots lines is =
    ap (λ (b : Bool). text_of_good slots b (events_of slots (good_lines slots lines))) (eq-eqb (length (good_lines slots lines)) (length lines) (ap length is))
    ∙ ap (λ (l : List (List ℕ)). all_lines slots (events_of slots l)) is

-- Where a line is refused, it has those of the ended ticks.
pub text-refused : (slots : List Slot) (lines good : List (List ℕ)) → good_lines slots lines ≡ good → length good < length lines → tally_text slots lines ≡ ended_lines slots (events_of slots good)
text-refused slots lines good is less = elim (eqb_tells (length (good_lines slots lines)) (length lines)) [
  | inl same ↦ absurd (omega (arith, same.1, ap length is, less))
  | inr other ↦ ap (λ (b : Bool). text_of_good slots b (events_of slots (good_lines slots lines))) other.0 ∙ ap (λ (l : List (List ℕ)). ended_lines slots (events_of slots l)) is
]

-- some first bytes are first bytes of what goes on
take-prefix : (xs ys : List ℕ) (n : ℕ) → (k : ℕ) × (take n xs ≡ take k (xs ++ ys))
take-prefix xs ys n = elim (leb_tells n (length xs)) [
  | inl within ↦ (n, sym (take-append-le n xs ys within.1))
  | inr past ↦ (length xs, take_all n xs (omega (arith, past.1)) ∙ sym (take_at xs ys (length xs) refl))
]

-- Some first bytes of a text are some of a longer one.
pub writes-longer : (before text longer rest now : List ℕ) → longer ≡ text ++ rest → WritesSome before text now → WritesSome before longer now
writes-longer before text longer rest now is some =
    let first = take-prefix text rest some.0 in
    (first.0, some.1 ∙ ap (λ (l : List ℕ). before ++ l) (first.1 ∙ ap (take first.0) (sym is)))

-- What was written, and some of the first bytes of what follows.
pub writes-behind : (before text more old now : List ℕ) (bytes : ℕ) → old ≡ before ++ text → now ≡ old ++ take bytes more → WritesSome before (text ++ more) now
writes-behind before text more old now bytes had put = (
  length text + bytes,
  put ∙ ap (λ (l : List ℕ). l ++ take bytes more) had ∙ append_assoc before text (take bytes more) ∙ ap (λ (l : List ℕ). before ++ l) (sym (take-append-add text more bytes)),
)
