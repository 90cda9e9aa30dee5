-- What is written with a further good line, and at the end.
use Rattle.std.proofs.Common.{◌≡◌, ◌<◌, ◌≤◌, ℕ, List, [], ◌∷◌, ◌++◌, length, take, Ok, sym, ◌∙◌, ap, subst, arith, append_assoc, length-append}
use Rattle.std.specs.List.{All}
use Rattle.pm_base.specs.Moment.{tick_of}
use Rattle.pm_inventory.specs.Slot.{Slot}
use Rattle.pm_events.specs.Event.{events_of, read_event, last_moment}
use Rattle.pm_events.specs.declared.event.Event.{Event}
use Rattle.pm_tally.specs.Tally.{ended_lines, all_lines, tick_lines}
use Rattle.pm_tally.specs.Taking.{WritesSome}
use Rattle.pm_tally.specs.Counting.{Counts}
use Rattle.pm_tally.specs.declared.counting.Counting.{Counting}
use Rattle.pm_tally.proofs.TallyLemmas.{ended_lines-same, ended_lines-later, all_lines-ended}
use Rattle.pm_tally.proofs.TextLemmas.{IsOrdered, one_event, writes-behind}

-- What is counted is in order.
pub counts-ordered : (slots : List Slot) (counting : Counting) (events : List Event) → Counts slots counting events → IsOrdered events
counts-ordered slots counting events counts = subst (λ (m : ℕ). All (λ x. x.moment ≤ m) events) counts.moment counts.ordered

-- In the same tick nothing is written.
pub written-same : (slots : List Slot) (counting : Counting) (events : List Event) (e : Event) (line before now : List ℕ) → Counts slots counting events → Ok e ≡ read_event slots line → tick_of e.moment ≡ tick_of counting.moment → now ≡ before ++ ended_lines slots events → now ≡ before ++ ended_lines slots (events ++ events_of slots (line ∷ []))
written-same slots counting events e line before now counts is same written =
    let ticks : tick_of (last_moment events) ≡ tick_of e.moment = ap tick_of (sym counts.moment) ∙ sym same in
    written ∙ ap (λ (l : List ℕ). before ++ l) (sym (ended_lines-same slots events e ticks))
    ∙ ap (λ (l : List Event). before ++ ended_lines slots (events ++ l)) (sym (one_event slots line e is))

-- with the lines of its last tick behind them, the ended lines are those behind a later event
ended-next : (slots : List Slot) (counting : Counting) (events : List Event) (e : Event) (line : List ℕ) → Counts slots counting events → Ok e ≡ read_event slots line → tick_of counting.moment < tick_of e.moment → ended_lines slots events ++ tick_lines slots events (tick_of counting.moment) ≡ ended_lines slots (events ++ events_of slots (line ∷ []))
ended-next slots counting events e line counts is later =
    let past : tick_of (last_moment events) < tick_of e.moment = subst (λ (m : ℕ). tick_of m < tick_of e.moment) counts.moment later in
    ap (λ (m : ℕ). ended_lines slots events ++ tick_lines slots events (tick_of m)) counts.moment
    ∙ sym (ended_lines-later slots events e (counts-ordered slots counting events counts) past)
    ∙ ap (λ (l : List Event). ended_lines slots (events ++ l)) (sym (one_event slots line e is))

-- Before a later tick the lines of the last tick are.
pub written-later : (slots : List Slot) (counting : Counting) (events : List Event) (e : Event) (line before old now : List ℕ) → Counts slots counting events → Ok e ≡ read_event slots line → tick_of counting.moment < tick_of e.moment → now ≡ old ++ tick_lines slots events (tick_of counting.moment) → old ≡ before ++ ended_lines slots events → now ≡ before ++ ended_lines slots (events ++ events_of slots (line ∷ []))
written-later slots counting events e line before old now counts is later put written =
    put ∙ ap (λ (l : List ℕ). l ++ tick_lines slots events (tick_of counting.moment)) written
    ∙ append_assoc before (ended_lines slots events) (tick_lines slots events (tick_of counting.moment))
    ∙ ap (λ (l : List ℕ). before ++ l) (ended-next slots counting events e line counts is later)

-- In a fault some of them.
pub written-some : (slots : List Slot) (counting : Counting) (events : List Event) (e : Event) (line before old now : List ℕ) → Counts slots counting events → Ok e ≡ read_event slots line → tick_of counting.moment < tick_of e.moment → (bytes : ℕ) × (now ≡ old ++ take bytes (tick_lines slots events (tick_of counting.moment))) → old ≡ before ++ ended_lines slots events → WritesSome before (ended_lines slots (events ++ events_of slots (line ∷ []))) now
written-some slots counting events e line before old now counts is later put written =
    subst (λ (text : List ℕ). WritesSome before text now) (ended-next slots counting events e line counts is later)
    (writes-behind before (ended_lines slots events) (tick_lines slots events (tick_of counting.moment)) old now put.0 written put.1)

-- with the lines of the last tick, all are there
all-next : (slots : List Slot) (counting : Counting) (events : List Event) → Counts slots counting events → ended_lines slots events ++ tick_lines slots events (tick_of counting.moment) ≡ all_lines slots events
all-next slots counting events counts =
    ap (λ (m : ℕ). ended_lines slots events ++ tick_lines slots events (tick_of m)) counts.moment
    ∙ sym (all_lines-ended slots events (counts-ordered slots counting events counts))

-- At the end the lines of the last tick are written.
pub written-all : (slots : List Slot) (counting : Counting) (events : List Event) (before old now : List ℕ) → Counts slots counting events → now ≡ old ++ tick_lines slots events (tick_of counting.moment) → old ≡ before ++ ended_lines slots events → now ≡ before ++ all_lines slots events
written-all slots counting events before old now counts put written =
    put ∙ ap (λ (l : List ℕ). l ++ tick_lines slots events (tick_of counting.moment)) written
    ∙ append_assoc before (ended_lines slots events) (tick_lines slots events (tick_of counting.moment))
    ∙ ap (λ (l : List ℕ). before ++ l) (all-next slots counting events counts)

-- In a fault some of them.
pub written-end : (slots : List Slot) (counting : Counting) (events : List Event) (before old now : List ℕ) → Counts slots counting events → (bytes : ℕ) × (now ≡ old ++ take bytes (tick_lines slots events (tick_of counting.moment))) → old ≡ before ++ ended_lines slots events → WritesSome before (all_lines slots events) now
written-end slots counting events before old now counts put written =
    subst (λ (text : List ℕ). WritesSome before text now) (all-next slots counting events counts)
    (writes-behind before (ended_lines slots events) (tick_lines slots events (tick_of counting.moment)) old now put.0 written put.1)

-- Where the last tick has lines, the ended lines after a later event have some.
pub some-later : (slots : List Slot) (counting : Counting) (events : List Event) (e : Event) (line : List ℕ) → Counts slots counting events → Ok e ≡ read_event slots line → tick_of counting.moment < tick_of e.moment → 0 < length (tick_lines slots events (tick_of counting.moment)) → 0 < length (ended_lines slots (events ++ events_of slots (line ∷ [])))
some-later slots counting events e line counts is later some =
    omega (arith, ap length (ended-next slots counting events e line counts is later), length-append (ended_lines slots events) (tick_lines slots events (tick_of counting.moment)), some)

-- And so have all lines.
pub some-all : (slots : List Slot) (counting : Counting) (events : List Event) → Counts slots counting events → 0 < length (tick_lines slots events (tick_of counting.moment)) → 0 < length (all_lines slots events)
some-all slots counting events counts some =
    omega (arith, ap length (all-next slots counting events counts), length-append (ended_lines slots events) (tick_lines slots events (tick_of counting.moment)), some)
