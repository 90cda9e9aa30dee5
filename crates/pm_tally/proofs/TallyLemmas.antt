-- The lines of a tally, with one more event.
use Rattle.std.proofs.Common.{◌≡◌, ◌+◌, ◌-◌, ◌<◌, ◌≤◌, ℕ, zero, suc, List, [], ◌∷◌, ◌++◌, map, filter, refl, sym, ◌∙◌, ap, arith}
use Rattle.std.proofs.lemmas.List.{append-nil}
use Rattle.std.proofs.lemmas.Grind.{flat_map-append}
use Rattle.std.proofs.Math.Dec.{eqb}
use Rattle.std.specs.List.{All, flat_map, enumerate_from, range_with_len}
use Rattle.pm_base.specs.Moment.{tick_of}
use Rattle.pm_inventory.specs.Slot.{Slot}
use Rattle.pm_events.specs.Event.{last_moment, events_in, registered}
use Rattle.pm_events.specs.declared.event.Event.{Event}
use Rattle.pm_events.proofs.EventLemmas.{last_moment-more, events_in-none, registered-none, registered-other}
use Rattle.pm_tally.specs.Tally.{slot_line, tick_lines, lines_before, ended_lines, all_lines}

-- numbers in a row, in two parts
pub range_split : (a n k : ℕ) → range_with_len a (n + k) ≡ range_with_len a n ++ range_with_len (a + n) k
range_split a zero k =
    let none : zero + k ≡ k = omega arith in
    let same : a ≡ a + zero = omega arith in
    ap (λ (m : ℕ). range_with_len a m) none ∙ ap (λ (b : ℕ). range_with_len b k) same
range_split a (suc n) k =
    let next : suc n + k ≡ suc (n + k) = omega arith in
    let start : a + 1 + n ≡ a + suc n = omega arith in
    ap (λ (m : ℕ). range_with_len a m) next ∙ ap (λ (l : List ℕ). a ∷ l) (range_split (a + 1) n k ∙ ap (λ (b : ℕ). range_with_len (a + 1) n ++ range_with_len b k) start)

-- what agrees on the numbers of a row makes one text of them
flat_map_same : (f g : ℕ → List ℕ) (a n : ℕ) → ((k : ℕ) → a ≤ k → k < a + n → f k ≡ g k) → flat_map f (range_with_len a n) ≡ flat_map g (range_with_len a n)
flat_map_same f g a zero agree = refl
flat_map_same f g a (suc n) agree =
    ap (λ (l : List ℕ). l ++ flat_map f (range_with_len (a + 1) n)) (agree a (omega arith) (omega arith))
    ∙ ap (λ (l : List ℕ). g a ++ l) (flat_map_same f g (a + 1) n (λ k low high. agree k (omega (arith, low)) (omega (arith, high))))

-- nothing of each number is nothing
pub flat_map_none : (f : ℕ → List ℕ) (a n : ℕ) → ((k : ℕ) → a ≤ k → k < a + n → f k ≡ []) → flat_map f (range_with_len a n) ≡ []
flat_map_none f a zero none = refl
flat_map_none f a (suc n) none =
    ap (λ (l : List ℕ). l ++ flat_map f (range_with_len (a + 1) n)) (none a (omega arith) (omega arith))
    ∙ flat_map_none f (a + 1) n (λ k low high. none k (omega (arith, low)) (omega (arith, high)))

-- the lines of a tick by its registered events
lines_of_events : List Slot → ℕ → List Event → List ℕ
lines_of_events slots tick events = flat_map (λ place. slot_line tick place.1 (map (λ e. e.value) (filter (λ e. eqb e.slot place.0) events))) (enumerate_from 0 slots)

-- without events there are none
no_lines : (slots : List Slot) (tick first : ℕ) → flat_map (λ place. slot_line tick place.1 []) (enumerate_from first slots) ≡ []
no_lines [] tick first = refl
no_lines (slot ∷ slots) tick first = no_lines slots tick (first + 1)

pub tick_lines-none : (slots : List Slot) (events : List Event) (tick : ℕ) → events_in events tick ≡ [] → tick_lines slots events tick ≡ []
unfolding lines_of_events
tick_lines-none slots events tick none = ap (lines_of_events slots tick) (registered-none slots events tick none) ∙ no_lines slots tick 0

-- Where none of them is registered.
pub tick_lines-empty : (slots : List Slot) (events : List Event) (tick : ℕ) → events_in (registered slots events) tick ≡ [] → tick_lines slots events tick ≡ []
unfolding lines_of_events
tick_lines-empty slots events tick none = ap (lines_of_events slots tick) none ∙ no_lines slots tick 0

tick_lines-same : (slots : List Slot) (events more : List Event) (tick : ℕ) → events_in (registered slots more) tick ≡ events_in (registered slots events) tick → tick_lines slots more tick ≡ tick_lines slots events tick
unfolding lines_of_events
tick_lines-same slots events more tick same = ap (lines_of_events slots tick) same

-- An event leaves the lines of the ticks before its own as they were.
pub lines_before-more : (slots : List Slot) (events : List Event) (e : Event) (tick : ℕ) → tick ≤ tick_of e.moment → lines_before slots (events ++ e ∷ []) tick ≡ lines_before slots events tick
lines_before-more slots events e tick past =
    flat_map_same (tick_lines slots (events ++ e ∷ [])) (tick_lines slots events) 0 tick
    (λ k low high. tick_lines-same slots events (events ++ e ∷ []) k (registered-other slots events e k (λ is. omega (arith, high, past, is))))

-- The lines of the ticks before a later one: those before the tick of the last event, and its own.
pub lines_before-later : (slots : List Slot) (events : List Event) (moment tick : ℕ) → All (λ e. e.moment ≤ moment) events → tick_of moment < tick → lines_before slots events tick ≡ lines_before slots events (tick_of moment) ++ tick_lines slots events (tick_of moment)
lines_before-later slots events moment tick ordered later =
    let f : ℕ → List ℕ = tick_lines slots events in
    let rest = tick - (tick_of moment + 1) in
    let parts : tick ≡ tick_of moment + suc rest = omega (arith, later) in
    let own : range_with_len (0 + tick_of moment) (suc rest) ≡ tick_of moment ∷ range_with_len (tick_of moment + 1) rest =
    let start : 0 + tick_of moment ≡ tick_of moment = omega arith in ap (λ (b : ℕ). range_with_len b (suc rest)) start in
    ap (λ (m : ℕ). flat_map f (range_with_len 0 m)) parts
    ∙ ap (flat_map f) (range_split 0 (tick_of moment) (suc rest) ∙ ap (λ (l : List ℕ). range_with_len 0 (tick_of moment) ++ l) own)
    ∙ flat_map-append f (range_with_len 0 (tick_of moment)) (tick_of moment ∷ range_with_len (tick_of moment + 1) rest)
    ∙ ap (λ (l : List ℕ). flat_map f (range_with_len 0 (tick_of moment)) ++ (f (tick_of moment) ++ l))
    (flat_map_none f (tick_of moment + 1) rest (λ k low high. tick_lines-none slots events k (events_in-none events moment k ordered (omega (arith, low)))))
    ∙ ap (λ (l : List ℕ). flat_map f (range_with_len 0 (tick_of moment)) ++ l) (append-nil (f (tick_of moment)))

-- The ended lines behind one more event of the same tick.
pub ended_lines-same : (slots : List Slot) (events : List Event) (e : Event) → tick_of (last_moment events) ≡ tick_of e.moment → ended_lines slots (events ++ e ∷ []) ≡ ended_lines slots events
ended_lines-same slots events e same =
    ap (λ (m : ℕ). lines_before slots (events ++ e ∷ []) (tick_of m)) (last_moment-more events e)
    ∙ lines_before-more slots events e (tick_of e.moment) (omega arith)
    ∙ ap (λ (t : ℕ). lines_before slots events t) (sym same)

-- Behind one of a later tick the lines of the last tick have ended too.
pub ended_lines-later : (slots : List Slot) (events : List Event) (e : Event) → All (λ x. x.moment ≤ last_moment events) events → tick_of (last_moment events) < tick_of e.moment → ended_lines slots (events ++ e ∷ []) ≡ ended_lines slots events ++ tick_lines slots events (tick_of (last_moment events))
ended_lines-later slots events e ordered later =
    ap (λ (m : ℕ). lines_before slots (events ++ e ∷ []) (tick_of m)) (last_moment-more events e)
    ∙ lines_before-more slots events e (tick_of e.moment) (omega arith)
    ∙ lines_before-later slots events (last_moment events) (tick_of e.moment) ordered later

-- All lines are the ended ones and those of the last tick.
pub all_lines-ended : (slots : List Slot) (events : List Event) → All (λ x. x.moment ≤ last_moment events) events → all_lines slots events ≡ ended_lines slots events ++ tick_lines slots events (tick_of (last_moment events))
all_lines-ended slots events ordered = lines_before-later slots events (last_moment events) (tick_of (last_moment events) + 1) ordered (omega arith)
