-- What a tally keeps, with one more event.
use Rattle.std.proofs.Common.{◌≡◌, ◌≢◌, ◌+◌, ◌%◌, ◌<◌, ◌≤◌, ℕ, zero, suc, Bool, true, false, cond, List, [], ◌∷◌, ◌++◌, length, map, filter, take, drop, slice_get, Some, None, MatchBool, get_or, inl, inr, refl, sym, ◌∙◌, ap, subst, arith, length-append}
use Rattle.std.proofs.lemmas.List.{get_or-set_other, get_or-map, append-nil, take_all, drop_all}
use Rattle.std.proofs.lemmas.Grind.{get_or-set_at}
use Rattle.std.proofs.Math.ListN.{set, length-set}
use Rattle.std.proofs.Math.Nat.{suc-mod, zero-mod, mod-eq_of_lt}
use Rattle.std.proofs.lemmas.Bool.{le-ltb, lt-leb}
use Rattle.std.proofs.lemmas.Bool.Decides.{eqb_tells}
use Rattle.std.proofs.Math.Dec.{eqb, leb}
use Rattle.std.specs.List.{All}
use Rattle.pm_base.specs.Moment.{tick_of}
use Rattle.pm_base.specs.declared.code.Code.TheVariants.{E4, E5}
use Rattle.pm_meas.specs.Cell.{cell_of}
use Rattle.pm_inventory.specs.Slot.{Slot}
use Rattle.pm_events.specs.Event.{order_refusal, last_moment, events_in, events_at, registers_each_at, is_registered, registered, registered_in, values_in}
use Rattle.pm_events.specs.declared.event.Event.{Event}
use Rattle.pm_events.proofs.EventLemmas.{eqb_other, last_moment-more, events_in-none, events_at-same, events_at-other, registered-none, registered-same, registered_in-last, values_in-last, values_in-same, values_in-other, values_in-few, ordered-more}
use Rattle.pm_tally.specs.Counting.{Counts, CountsEvent, IsStep, IsClear, AreClear, KeepsSlot, KeepsTick}
use Rattle.pm_tally.specs.declared.slot_count.SlotCount.{SlotCount}
use Rattle.pm_tally.specs.declared.counting.Counting.{Counting}

-- the number of events behind the last registered one, with one more
next_seen : (events : List Event) (e : Event) (registers_each seen : ℕ) → seen ≡ length (events_at events e.slot (tick_of e.moment)) % registers_each → (seen + 1) % registers_each ≡ (length (events_at events e.slot (tick_of e.moment)) + 1) % registers_each
next_seen events e registers_each seen is =
    let many = length (events_at events e.slot (tick_of e.moment)) in
    let one : (n : ℕ) → n + 1 ≡ suc n = λ n. omega arith in
    ap (λ (n : ℕ). (n + 1) % registers_each) is ∙ ap (λ (n : ℕ). n % registers_each) (one (many % registers_each)) ∙ sym (suc-mod many registers_each) ∙ ap (λ (n : ℕ). n % registers_each) (sym (one many))

-- it is registered where the code says so
registered_as : (slots : List Slot) (events : List Event) (e : Event) (old new : SlotCount) (is : Bool) → KeepsSlot slots events (tick_of e.moment) e.slot old → IsStep old e.value new is → is ≡ is_registered slots events e
registered_as slots events e old new is keeps step =
    let registers_each = registers_each_at slots e.slot in
    step.registered
    ∙ ap (λ (n : ℕ). eqb ((old.seen + 1) % n) 0) keeps.registers_each
    ∙ ap (λ (n : ℕ). eqb n 0) (next_seen events e registers_each old.seen keeps.seen)

-- the fold of the values of its slot
cell-next : (slots : List Slot) (events : List Event) (e : Event) (old new : SlotCount) (is : Bool) → KeepsSlot slots events (tick_of e.moment) e.slot old → registered_in slots events (tick_of e.moment) < 1073741824 → is ≡ is_registered slots events e → MatchBool is ((values : List ℕ) → old.cell ≡ cell_of values → length values < 1073741824 → new.cell ≡ cell_of (values ++ e.value ∷ [])) (new.cell ≡ old.cell) → new.cell ≡ cell_of (values_in slots (events ++ e ∷ []) e.slot (tick_of e.moment))
cell-next slots events e old new true keeps room is step =
    let values = values_in slots events e.slot (tick_of e.moment) in
    let few : length values < 1073741824 = omega (arith, room, values_in-few slots events e.slot (tick_of e.moment)) in
    step values keeps.cell few ∙ ap cell_of (sym (values_in-last slots events e (sym is)))
cell-next slots events e old new false keeps room is step = step ∙ keeps.cell ∙ ap cell_of (sym (values_in-same slots events e e.slot (tick_of e.moment) (sym is)))

-- its own slot
keeps-own : (slots : List Slot) (events : List Event) (e : Event) (old new : SlotCount) (is : Bool) → KeepsSlot slots events (tick_of e.moment) e.slot old → registered_in slots events (tick_of e.moment) < 1073741824 → IsStep old e.value new is → KeepsSlot slots (events ++ e ∷ []) (tick_of e.moment) e.slot new
keeps-own slots events e old new is keeps room step =
    let registers_each = registers_each_at slots e.slot in
    let more : length (events_at (events ++ e ∷ []) e.slot (tick_of e.moment)) ≡ length (events_at events e.slot (tick_of e.moment)) + 1 =
    ap length (events_at-same events e e.slot (tick_of e.moment) refl refl) ∙ length-append (events_at events e.slot (tick_of e.moment)) (e ∷ []) in
    record {
      registers_each = step.registers_each ∙ keeps.registers_each;
      seen = step.seen ∙ ap (λ (n : ℕ). (old.seen + 1) % n) keeps.registers_each ∙ next_seen events e registers_each old.seen keeps.seen ∙ ap (λ (n : ℕ). n % registers_each) (sym more);
      cell = cell-next slots events e old new is keeps room (registered_as slots events e old new is keeps step) step.cell;
    }

-- another slot
keeps-other : (slots : List Slot) (events : List Event) (e : Event) (place : ℕ) (count : SlotCount) → e.slot ≢ place → KeepsSlot slots events (tick_of e.moment) place count → KeepsSlot slots (events ++ e ∷ []) (tick_of e.moment) place count
keeps-other slots events e place count differs keeps = record {
  registers_each = keeps.registers_each;
  seen = keeps.seen ∙ ap (λ (l : List Event). length l % registers_each_at slots place) (sym (events_at-other events e place (tick_of e.moment) refl differs));
  cell = keeps.cell ∙ ap cell_of (sym (values_in-other slots events e place differs));
}

-- the number of registered events
registered-next : (slots : List Slot) (events : List Event) (e : Event) (registered more : ℕ) (is : Bool) → registered ≡ registered_in slots events (tick_of e.moment) → is ≡ is_registered slots events e → more ≡ cond is (registered + 1) registered → more ≡ registered_in slots (events ++ e ∷ []) (tick_of e.moment)
registered-next slots events e registered more true many is next = omega (arith, next, many, registered_in-last slots events e (sym is))
registered-next slots events e registered more false many is next = next ∙ many ∙ ap (λ (l : List Event). length (events_in l (tick_of e.moment))) (sym (registered-same slots events e (sym is)))

-- An event into a tick that is kept.
pub keeps-next : (slots : List Slot) (events : List Event) (e : Event) (d : SlotCount) (old new : Counting) → KeepsTick slots events (tick_of e.moment) old.registered old.counts.items → old.registered < 1073741824 → e.slot < length slots → CountsEvent old e new → KeepsTick slots (events ++ e ∷ []) (tick_of e.moment) new.registered new.counts.items
keeps-next slots events e d old new keeps room within counted =
    let own = keeps.slot e.slot d within in
    let step = counted.step d in
    let few : registered_in slots events (tick_of e.moment) < 1073741824 = omega (arith, room, keeps.registered_is) in
    record {
      many = ap length counted.counts ∙ length-set old.counts.items e.slot counted.count ∙ keeps.many;
      registered_is = registered-next slots events e old.registered new.registered counted.is keeps.registered_is (registered_as slots events e (get_or old.counts.items e.slot d) counted.count counted.is own step) counted.registered;
      slot = λ place c inside. elim (eqb_tells e.slot place) [
        | inl same ↦
            let at : get_or (set old.counts.items e.slot counted.count) place c ≡ counted.count = get_or-set_at old.counts.items e.slot place counted.count c (sym same.1) (omega (arith, within, keeps.many)) in
            subst (λ (p : ℕ). KeepsSlot slots (events ++ e ∷ []) (tick_of e.moment) p (get_or new.counts.items place c)) same.1
            (subst (KeepsSlot slots (events ++ e ∷ []) (tick_of e.moment) e.slot) (sym (ap (λ (l : List SlotCount). get_or l place c) counted.counts ∙ at))
            (keeps-own slots events e (get_or old.counts.items e.slot d) counted.count counted.is own few step))
        | inr other ↦
            let differs : e.slot ≢ place = other.1 in
            let at : get_or (set old.counts.items e.slot counted.count) place c ≡ get_or old.counts.items place c = get_or-set_other old.counts.items e.slot place counted.count c (λ is. differs (sym is)) in
            subst (KeepsSlot slots (events ++ e ∷ []) (tick_of e.moment) place) (sym (ap (λ (l : List SlotCount). get_or l place c) counted.counts ∙ at))
            (keeps-other slots events e place (get_or old.counts.items place c) differs (keeps.slot place c inside))
      ];
    }

-- One more event of the same tick.
pub counts-same : (slots : List Slot) (events : List Event) (e : Event) (d : SlotCount) (old new : Counting) → Counts slots old events → old.moment ≤ e.moment → tick_of old.moment ≡ tick_of e.moment → old.registered < 1073741824 → e.slot < length old.counts.items → CountsEvent old e new → Counts slots new (events ++ e ∷ [])
counts-same slots events e d old new counts later same room within counted =
    let keeps = subst (λ (t : ℕ). KeepsTick slots events t old.registered old.counts.items) same counts.tick in
    let next = keeps-next slots events e d old new keeps room (omega (arith, within, counts.tick.many)) counted in
    let at : e.moment ≡ new.moment = sym counted.moment in record {
      moment = counted.moment ∙ sym (last_moment-more events e);
      ordered = subst (λ (m : ℕ). All (λ x. x.moment ≤ m) (events ++ e ∷ [])) at (ordered-more events e old.moment counts.ordered later);
      tick = subst (λ (m : ℕ). KeepsTick slots (events ++ e ∷ []) (tick_of m) new.registered new.counts.items) at next;
    }

-- A tick without events keeps nothing.
pub keeps-none : (slots : List Slot) (events : List Event) (tick other many : ℕ) (counts clear : List SlotCount) → events_in events tick ≡ [] → KeepsTick slots events other many counts → AreClear counts clear → KeepsTick slots events tick 0 clear
keeps-none slots events tick other many counts clear none keeps begun = record {
  many = begun.many ∙ keeps.many;
  registered_is = sym (ap length (registered-none slots events tick none));
  slot = λ place d inside.
      let empty = begun.slot place d (omega (arith, inside, keeps.many)) in record {
        registers_each = empty.registers_each_is ∙ (keeps.slot place d inside).registers_each;
        seen = empty.seen ∙ sym (zero-mod (registers_each_at slots place)) ∙ ap (λ (l : List Event). length (filter (λ x. eqb x.slot place) l) % registers_each_at slots place) (sym none);
        cell = empty.cell ∙ ap (λ (l : List Event). cell_of (map (λ x. x.value) (filter (λ x. eqb x.slot place) l))) (sym (registered-none slots events tick none));
      };
}

-- The first event of a later tick.
pub counts-later : (slots : List Slot) (events : List Event) (e : Event) (d : SlotCount) (old middle new : Counting) → Counts slots old events → tick_of old.moment < tick_of e.moment → middle.registered ≡ 0 → AreClear old.counts.items middle.counts.items → e.slot < length old.counts.items → CountsEvent middle e new → Counts slots new (events ++ e ∷ [])
counts-later slots events e d old middle new counts later zero_ clear within counted =
    let none = events_in-none events old.moment (tick_of e.moment) counts.ordered later in
    let empty = keeps-none slots events (tick_of e.moment) (tick_of old.moment) old.registered old.counts.items middle.counts.items none counts.tick clear in
    let keeps = subst (λ (n : ℕ). KeepsTick slots events (tick_of e.moment) n middle.counts.items) (sym zero_) empty in
    let next = keeps-next slots events e d middle new keeps (omega (arith, zero_)) (omega (arith, within, counts.tick.many)) counted in
    let at : e.moment ≡ new.moment = sym counted.moment in record {
      moment = counted.moment ∙ sym (last_moment-more events e);
      ordered = subst (λ (m : ℕ). All (λ x. x.moment ≤ m) (events ++ e ∷ [])) at (ordered-more events e old.moment counts.ordered (omega (arith, later)));
      tick = subst (λ (m : ℕ). KeepsTick slots (events ++ e ∷ []) (tick_of m) new.registered new.counts.items) at next;
    }

-- Of no event.
pub counts-none : (slots : List Slot) (counting : Counting) → counting.moment ≡ 0 → counting.registered ≡ 0 → length counting.counts.items ≡ length slots → ((place : ℕ) (d : SlotCount) → place < length slots → IsClear (registers_each_at slots place) (get_or counting.counts.items place d)) → Counts slots counting []
counts-none slots counting moment none many slot = record {
  moment = moment;
  ordered = λ k d lt. absurd (omega (arith, lt));
  tick = record {
    many = many;
    registered_is = none;
    slot = λ place d inside.
        let empty = slot place d inside in record {
          registers_each = empty.registers_each_is;
          seen = empty.seen ∙ sym (zero-mod (registers_each_at slots place));
          cell = empty.cell;
        };
  };
}

-- an event that is not before the last one, into a tick that is not full, is good
pub not_refused : (slots : List Slot) (counting : Counting) (events : List Event) (e : Event) → Counts slots counting events → counting.moment ≤ e.moment → (tick_of counting.moment ≡ tick_of e.moment → counting.registered < 1073741824) → order_refusal slots events e ≡ None
not_refused slots counting events e counts later room =
    let few : registered_in slots events (tick_of e.moment) < 1073741824 = elim (eqb_tells (tick_of counting.moment) (tick_of e.moment)) [
      | inl same ↦ let less = room same.1 in subst (λ (t : ℕ). registered_in slots events t < 1073741824) same.1 (omega (arith, less, counts.tick.registered_is))
      | inr other ↦ omega (arith, ap length (registered-none slots events (tick_of e.moment) (events_in-none events counting.moment (tick_of e.moment) counts.ordered (omega (arith, later, other.1)))))
    ] in
    ap (λ (b : Bool). cond b (Some E5) (cond (leb 1073741824 (registered_in slots events (tick_of e.moment))) (Some E4) None)) (le-ltb e.moment (last_moment events) (omega (arith, later, counts.moment)))
    ∙ ap (λ (b : Bool). cond b (Some E4) None) (lt-leb 1073741824 (registered_in slots events (tick_of e.moment)) few)

-- An event that is not registered.
pub small_seen : (seen registers_each : ℕ) → seen + 1 < registers_each → seen + 1 ≡ (seen + 1) % registers_each
small_seen seen registers_each less = sym (mod-eq_of_lt less)

pub not_yet : (seen registers_each : ℕ) → seen + 1 < registers_each → false ≡ eqb ((seen + 1) % registers_each) 0
not_yet seen registers_each less = sym (ap (λ (n : ℕ). eqb n 0) (mod-eq_of_lt less) ∙ eqb_other (seen + 1) 0 (λ is. omega (arith, is)))

-- What a slice that was lent puts back.
pub put_back : {A : Type 0} (old new : List A) (len : ℕ) → length new ≡ length old → len ≡ length old → take len (new ++ drop (length new) old) ≡ new
put_back old new len many is =
    ap (λ l. take len (new ++ l)) (drop_all (length new) old (omega (arith, many))) ∙ ap (take len) (append-nil new) ∙ take_all len new (omega (arith, many, is))

-- Within a list, what stands at a place goes by no default.
pub get_or-any : {A : Type 0} (xs : List A) (i : ℕ) (d other : A) → i < length xs → get_or xs i d ≡ get_or xs i other
get_or-any [] i d other within = absurd (omega (arith, within))
get_or-any (x ∷ xs) zero d other within = refl
get_or-any (x ∷ xs) (suc i) d other within = get_or-any xs i d other (omega (arith, within))

pub slice_get-at : {A : Type 0} (xs : List A) (i : ℕ) (d : A) → i < length xs → slice_get xs i ≡ Some (get_or xs i d)
slice_get-at [] i d within = absurd (omega (arith, within))
slice_get-at (x ∷ xs) zero d within = refl
slice_get-at (x ∷ xs) (suc i) d within = slice_get-at xs i d (omega (arith, within))

get_or-append_at : {A : Type 0} (xs : List A) (x : A) (ys : List A) (d : A) → get_or (xs ++ x ∷ ys) (length xs) d ≡ x
get_or-append_at [] x ys d = refl
get_or-append_at (a ∷ xs) x ys d = get_or-append_at xs x ys d

get_or-append_front : {A : Type 0} (xs ys : List A) (i : ℕ) (d : A) → i < length xs → get_or (xs ++ ys) i d ≡ get_or xs i d
get_or-append_front [] ys i d within = absurd (omega (arith, within))
get_or-append_front (a ∷ xs) ys zero d within = refl
get_or-append_front (a ∷ xs) ys (suc i) d within = get_or-append_front xs ys i d (omega (arith, within))

-- One more count of no event.
pub clear-next : (slots : List Slot) (counts : List SlotCount) (count : SlotCount) (registers_each : ℕ) (d : Slot) → length counts < length slots → registers_each ≡ (get_or slots (length counts) d).registers_each → IsClear registers_each count → ((place : ℕ) (c : SlotCount) → place < length counts → IsClear (registers_each_at slots place) (get_or counts place c)) → (place : ℕ) (c : SlotCount) → place < length counts + 1 → IsClear (registers_each_at slots place) (get_or (counts ++ count ∷ []) place c)
clear-next slots counts count registers_each d within is clear before place c inside = elim (eqb_tells place (length counts)) [
  | inl same ↦
      let at : registers_each_at slots (length counts) ≡ registers_each = get_or-map (λ (s : Slot). s.registers_each) slots (length counts) d 1 within ∙ sym is in
      let last : IsClear (registers_each_at slots (length counts)) count = subst (λ (n : ℕ). IsClear n count) (sym at) clear in
      subst (λ (p : ℕ). IsClear (registers_each_at slots p) (get_or (counts ++ count ∷ []) p c)) (sym same.1) (subst (IsClear (registers_each_at slots (length counts))) (sym (get_or-append_at counts count [] c)) last)
  | inr other ↦
      let less : place < length counts = omega (arith, inside, other.1) in
      subst (IsClear (registers_each_at slots place)) (sym (get_or-append_front counts (count ∷ []) place c less)) (before place c less)
]
