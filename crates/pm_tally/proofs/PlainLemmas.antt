-- The tally of a whole input, part by part.
use Rattle.std.proofs.Common.{◌≡◌, ◌+◌, ◌%◌, ◌<◌, ◌≤◌, ℕ, suc, Bool, true, false, cond, List, [], ◌∷◌, ◌++◌, length, map, take, drop, get_or, min, Some, None, Result, Ok, Err, IfOk, inl, inr, refl, sym, ◌∙◌, ap, subst, arith, take-append-drop, drop-cons}
use Rattle.std.proofs.lemmas.Bool.Decides.{eqb_tells, leb_tells}
use Rattle.std.proofs.lemmas.List.{append-nil, length-map, length-take, take-map, map-append, take_more, get_or-map, take_all, drop_all, drop-map}
use Rattle.std.proofs.lemmas.Grind.{flat_map-append}
use Rattle.std.proofs.Math.Dec.{eqb, leb, ltb}
use Rattle.std.proofs.Math.Seq.{drop-append_seam}
use Rattle.std.proofs.Math.Nat.{suc-mod, mod_self, mod-eq_of_lt}
use Rattle.std.proofs.lemmas.Nat.{mod_below}
use Rattle.std.specs.List.{flat_map, range_with_len}
use Rattle.pm_base.specs.Lines.{lines_of, lines_of_parts}
use Rattle.pm_base.specs.Moment.{tick_of}
use Rattle.pm_base.specs.declared.code.Code.TheVariants.{E4, E5}
use Rattle.pm_inventory.specs.Slot.{Slot, event_slots}
use Rattle.pm_inventory.specs.Inventory.{InventoryState}
use Rattle.pm_inventory.specs.InventoryReading.{IsRead}
use Rattle.pm_tally.specs.declared.plain.PlainTally.{PlainTally}
use Rattle.pm_tally.proofs.OutcomeLemmas.{outcome-read}
use Rattle.pm_events.specs.Event.{events_of, events_in, events_at, registers_each_at, registered, registered_in, registered_one, is_registered, last_moment, read_event, refusal, refusal_of, order_refusal}
use Rattle.pm_events.specs.declared.event.Event.{Event}
use Rattle.pm_events.proofs.EventLemmas.{eqb_other, events_in-other, events_of-more, registered-more, registered-other, registered-same, registered_in-last}
use Rattle.pm_tally.specs.Tally.{good_lines, tick_lines, lines_before}
use Rattle.pm_tally.specs.Outcome.{ran, IsRefused, IsTallied, IsOutcome}
use Rattle.pm_outside.specs.declared.feed.TheConstants.{MOST_READ}
use Rattle.pm_tally.specs.Plain.{AreFew, IsByRule, FindsFirst, EndsBy}
use Rattle.pm_tally.specs.declared.plain_events.Refused.{Refused}
use Rattle.pm_tally.specs.declared.tally_end.TallyEnd.{TallyEnd}
use Rattle.pm_tally.specs.declared.tally_end.TallyEnd.TheVariants as end
use Rattle.pm_tally.proofs.Progress.{BeginsGood, begins-more, begins-refused, begins-all}
use Rattle.pm_tally.proofs.TallyLemmas.{range_split, flat_map_none, tick_lines-empty}
use Rattle.pm_tally.proofs.TextLemmas.{one_event, text-good, text-refused}

-- An empty last part is no line.
pub lines_of_parts-empty : (lines : List (List ℕ)) (last : List ℕ) → eqb (length last) 0 ≡ true → lines_of_parts (lines ++ last ∷ []) ≡ lines
lines_of_parts-empty [] last empty = ap (λ (v : Bool). cond v [] (last ∷ [])) empty
lines_of_parts-empty (line ∷ []) last empty = ap (λ (l : List (List ℕ)). line ∷ l) (lines_of_parts-empty [] last empty)
lines_of_parts-empty (line ∷ next ∷ more) last empty = ap (λ (l : List (List ℕ)). line ∷ l) (lines_of_parts-empty (next ∷ more) last empty)

-- Another one is.
pub lines_of_parts-last : (lines : List (List ℕ)) (last : List ℕ) → eqb (length last) 0 ≡ false → lines_of_parts (lines ++ last ∷ []) ≡ lines ++ last ∷ []
lines_of_parts-last [] last some = ap (λ (v : Bool). cond v [] (last ∷ [])) some
lines_of_parts-last (line ∷ []) last some = ap (λ (l : List (List ℕ)). line ∷ l) (lines_of_parts-last [] last some)
lines_of_parts-last (line ∷ next ∷ more) last some = ap (λ (l : List (List ℕ)). line ∷ l) (lines_of_parts-last (next ∷ more) last some)

-- The lines before the first tick with a registered event are none.
pub lines_before-none : (slots : List Slot) (events : List Event) (end : ℕ) → ((k : ℕ) → k < end → events_in (registered slots events) k ≡ []) → lines_before slots events end ≡ []
lines_before-none slots events end none = flat_map_none (tick_lines slots events) 0 end (λ k low high. tick_lines-empty slots events k (none k (omega (arith, high))))

-- The lines before the next tick.
pub lines_before-next : (slots : List Slot) (events : List Event) (tick : ℕ) → lines_before slots events (tick + 1) ≡ lines_before slots events tick ++ tick_lines slots events tick
lines_before-next slots events tick =
    let f = λ (t : ℕ). tick_lines slots events t in
    let start : 0 + tick ≡ tick = omega arith in
    ap (λ (l : List ℕ). flat_map f l) (range_split 0 tick 1 ∙ ap (λ (t : ℕ). range_with_len 0 tick ++ t ∷ []) start)
    ∙ flat_map-append f (range_with_len 0 tick) (tick ∷ [])
    ∙ ap (λ (l : List ℕ). flat_map f (range_with_len 0 tick) ++ l) (append-nil (f tick))

-- a list by one of its elements
parts_at : {A : Type 0} (xs : List A) (i : ℕ) (d : A) → i < length xs → xs ≡ take i xs ++ get_or xs i d ∷ drop (suc i) xs
parts_at xs i d within = sym (take-append-drop i xs) ∙ ap (λ l. take i xs ++ l) (drop-cons xs i d within)

-- No event of the next one either is before the first tick.
pub none_before-next : (events : List Event) (i first now next : ℕ) (d : Event) → i < length events → now ≡ tick_of (get_or events i d).moment → next ≡ min first now → ((k : ℕ) → k < first → events_in (take i events) k ≡ []) → (k : ℕ) → k < next → events_in (take (i + 1) events) k ≡ []
none_before-next events i first now next d within is least none k early =
    ap (λ (l : List Event). events_in l k) (take_more events i d within)
    ∙ events_in-other (take i events) (get_or events i d) k (λ same. omega (arith, early, is, least, same))
    ∙ none k (omega (arith, early, least))

-- the last element stands behind the others
whole_by_last : {A : Type 0} (xs : List A) (i : ℕ) (d : A) → i + 1 ≡ length xs → xs ≡ take i xs ++ get_or xs i d ∷ []
whole_by_last xs i d is = parts_at xs i d (omega (arith, is)) ∙ ap (λ l. take i xs ++ get_or xs i d ∷ l) (drop_all (suc i) xs (omega (arith, is)))

-- The lines among parts of which the last is empty are the others.
pub lines_among-empty : {A : Type 0} (f : A → List ℕ) (parts : List A) (i : ℕ) (d : A) → i + 1 ≡ length parts → eqb (length (f (get_or parts i d))) 0 ≡ true → map f (take i parts) ≡ lines_of_parts (map f parts)
lines_among-empty f parts i d is empty =
    sym (ap (λ l. lines_of_parts (map f l)) (whole_by_last parts i d is) ∙ ap lines_of_parts (map-append f (take i parts) (get_or parts i d ∷ [])) ∙ lines_of_parts-empty (map f (take i parts)) (f (get_or parts i d)) empty)

-- Else they are all of them.
pub lines_among-last : {A : Type 0} (f : A → List ℕ) (parts : List A) (i : ℕ) (d : A) → i + 1 ≡ length parts → eqb (length (f (get_or parts i d))) 0 ≡ false → map f parts ≡ lines_of_parts (map f parts)
lines_among-last f parts i d is some =
    let whole = ap (map f) (whole_by_last parts i d is) ∙ map-append f (take i parts) (get_or parts i d ∷ []) in
    whole ∙ sym (lines_of_parts-last (map f (take i parts)) (f (get_or parts i d)) some) ∙ ap lines_of_parts (sym whole)

-- where neither rule is broken, the tick isn't full
not_full : (late full : Bool) → cond late (Some E5) (cond full (Some E4) None) ≡ None → full ≡ false
not_full true full same = absurd (cc)
not_full false true same = absurd (cc)
not_full false false same = refl

room_by_order : (slots : List Slot) (events : List Event) (e : Event) → order_refusal slots events e ≡ None → registered_in slots events (tick_of e.moment) < 1073741824
room_by_order slots events e none =
    let test = not_full (ltb e.moment (last_moment events)) (leb 1073741824 (registered_in slots events (tick_of e.moment))) none in
    elim (leb_tells 1073741824 (registered_in slots events (tick_of e.moment))) [ inl full ↦ absurd (cc (test, full.0)) | inr room ↦ omega (arith, room.1) ]

-- A good event leaves no tick too full.
few-own : (slots : List Slot) (events : List Event) (e : Event) (b : Bool) → is_registered slots events e ≡ b → registered_in slots events (tick_of e.moment) < 1073741824 → registered_in slots (events ++ e ∷ []) (tick_of e.moment) ≤ 1073741824
few-own slots events e true is room = omega (arith, room, registered_in-last slots events e is)
few-own slots events e false is room = omega (arith, room, ap (λ (l : List Event). length (events_in l (tick_of e.moment))) (registered-same slots events e is))

few-more : (slots : List Slot) (events : List Event) (e : Event) → AreFew (registered slots events) → registered_in slots events (tick_of e.moment) < 1073741824 → AreFew (registered slots (events ++ e ∷ []))
few-more slots events e few room = λ tick. elim (eqb_tells (tick_of e.moment) tick) [
  | inl same ↦ subst (λ (t : ℕ). registered_in slots (events ++ e ∷ []) t ≤ 1073741824) same.1 (few-own slots events e (is_registered slots events e) refl room)
  | inr other ↦ omega (arith, few tick, ap length (registered-other slots events e tick other.1))
]

-- These are the events of lines that are all good, and those that are registered.
pub record SoFar (slots : List Slot) (lines : List (List ℕ)) (events found : List Event) : Type 0 where
  pub begins : BeginsGood slots lines
  pub events_are : events ≡ events_of slots lines
  pub found_are : found ≡ registered slots events
  pub few : AreFew found

pub so_far-none : (slots : List Slot) (events found : List Event) → events ≡ [] → found ≡ [] → SoFar slots [] events found
so_far-none slots events found none empty = record {
  begins = λ behind. refl;
  events_are = none;
  found_are = empty ∙ sym (ap (registered slots) none);
  few = λ tick. omega (arith, ap (λ l. length (events_in l tick)) empty);
}

-- One more good line.
so_far-next : (slots : List Slot) (lines : List (List ℕ)) (line : List ℕ) (events found : List Event) (e : Event) → SoFar slots lines events found → read_event slots line ≡ Ok e → refusal slots events line ≡ None → SoFar slots (lines ++ line ∷ []) (events ++ e ∷ []) (found ++ registered_one slots events e)
so_far-next slots lines line events found e so_far reads good =
    let more : found ++ registered_one slots events e ≡ registered slots (events ++ e ∷ []) =
    ap (λ (l : List Event). l ++ registered_one slots events e) so_far.found_are ∙ sym (registered-more slots events e) in
    let room = room_by_order slots events e (sym (ap (refusal_of slots events) reads) ∙ good) in
    record {
      begins = begins-more slots lines line so_far.begins (subst (λ (l : List Event). refusal slots l line ≡ None) so_far.events_are good);
      events_are = ap (λ l. l ++ e ∷ []) so_far.events_are ∙ ap (λ l. events_of slots lines ++ l) (sym (one_event slots line e (sym reads))) ∙ sym (events_of-more slots lines line);
      found_are = more;
      few = subst AreFew (sym more) (few-more slots events e (subst AreFew so_far.found_are so_far.few) room);
    }

-- The same of the first of some lines.
pub so_far-more : {A : Type 0} (f : A → List ℕ) (slots : List Slot) (lines : List A) (at : ℕ) (d : A) (events next found more : List Event) (e : Event) → at < length lines → SoFar slots (map f (take at lines)) events found → read_event slots (f (get_or lines at d)) ≡ Ok e → refusal slots events (f (get_or lines at d)) ≡ None → next ≡ events ++ e ∷ [] → more ≡ found ++ registered_one slots events e → SoFar slots (map f (take (at + 1) lines)) next more
so_far-more f slots lines at d events next found more e within so_far reads good is grown =
    let first = ap (map f) (take_more lines at d within) ∙ map-append f (take at lines) (get_or lines at d ∷ []) in
    subst (λ (l : List (List ℕ)). SoFar slots l next more) (sym first)
    (subst (λ (l : List Event). SoFar slots (map f (take at lines) ++ f (get_or lines at d) ∷ []) l more) (sym is)
    (subst (SoFar slots (map f (take at lines) ++ f (get_or lines at d) ∷ []) (events ++ e ∷ [])) (sym grown)
    (so_far-next slots (map f (take at lines)) (f (get_or lines at d)) events found e so_far reads good)))

-- A line that is refused behind good ones.
pub finds_refused : {A : Type 0} (f : A → List ℕ) (slots : List Slot) (lines : List A) (d : A) (events found : List Event) (refused : Refused) → refused.at < length lines → SoFar slots (map f (take refused.at lines)) events found → refusal slots events (f (get_or lines refused.at d)) ≡ Some refused.code → FindsFirst slots (map f lines) events (Some refused)
finds_refused f slots lines d events found refused within so_far is =
    let all = map f lines in
    let at = refused.at in
    let first : map f (take at lines) ≡ take at all = sym (take-map f at lines) in
    let inside : at < length all = omega (arith, within, length-map lines f) in
    let line : refusal slots events (get_or all at []) ≡ Some refused.code = subst (λ (l : List ℕ). refusal slots events l ≡ Some refused.code) (sym (get_or-map f lines at d [] within)) is in
    let begins : BeginsGood slots (take at all) = subst (BeginsGood slots) first so_far.begins in
    let events_are : events ≡ events_of slots (take at all) = so_far.events_are ∙ ap (events_of slots) first in (
      inside,
      ap (good_lines slots) (parts_at all at [] inside)
          ∙ begins-refused slots (take at all) (get_or all at []) (drop (suc at) all) refused.code begins (subst (λ (e : List Event). refusal slots e (get_or all at []) ≡ Some refused.code) events_are line),
      events_are,
      line,
    )

-- No line is.
pub finds_all : {A : Type 0} (f : A → List ℕ) (slots : List Slot) (lines : List A) (at : ℕ) (events found : List Event) → length lines ≤ at → SoFar slots (map f (take at lines)) events found → FindsFirst slots (map f lines) events None
finds_all f slots lines at events found past so_far =
    let whole : map f (take at lines) ≡ map f lines = ap (map f) (take_all at lines (omega (arith, past))) in (
      ap (good_lines slots) (sym whole) ∙ begins-all slots (map f (take at lines)) so_far.begins ∙ whole,
      so_far.events_are ∙ ap (events_of slots) whole,
    )

-- The end behind good lines, and at the first that is refused.
pub ends_done : (slots : List Slot) (first : ℕ) (lines : List (List ℕ)) (events : List Event) (text : List ℕ) → FindsFirst slots lines events None → text ≡ lines_before slots events (tick_of (last_moment events) + 1) → EndsBy slots first lines text end.Done
ends_done slots first lines events text found written = (
  found.0,
  written ∙ ap (λ (e : List Event). lines_before slots e (tick_of (last_moment e) + 1)) found.1 ∙ sym (text-good slots lines found.0),
)

pub ends_refused : (slots : List Slot) (first : ℕ) (lines : List (List ℕ)) (events : List Event) (refused : Refused) (place : ℕ) (text : List ℕ) → FindsFirst slots lines events (Some refused) → place ≡ refused.at + first → text ≡ lines_before slots events (tick_of (last_moment events)) → EndsBy slots first lines text (end.Refused place refused.code)
ends_refused slots first lines events refused place text found numbered written =
    let at = refused.at in
    let many : length (take at lines) ≡ at = omega (arith, length-take at lines, found.0) in
    let one : IsRefused slots first lines place refused.code = record {
      line = get_or lines at [];
      rest = drop (suc at) lines;
      split = parts_at lines at [] found.0 ∙ ap (λ (g : List (List ℕ)). g ++ get_or lines at [] ∷ drop (suc at) lines) (sym found.1);
      refused = subst (λ (e : List Event). refusal slots e (get_or lines at []) ≡ Some refused.code) (found.2 ∙ ap (events_of slots) (sym found.1)) found.3;
      numbered = omega (arith, numbered, many, ap length found.1);
    } in
    (one, written ∙ ap (λ (e : List Event). lines_before slots e (tick_of (last_moment e))) found.2 ∙ sym (text-refused slots lines (take at lines) found.1 (omega (arith, many, found.0))))

-- Such an end is one of a tally.
pub tallied_by : (slots : List Slot) (first given : ℕ) (bytes left text : List ℕ) (why : TallyEnd) → given + length bytes < MOST_READ → EndsBy slots first (lines_of bytes) text why → IsTallied slots first (ran given bytes left (Unit {0}) [] text) why
tallied_by slots first given bytes left text end.Done few ends = (few, ends.0, λ told. ends.1)
tallied_by slots first given bytes left text (end.Refused place code) few ends = (ends.0, λ told. ends.1)
tallied_by slots first given bytes left text end.TooLong few ends = absurd ends
tallied_by slots first given bytes left text end.ReadFault few ends = absurd ends
tallied_by slots first given bytes left text end.WriteFault few ends = absurd ends
tallied_by slots first given bytes left text (end.BadInventory line code) few ends = absurd ends
tallied_by slots first given bytes left text end.Memory few ends = absurd ends

pub by_rule : (slots : List Slot) (first : ℕ) (lines : List (List ℕ)) (text : List ℕ) (why : TallyEnd) → EndsBy slots first lines text why → IsByRule why
by_rule slots first lines text end.Done ends = tt
by_rule slots first lines text (end.Refused place code) ends = tt
by_rule slots first lines text end.TooLong ends = absurd ends
by_rule slots first lines text end.ReadFault ends = absurd ends
by_rule slots first lines text end.WriteFault ends = absurd ends
by_rule slots first lines text (end.BadInventory line code) ends = absurd ends
by_rule slots first lines text end.Memory ends = absurd ends

-- An event is registered where the events before it leave one to the number of which one is.
pub counts-as : (slots : List Slot) (events : List Event) (e : Event) (registers_each : ℕ) → 1 ≤ registers_each → registers_each ≡ registers_each_at slots e.slot → eqb (length (events_at events e.slot (tick_of e.moment)) % registers_each + 1) registers_each ≡ is_registered slots events e
counts-as slots events e registers_each some is =
    let many = length (events_at events e.slot (tick_of e.moment)) in
    let one : (n : ℕ) → n + 1 ≡ suc n = λ n. omega arith in
    let next : (many + 1) % registers_each ≡ (many % registers_each + 1) % registers_each =
    ap (λ (n : ℕ). n % registers_each) (one many) ∙ suc-mod many registers_each ∙ ap (λ (n : ℕ). n % registers_each) (sym (one (many % registers_each))) in
    let same : eqb ((many + 1) % registers_each) 0 ≡ is_registered slots events e = ap (λ (m : ℕ). eqb ((many + 1) % m) 0) is in
    elim (eqb_tells (many % registers_each + 1) registers_each) [
      | inl full ↦ full.0 ∙ sym (ap (λ (n : ℕ). eqb n 0) (next ∙ ap (λ (n : ℕ). n % registers_each) full.1 ∙ mod_self registers_each)) ∙ same
      | inr other ↦
          let below : many % registers_each < registers_each = mod_below many registers_each (omega (arith, some)) in
          let less : many % registers_each + 1 < registers_each = omega (arith, below, other.1) in
          other.0 ∙ sym (ap (λ (n : ℕ). eqb n 0) (next ∙ mod-eq_of_lt less) ∙ eqb_other (many % registers_each + 1) 0 (λ none. omega (arith, none))) ∙ same
    ]

-- The lines of the next tick stand behind those before it.
pub text-next : (slots : List Slot) (events : List Event) (tick : ℕ) (text more : List ℕ) → text ≡ lines_before slots events tick → more ≡ text ++ tick_lines slots events tick → more ≡ lines_before slots events (tick + 1)
text-next slots events tick text more is grown = grown ∙ ap (λ (l : List ℕ). l ++ tick_lines slots events tick) is ∙ sym (lines_before-next slots events tick)

-- The lines behind those of an inventory.
pub lines-behind : {A : Type 0} (f : A → List ℕ) (all : List A) (lines read : List (List ℕ)) (rest : List (List ℕ)) (many : ℕ) → map f all ≡ lines → lines ≡ read ++ rest → many ≡ length read → map f (drop many all) ≡ rest
lines-behind f all lines read rest many is split counted =
    sym (drop-map f many all) ∙ ap (drop many) (is ∙ split) ∙ ap (λ (n : ℕ). drop n (read ++ rest)) counted ∙ drop-append_seam read rest

-- The plain tally behind an inventory is the outcome of an input.
pub outcome-plain : {E : Type 0} (input before rest : List ℕ) (inventory : InventoryState) (lines given : ℕ) (others : List (List ℕ)) (answer : Result PlainTally E) → before ≡ input → IsRead before rest inventory lines → given + length rest ≡ length input → length input < MOST_READ → others ≡ lines_of rest → IfOk answer (λ p. EndsBy (event_slots inventory) (lines + 1) others p.text p.end) → IfOk answer (λ p. (left : List ℕ) → IsOutcome (ran 0 input left (Unit {0}) [] p.text) p.end)
outcome-plain input before rest inventory lines given others (Ok p) is read counted short same ends = λ left.
    outcome-read input before rest left inventory lines given (Unit {0}) [] p.text p.end is read counted
    (tallied_by (event_slots inventory) (lines + 1) given rest left p.text p.end (omega (arith, counted, short)) (subst (λ (l : List (List ℕ)). EndsBy (event_slots inventory) (lines + 1) l p.text p.end) same ends))
outcome-plain input before rest inventory lines given others (Err e) is read counted short same ends = tt
