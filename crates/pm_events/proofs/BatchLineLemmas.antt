-- The words of a line of a batch, and the line of events that has a moment before it.
use Rattle.std.proofs.Common.{◌≡◌, ◌+◌, ◌≤◌, ◌&&◌, ℕ, Bool, true, false, cond, List, [], ◌∷◌, ◌++◌, Option, Some, None, Result, Ok, Err, length, refl, sym, ◌∙◌, ap, nat_le, arith, length-append}
use Rattle.std.specs.Option.{option_map}
use Rattle.std.proofs.lemmas.Bool.{cond-true, le-leb}
use Rattle.pm_base.proofs.PiecesLemmas.{some_piece}
use Rattle.pm_base.specs.Lines.{MOST_LINE}
use Rattle.pm_base.specs.Number.{is_number, is_moment, number_of}
use Rattle.pm_base.specs.Pieces.{words_of}
use Rattle.pm_base.specs.declared.code.Code.{Code}
use Rattle.pm_base.specs.declared.code.Code.TheVariants.{E1, E2, E3}
use Rattle.pm_inventory.specs.Slot.{Slot, slot_place}
use Rattle.pm_events.specs.EventLine.{LineEvent, event_line, event_of_words}
use Rattle.pm_events.specs.Event.{event_of, event_in_slot, read_event}
use Rattle.pm_events.specs.BatchLine.{LineValue, value_of_words, batch_line, hit_in_slot, hit_of, read_hit, event_at, event_of_hit}
use Rattle.pm_events.specs.declared.event.Event.{Event}
use Rattle.pm_events.specs.declared.hit.Hit.{Hit}
use Rattle.pm_events.proofs.ReaderLemmas.{word-first, digits-lack-space, moment-digits}

-- A line of four words or more is no line of a batch.
pub four_words : (line object rest metric value further behind : List ℕ) → words_of line ≡ object ∷ words_of rest → words_of rest ≡ metric ∷ words_of value → words_of value ≡ further ∷ words_of behind → batch_line line ≡ None
four_words line object rest metric value further behind first second third =
    let some = some_piece 32 behind in
    let words : words_of line ≡ object ∷ metric ∷ further ∷ some.0 ∷ some.1 =
    first ∙ ap (λ (l : List (List ℕ)). object ∷ l) (second ∙ ap (λ (l : List (List ℕ)). metric ∷ l) (third ∙ ap (λ (l : List (List ℕ)). further ∷ l) some.2)) in
    ap value_of_words words

-- the same at a moment
at : ℕ → LineValue → LineEvent
at moment v = record { moment = moment; object = v.object; metric = v.metric; value = v.value }

map-cond : {A B : Type 0} (f : A → B) (b : Bool) (x : A) → cond b (Some (f x)) None ≡ option_map f (cond b (Some x) None)
map-cond f true x = refl
map-cond f false x = refl

behind-moment : (word : List ℕ) (words : List (List ℕ)) → is_moment word ≡ true → event_of_words (word ∷ words) ≡ option_map (at (number_of word)) (value_of_words words)
unfolding at
behind-moment word [] is = refl
behind-moment word (a ∷ []) is = refl
behind-moment word (a ∷ b ∷ []) is = refl
behind-moment word (a ∷ b ∷ c ∷ []) is =
    let named = nat_le 1 (length a) && nat_le 1 (length b) in
    let v : LineValue = record { object = a; metric = b; value = number_of c } in
    ap (λ (x : Bool). cond ((x && is_number 10 c) && named) (Some (at (number_of word) v)) None) is
    ∙ map-cond (at (number_of word)) (is_number 10 c && named) v
behind-moment word (a ∷ b ∷ c ∷ d ∷ words) is = refl

in-slot : (moment : ℕ) (v : LineValue) (place : Option ℕ) → event_in_slot (at moment v) place ≡ event_of_hit moment (hit_in_slot v place)
unfolding at
in-slot moment v None = refl
in-slot moment v (Some slot) = by (nat_le v.value 1048575) where
  by : (b : Bool) → cond b (Ok (record { moment = moment; slot = slot; value = v.value })) (Err E3) ≡ event_of_hit moment (cond b (Ok (record { slot = slot; value = v.value })) (Err E3))
  by true = refl
  by false = refl

of-line : (slots : List Slot) (moment : ℕ) (v : Option LineValue) → event_of slots (option_map (at moment) v) ≡ event_of_hit moment (hit_of slots v)
unfolding at
of-line slots moment None = refl
of-line slots moment (Some v) = in-slot moment v (slot_place slots v.object v.metric)

-- A line of a batch behind a moment is a line of events.
pub event-line : (slots : List Slot) (word line : List ℕ) → is_moment word ≡ true → length word + (1 + length line) ≤ MOST_LINE → read_event slots (word ++ 32 ∷ line) ≡ event_of_hit (number_of word) (read_hit slots line)
event-line slots word line is short =
    let fits : length (word ++ 32 ∷ line) ≤ MOST_LINE = omega (arith, short, length-append word (32 ∷ line)) in
    ap (event_of slots)
    (cond-true (nat_le (length (word ++ 32 ∷ line)) MOST_LINE) (event_of_words (words_of (word ++ 32 ∷ line))) None (le-leb (length (word ++ 32 ∷ line)) MOST_LINE fits)
    ∙ ap event_of_words (word-first word line (digits-lack-space word (moment-digits word is)))
    ∙ behind-moment word (words_of line) is)
    ∙ of-line slots (number_of word) (batch_line line)

same-hit : (event : Event) (r : Result Hit Code) → event_of_hit 0 r ≡ Ok event → r ≡ Ok (record { slot = event.slot; value = event.value })
same-hit event (Ok hit) is = let same : event_at 0 hit ≡ event = cc in ap (λ (e : Event). Ok (record { slot = e.slot; value = e.value })) same
same-hit event (Err code) is = absurd (cc (is))

-- The hit of a line that is a line of events behind the moment 0.
pub hit-of_event : (slots : List Slot) (line : List ℕ) (event : Event) → read_event slots (48 ∷ 32 ∷ line) ≡ Ok event → read_hit slots line ≡ Ok (record { slot = event.slot; value = event.value })
hit-of_event slots line event is = by (nat_le (length (48 ∷ 32 ∷ line)) MOST_LINE) refl is where
  by : (b : Bool) → nat_le (length (48 ∷ 32 ∷ line)) MOST_LINE ≡ b → event_of slots (cond b (event_of_words (words_of (48 ∷ 32 ∷ line))) None) ≡ Ok event → read_hit slots line ≡ Ok (record { slot = event.slot; value = event.value })
  by true fits whole =
      same-hit event (read_hit slots line)
      (sym (ap (event_of slots) (ap event_of_words (word-first (48 ∷ []) line (digits-lack-space (48 ∷ []) refl)) ∙ behind-moment (48 ∷ []) (words_of line) refl) ∙ of-line slots 0 (batch_line line))
      ∙ whole)
  by false fits whole = absurd (cc (whole))
