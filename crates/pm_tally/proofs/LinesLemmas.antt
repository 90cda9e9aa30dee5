-- The lines of a tick, slot by slot.
use Rattle.std.proofs.Common.{◌≡◌, ◌+◌, ◌*◌, ◌<◌, ℕ, List, [], ◌∷◌, ◌++◌, length, take, get_or, Some, refl, ◌∙◌, ap, arith, append_assoc}
use Rattle.std.specs.List.{flat_map, enumerate_from}
use Rattle.std.proofs.lemmas.List.{append-nil, take_more, take_all}
use Rattle.std.proofs.lemmas.List.FromFn.{get_or-enumerate_from, length-enumerate_from}
use Rattle.std.proofs.lemmas.Grind.{flat_map-append}
use Rattle.std.specs.Fmt.{decimal}
use Rattle.pm_meas.specs.Cell.{reduced}
use Rattle.pm_inventory.specs.Slot.{Slot}
use Rattle.pm_events.specs.Event.{values_in}
use Rattle.pm_events.specs.declared.event.Event.{Event}
use Rattle.pm_tally.specs.Tally.{value_line, slot_line, tick_lines}

-- The lines of some slots, each with its place.
abbrev pub lines_of_slots : List Slot → List Event → ℕ → List (ℕ × Slot) → List ℕ
lines_of_slots slots events tick places = flat_map (λ place. slot_line tick place.1 (values_in slots events place.0 tick)) places

-- One more slot.
pub lines-next : (slots : List Slot) (events : List Event) (tick i : ℕ) (d : Slot) → i < length slots → lines_of_slots slots events tick (take (i + 1) (enumerate_from 0 slots)) ≡ lines_of_slots slots events tick (take i (enumerate_from 0 slots)) ++ slot_line tick (get_or slots i d) (values_in slots events i tick)
lines-next slots events tick i d within =
    let line : ℕ × Slot → List ℕ = λ place. slot_line tick place.1 (values_in slots events place.0 tick) in
    let places = enumerate_from 0 slots in
    let default : ℕ × Slot = (0, d) in
    let at : get_or places i default ≡ (0 + i, get_or slots i d) = get_or-enumerate_from 0 slots i default within in
    let start : 0 + i ≡ i = omega arith in
    ap (flat_map line) (take_more places i default (omega (arith, within, length-enumerate_from 0 slots)))
    ∙ flat_map-append line (take i places) (get_or places i default ∷ [])
    ∙ ap (λ (l : List ℕ). flat_map line (take i places) ++ l) (append-nil (line (get_or places i default)) ∙ ap line at ∙ ap (λ (k : ℕ). slot_line tick (get_or slots i d) (values_in slots events k tick)) start)

-- All slots.
pub lines-all : (slots : List Slot) (events : List Event) (tick i : ℕ) → i ≡ length slots → lines_of_slots slots events tick (take i (enumerate_from 0 slots)) ≡ tick_lines slots events tick
lines-all slots events tick i is =
    ap (lines_of_slots slots events tick) (take_all i (enumerate_from 0 slots) (omega (arith, is, length-enumerate_from 0 slots)))

-- A line by the names of its slot.
pub value_line-names : (moment value : ℕ) (slot : Slot) (text names : List ℕ) → names ≡ slot.object ++ 32 ∷ slot.metric → ((((text ++ decimal moment) ++ 32 ∷ []) ++ names) ++ 32 ∷ []) ++ decimal value ++ 10 ∷ [] ≡ text ++ value_line moment slot (Some value)
value_line-names moment value slot text names is =
    ap (λ (l : List ℕ). ((((text ++ decimal moment) ++ 32 ∷ []) ++ l) ++ 32 ∷ []) ++ decimal value ++ 10 ∷ []) is ∙ simp append_assoc

-- The line of a slot that has values.
pub slot_line-some : (tick : ℕ) (slot : Slot) (values : List ℕ) → 0 < length values → slot_line tick slot values ≡ value_line (60 * tick) slot (reduced slot.reduce values)
slot_line-some tick slot [] some = absurd (omega (arith, some))
slot_line-some tick slot (v ∷ values) some = refl
