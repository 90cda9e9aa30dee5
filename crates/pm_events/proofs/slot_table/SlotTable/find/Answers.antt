use Rattle.std.proofs.Common.{◌≡◌, ◌<◌, ◌++◌, ◌∷◌, ℕ, List, length, Option, Some, None, sym, ◌∙◌, ap, arith}
use Rattle.std.specs.Prelude.{IfSome}
use Rattle.std.specs.Str.{bytes_eq}
use Rattle.pm_inventory.specs.Slot.{Slot, slot_place}
use Rattle.pm_inventory.specs.SlotNames.{slot_names, names_place, HasNoSpace, AreWords}
use Rattle.pm_inventory.proofs.SlotLemmas.{position-within}
use Rattle.pm_inventory.proofs.SlotNamesLemmas.{slot_place-names}
use Rattle.pm_events.proofs.slot_table.SlotTable.find.Goals as goal

within : (slots : List Slot) (names : List ℕ) (slot : ℕ) → names_place slots names ≡ Some slot → slot < length slots
within slots names slot place = omega (arith, position-within (λ (s : Slot). bytes_eq (slot_names s) names) 0 slot slots place)

if_within : (slots : List Slot) (names : List ℕ) (answer : Option ℕ) → answer ≡ names_place slots names → IfSome answer (λ slot. slot < length slots)
if_within slots names None is = tt
if_within slots names (Some slot) is = within slots names slot (sym is)

together : (slots : List Slot) (names object metric : List ℕ) (answer : Option ℕ) → answer ≡ names_place slots names → AreWords slots → HasNoSpace object → names ≡ object ++ 32 ∷ metric → answer ≡ slot_place slots object metric
together slots names object metric answer is words lacks joined =
    is ∙ ap (names_place slots) joined ∙ sym (slot_place-names slots object metric words lacks)

pub returns-in-Some-clause-within : goal.returns-in-Some-clause-within
returns-in-Some-clause-within c = within c.args.self.now c.args.names.now c.in-Some.slot c.in-Some.ensures.answer

pub returns-in-None-clause-within : goal.returns-in-None-clause-within
returns-in-None-clause-within c = if_within c.args.self.now c.args.names.now c.search.result c.search.ensures

pub returns-in-Some-clause-pair : goal.returns-in-Some-clause-pair
returns-in-Some-clause-pair c = λ object metric lacks joined.
    together c.args.self.now c.args.names.now object metric (Some c.in-Some.slot) (sym c.in-Some.ensures.answer) c.guess.ensures.words lacks joined

pub returns-in-None-clause-pair : goal.returns-in-None-clause-pair
returns-in-None-clause-pair c = λ object metric lacks joined.
    together c.args.self.now c.args.names.now object metric c.search.result c.search.ensures c.guess.ensures.words lacks joined
