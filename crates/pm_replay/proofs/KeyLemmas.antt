-- The number of a slot is its place, since no two slots have the same names.
use Rattle.std.proofs.Common.{◌≡◌, ℕ, zero, suc, ◌+◌, ◌<◌, ◌&&◌, Bool, true, false, cond, eqb, List, [], ◌∷◌, ◌++◌, length, map, get_or, Option, Some, None, refl, sym, ap, ◌∙◌, subst, arith}
use Rattle.std.specs.List.{position_from}
use Rattle.std.specs.Str.{bytes_eq}
use Rattle.std.proofs.lemmas.Bool.{eq-eqb, eqb-true}
use Rattle.std.proofs.lemmas.List.{get_or-map, length-map}
use Rattle.std.proofs.lemmas.Option.{same_Some}
use Rattle.std.proofs.lemmas.Slice.Eq.{bytes_eq-Decides}
use Rattle.pm_inventory.specs.Inventory.{InventoryState, SlotKey, key_of, is_slot_of, slot_number, slots}
use Rattle.pm_inventory.specs.Slot.{Slot, slot_of_key, event_slots}
use Rattle.pm_inventory.specs.SlotNames.{slot_names, AreDistinct}
use Rattle.pm_inventory.proofs.PlaceLemmas.{distinct-place, position_from-map}
use Rattle.pm_replay.proofs.RowLemmas.{both_true}

apart : true ≡ false → ⊥
apart same = cc

-- what passes a narrower test at the first place of a wider one
narrower : {K : Type 0} (p q : K → Bool) (j : ℕ) (keys : List K) (k : ℕ) (d : K) → position_from p j keys ≡ Some (j + k)
    → ((x : K) → q x ≡ true → p x ≡ true) → q (get_or keys k d) ≡ true → k < length keys → position_from q j keys ≡ Some (j + k)
narrower p q j [] k d is wide at lt = absurd (omega (arith, lt))
narrower p q j (x ∷ xs) zero d is wide at lt =
    let here : j ≡ j + 0 = omega arith in
    ap (λ b. cond b (Some j) (position_from q (j + 1) xs)) at ∙ ap Some here
narrower {K} p q j (x ∷ xs) (suc k) d is wide at lt = by (p x) (q x) refl refl is (narrower p q (j + 1) xs k d)
  where
    by : (a b : Bool) → p x ≡ a → q x ≡ b → cond a (Some j) (position_from p (j + 1) xs) ≡ Some (j + suc k)
        → (position_from p (j + 1) xs ≡ Some (j + 1 + k) → ((y : K) → q y ≡ true → p y ≡ true) → q (get_or xs k d) ≡ true → k < length xs
        → position_from q (j + 1) xs ≡ Some (j + 1 + k))
        → cond b (Some j) (position_from q (j + 1) xs) ≡ Some (j + suc k)
    by true b first second found rest = let same = same_Some j (j + suc k) found in absurd (omega (arith, same))
    by false true first second found rest = absurd (apart (sym (wide x second) ∙ first))
    by false false first second found rest =
        let to : j + suc k ≡ j + 1 + k = omega arith in
        rest (found ∙ ap Some to) wide at (omega (arith, lt)) ∙ ap Some (sym to)

names-at : (inventory : InventoryState) (key other : SlotKey) → is_slot_of key.object key.metric other ≡ true
    → bytes_eq (slot_names (slot_of_key inventory other)) (slot_names (slot_of_key inventory key)) ≡ true
names-at inventory key other is =
    let both = both_true (eqb other.object key.object) (eqb other.metric key.metric) is in
    let o = eqb-true other.object key.object both.0 in
    let m = eqb-true other.metric key.metric both.1 in
    (bytes_eq-Decides _ _).1 (λ i. slot_names (slot_of_key inventory (key_of (m i) (o i))))

pub number-at : (inventory : InventoryState) (k : ℕ) (d : SlotKey) → AreDistinct (event_slots inventory) → k < length (slots inventory)
    → slot_number inventory (get_or (slots inventory) k d).object (get_or (slots inventory) k d).metric ≡ Some k
number-at inventory k d distinct lt =
    let keys = slots inventory in
    let key = get_or keys k d in
    let f : SlotKey → Slot = slot_of_key inventory in
    let text = slot_names (f key) in
    let from : k ≡ 0 + k = omega arith in
    let long : k < length (map f keys) = omega (arith, length-map keys f, lt) in
    let texts : get_or (map slot_names (map f keys)) k [] ≡ text =
    get_or-map slot_names (map f keys) k (f d) [] long ∙ ap slot_names (get_or-map f keys k d (f d) lt) in
    let there = distinct-place (map slot_names (map f keys)) k text distinct (omega (arith, length-map (map f keys) slot_names, long)) texts in
    let first : position_from (λ (x : SlotKey). bytes_eq (slot_names (f x)) text) 0 keys ≡ Some (0 + k) =
    sym (position_from-map (λ (s : Slot). bytes_eq (slot_names s) text) f 0 keys)
    ∙ (sym (position_from-map (λ t. bytes_eq t text) slot_names 0 (map f keys)) ∙ (there ∙ ap Some from)) in
    let own : is_slot_of key.object key.metric key ≡ true = λ i. eq-eqb key.object key.object refl i && eq-eqb key.metric key.metric refl i in
    narrower (λ (x : SlotKey). bytes_eq (slot_names (f x)) text) (is_slot_of key.object key.metric) 0 keys k d first (names-at inventory key) own lt ∙ ap Some (sym from)
