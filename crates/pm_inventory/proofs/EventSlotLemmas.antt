-- The slots that lines of events name are those of the numbers, each at the place that is its number.
use Rattle.std.proofs.Common.{◌≡◌, ◌+◌, ◌<◌, ℕ, suc, Bool, true, false, List, [], ◌∷◌, ◌++◌, ◌&&◌, length, map, get_or, Some, refl, sym, ◌∙◌, ap, subst, arith}
use Rattle.std.specs.List.{flat_map, slice_get}
use Rattle.std.specs.Option.{option_map}
use Rattle.std.specs.Str.{bytes_eq}
use Rattle.std.proofs.Math.Dec.{eqb}
use Rattle.std.proofs.lemmas.Bool.Decides.{Decides-eqb}
use Rattle.std.proofs.lemmas.Option.{get_or_from_slice_get, slice_get_within, slice_get-get_or, slice_get-map}
use Rattle.std.proofs.lemmas.List.{length-map, map-append, get_or-map, get_or_default}
use Rattle.pm_base.specs.declared.class.Class.TheVariants.{ManagedElement}
use Rattle.pm_dn.specs.Tree.{IsTree, objects_of}
use Rattle.pm_meas.specs.declared.def.Def.{Def}
use Rattle.pm_meas.specs.declared.kind.Kind.TheVariants.{Si}
use Rattle.pm_meas.specs.declared.kind.Reduce.TheVariants.{Sum}
use Rattle.pm_meas.specs.Catalogue.{IsCatalogue}
use Rattle.pm_inventory.specs.Inventory.{InventoryState, SlotKey, key_of, slots_of_metric, slots, slot_number, is_slot_of}
use Rattle.pm_inventory.specs.Slot.{Slot, slot_place, slot_of, slots_of_def, def_at, slot_of_key, event_slots}
use Rattle.pm_inventory.specs.SlotNames.{slot_names, AreDistinct, AreWords}
use Rattle.pm_inventory.proofs.SlotLemmas.{slots_from}
use Rattle.pm_inventory.proofs.PlaceLemmas.{place-passes, distinct-place, position_from-map}
use Rattle.pm_inventory.proofs.SlotNamesLemmas.{object-lacks-space, slots-apart, slots-words, slot_place-names}

-- the slot of a key, where the metrics have these definitions
abbrev spelled : List (List ℕ) → (ℕ → Def) → SlotKey → Slot
spelled objects def key = slot_of objects (def key.metric) key.object

-- the slots of a metric
metric-keys : (objects : List (List ℕ)) (def : ℕ → Def) (n : ℕ) (first : Def) (xs : List ℕ) → def n ≡ first → map (slot_of objects first) xs ≡ map (spelled objects def) (map (key_of n) xs)
metric-keys objects def n first [] is = refl
metric-keys objects def n first (x ∷ xs) is =
    ap (λ (l : List Slot). slot_of objects first x ∷ l) (metric-keys objects def n first xs is)
    ∙ ap (λ (d : Def). slot_of objects d x ∷ map (spelled objects def) (map (key_of n) xs)) (sym is)

-- the slots of metrics from a first number on
metrics-keys : (objects : List (List ℕ)) (def : ℕ → Def) (n : ℕ) (measures : List Def) → ((i k : ℕ) (d : Def) → k ≡ n + i → i < length measures → def k ≡ get_or measures i d) → flat_map (slots_of_def objects) measures ≡ map (spelled objects def) (slots_from objects n measures)
metrics-keys objects def n [] each = refl
metrics-keys objects def n (first ∷ measures) each =
    let block = slots_of_metric objects (n, first) in
    let here : def n ≡ first = each 0 n first (omega arith) (omega arith) in
    ap (λ (l : List Slot). l ++ flat_map (slots_of_def objects) measures) (metric-keys objects def n first (objects_of objects first.class) here)
    ∙ ap (λ (l : List Slot). map (spelled objects def) block ++ l) (metrics-keys objects def (n + 1) measures (λ i k d at lt. each (suc i) k d (omega (arith, at)) (omega (arith, lt))))
    ∙ sym (map-append (spelled objects def) block (slots_from objects (n + 1) measures))

-- They are listed by metric in catalogue order, and within one metric by object in tree order.
pub event_slots-by_metric : (inventory : InventoryState) → event_slots inventory ≡ flat_map (slots_of_def inventory.objects) inventory.measures
event_slots-by_metric inventory =
    let none : Def = record { name = []; class = ManagedElement; kind = Si; reduce = Sum } in
    sym (metrics-keys inventory.objects (def_at inventory.measures) 0 inventory.measures
    (λ i k d at lt. let same : k ≡ i = omega (arith, at) in ap (def_at inventory.measures) same ∙ get_or_default inventory.measures i none d lt))

both-of : (a b : Bool) → (a && b) ≡ true → (a ≡ true) × (b ≡ true)
both-of true b is = (refl, is)
both-of false b is = cc

-- a slot stands at the place that is its number
slot-at_number : (inventory : InventoryState) (object metric slot : ℕ) (def : Def) → slot_number inventory object metric ≡ Some slot → slice_get inventory.measures metric ≡ Some def → slice_get (event_slots inventory) slot ≡ Some (slot_of inventory.objects def object)
slot-at_number inventory object metric slot def number is =
    let objects = inventory.objects in
    let keys = slots inventory in
    let definition = def_at inventory.measures in
    let of_key = slot_of_key inventory in
    let metric_within = slice_get_within inventory.measures metric def is in
    let own : definition metric ≡ def = get_or_default inventory.measures metric _ def metric_within ∙ get_or_from_slice_get inventory.measures metric def def is in
    let found = place-passes (is_slot_of object metric) 0 slot keys (key_of metric object) number in
    let key = get_or keys found.at (key_of metric object) in
    let passes = both-of (eqb key.object object) (eqb key.metric metric) found.passes in
    let place : slot ≡ found.at = omega (arith, found.at_is) in
    slice_get-map of_key keys slot
    ∙ ap (λ (k : ℕ). option_map of_key (slice_get keys k)) place
    ∙ ap (option_map of_key) (slice_get-get_or keys found.at (key_of metric object) found.within)
    ∙ ap (λ (m : ℕ). Some (slot_of objects (definition m) key.object)) ((Decides-eqb key.metric metric).0 passes.1)
    ∙ ap (λ (o : ℕ). Some (slot_of objects (definition metric) o)) ((Decides-eqb key.object object).0 passes.0)
    ∙ ap (λ (d : Def). Some (slot_of objects d object)) own

-- The names of an object and a metric are found at the number of their slot.
pub slot_place-number : (inventory : InventoryState) (object metric slot : ℕ) (def : Def) → IsTree inventory.objects → IsCatalogue inventory.measures → slot_number inventory object metric ≡ Some slot → slice_get inventory.measures metric ≡ Some def → slot_place (event_slots inventory) (get_or inventory.objects object []) def.name ≡ Some slot
slot_place-number inventory object metric slot def tree catalogue number is =
    let all = event_slots inventory in
    let its = slot_of inventory.objects def object in
    let at = slot-at_number inventory object metric slot def number is in
    let within : slot < length all = slice_get_within all slot its at in
    let words = subst AreWords (sym (event_slots-by_metric inventory)) (slots-words inventory.objects inventory.measures tree catalogue.permitted) in
    let apart = subst AreDistinct (sym (event_slots-by_metric inventory)) (slots-apart inventory.objects inventory.measures tree catalogue.distinct) in
    let named : get_or (map slot_names all) slot [] ≡ slot_names its = get_or-map slot_names all slot its [] within ∙ ap slot_names (get_or_from_slice_get all slot its its at) in
    slot_place-names all its.object def.name words (object-lacks-space inventory.objects object tree)
    ∙ sym (position_from-map (λ t. bytes_eq t (slot_names its)) slot_names 0 all)
    ∙ distinct-place (map slot_names all) slot (slot_names its) apart (omega (arith, within, length-map all slot_names)) named
