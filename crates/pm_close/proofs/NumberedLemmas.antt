-- The numbers that a monitor keeps, and what its body asks for.
use Rattle.std.proofs.Common.{◌≡◌, ◌<◌, ◌^◌, ◌+◌, ◌++◌, ℕ, zero, suc, Bool, true, false, cond, List, [], ◌∷◌, length, map, get_or, Option, Some, None, refl, sym, subst, ap, ◌∙◌, arith}
use Rattle.std.specs.List.{list_any, flat_map, enumerate_from, AllByRecursion, slice_get}
use Rattle.std.specs.Option.{option_map}
use Rattle.std.proofs.lemmas.Bool.{eqb-true, and_parts}
use Rattle.std.proofs.lemmas.List.{length-map}
use Rattle.std.proofs.lemmas.Option.{same_Some, slice_get-get_or}
use Rattle.pm_meas.specs.declared.def.Def.{Def}
use Rattle.pm_inventory.specs.Inventory.{InventoryState, SlotKey, slots, slot_number, is_slot_of}
use Rattle.pm_inventory.specs.Slot.{def_at}
use Rattle.pm_inventory.proofs.PlaceLemmas.{place-passes}
use Rattle.pm_inventory.proofs.SlotLemmas.{slots-none, slots-some}
use Rattle.pm_history.specs.declared.entry.Side.TheVariants.{Monitor}
use Rattle.pm_history.specs.Terms.{Watched}
use Rattle.pm_asked.specs.Asked.{asks_for, metrics_asked, objects_asked, is_asked, is_of_class, measured_objects, watched_of, watched_asked, monitor_terms, or_no_terms, terms_of, ticks_of}
use Rattle.pm_asked.specs.Body.{MonitorBody, Threshold, IsThreshold}
use Rattle.pm_asked.specs.BodyReading.{monitor_body}
use Rattle.pm_jobs.specs.Asked.{Asked, monitor_asked}
use Rattle.pm_jobs.specs.Numbered.{AreBelow, numbered}
use Rattle.pm_jobs.specs.Stands.{Bound, Keeps, bound_of, bound_asked, numbers}
use Rattle.pm_jobs.specs.declared.standing.Limit.{Limit}
use Rattle.pm_jobs.specs.declared.standing.Standing.{Standing}
use Rattle.pm_jobs.proofs.PermittedLemmas.{monitor_permitted}
use Rattle.pm_jobs.proofs.PlacesWithinLemmas.{places_below, numbered_back}
use Rattle.pm_close.specs.WatchedOf.{IsLimit, AreLimits, watched_in, watched_all}

-- ---- slots

key-of : (object metric : ℕ) (key : SlotKey) → is_slot_of object metric key ≡ true → key ≡ record { object = object; metric = metric }
key-of object metric key is =
    let both = and_parts _ _ is in
    let same_object = eqb-true key.object object both.0 in
    let same_metric = eqb-true key.metric metric both.1 in
    λ i. record { object = same_object i; metric = same_metric i }

-- the slot of a number is that of the object and the metric
pub slot-reads : (inventory : InventoryState) (object metric slot : ℕ) → slot_number inventory object metric ≡ Some slot
    → (d : SlotKey) → get_or (slots inventory) slot d ≡ record { object = object; metric = metric }
slot-reads inventory object metric slot is d =
    let found = place-passes (is_slot_of object metric) 0 slot (slots inventory) d is in
    let at : found.at ≡ slot = omega (arith, found.at_is) in
    key-of object metric (get_or (slots inventory) slot d)
    (ap (λ n. is_slot_of object metric (get_or (slots inventory) n d)) (sym at) ∙ found.passes)

def-there : (measures : List Def) (metric : ℕ) → metric < length measures → slice_get measures metric ≡ Some (def_at measures metric)
def-there measures metric lt = slice_get-get_or measures metric _ lt

-- an object of the metric's class has a slot
class-has_slot : (inventory : InventoryState) (object metric : ℕ) → object < length inventory.objects → metric < length inventory.measures
    → is_of_class inventory (def_at inventory.measures metric).class object ≡ true → slot_number inventory object metric ≡ None → ⊥
class-has_slot inventory object metric lt within is none =
    let some = slots-some inventory.objects object metric 0 metric 0 inventory.measures (def_at inventory.measures metric) (omega arith)
    (def-there inventory.measures metric within) lt is in
    cc (some, none)

-- and no other has
slot-has_class : (inventory : InventoryState) (object metric slot : ℕ) → object < length inventory.objects → metric < length inventory.measures
    → slot_number inventory object metric ≡ Some slot → is_of_class inventory (def_at inventory.measures metric).class object ≡ true
slot-has_class inventory object metric slot lt within some = by (is_of_class inventory def.class object) refl
  where
    def : Def
    def = def_at inventory.measures metric

    by : (b : Bool) → is_of_class inventory def.class object ≡ b → is_of_class inventory def.class object ≡ true
    by true is = is
    by false is =
        let none = slots-none inventory.objects object metric 0 metric 0 inventory.measures def (omega arith)
        (def-there inventory.measures metric within) (λ less. is) in
        cc (some, none)

pub measures-none : (inventory : InventoryState) (object metric : ℕ) → object < length inventory.objects → metric < length inventory.measures
    → slot_number inventory object metric ≡ None → measured_objects inventory (object ∷ []) (def_at inventory.measures metric).class ≡ []
measures-none inventory object metric lt within none = by (is_of_class inventory (def_at inventory.measures metric).class object) refl
  where
    by : (b : Bool) → is_of_class inventory (def_at inventory.measures metric).class object ≡ b → cond b (object ∷ []) [] ≡ []
    by true is = absurd (class-has_slot inventory object metric lt within is none)
    by false is = refl

pub measures-one : (inventory : InventoryState) (object metric slot : ℕ) → object < length inventory.objects → metric < length inventory.measures
    → slot_number inventory object metric ≡ Some slot → measured_objects inventory (object ∷ []) (def_at inventory.measures metric).class ≡ object ∷ []
measures-one inventory object metric slot lt within some =
    ap (λ b. cond b (object ∷ []) []) (slot-has_class inventory object metric slot lt within some)

-- ---- thresholds

numbered_asked : (inventory : InventoryState) (texts : List (List ℕ)) → numbered inventory (numbers (metrics_asked inventory texts)) ≡ metrics_asked inventory texts
numbered_asked inventory texts = numbered_back (λ (def : Def). list_any (asks_for def) texts) inventory.measures

limit-is : (inventory : InventoryState) (limit : Limit) (threshold : Threshold) → bound_of limit ≡ bound_asked inventory threshold → IsThreshold threshold → IsLimit inventory limit
limit-is inventory limit threshold is within =
    let value : limit.value ≡ threshold.value = ap (λ (b : Bound). b.value) is in
    let hysteresis : limit.hysteresis ≡ threshold.hysteresis = ap (λ (b : Bound). b.hysteresis) is in
    let least = within.hysteresis in
    let most = within.value in
    record {
      metrics = subst (AreBelow (length inventory.measures)) (sym (ap (λ (b : Bound). b.metrics) is))
          (places_below (λ (def : Def). list_any (asks_for def) threshold.metrics) inventory.measures);
      value = omega (arith, value, most);
      hysteresis = omega (arith, value, hysteresis, least);
    }

limits-are : (inventory : InventoryState) (limits : List Limit) (thresholds : List Threshold)
    → map bound_of limits ≡ map (bound_asked inventory) thresholds → AllByRecursion IsThreshold thresholds
    → (k : ℕ) (d : Limit) → k < length limits → IsLimit inventory (get_or limits k d)
limits-are inventory [] ts is all k d lt = absurd (omega (arith, lt))
limits-are inventory (l ∷ ls) [] is all k d lt = absurd cc
limits-are inventory (l ∷ ls) (t ∷ ts) is all zero d lt = let first : bound_of l ≡ bound_asked inventory t = cc in limit-is inventory l t first all.0
limits-are inventory (l ∷ ls) (t ∷ ts) is all (suc k) d lt =
    let rest : map bound_of ls ≡ map (bound_asked inventory) ts = cc in
    limits-are inventory ls ts rest all.1 k d (omega (arith, lt))

abbrev asked_on : InventoryState → List ℕ → ℕ × Threshold → List Watched
asked_on inventory objects threshold = map (watched_of inventory objects threshold) (metrics_asked inventory threshold.1.metrics)

bounds-watched : (inventory : InventoryState) (objects : List ℕ) (from : ℕ) (thresholds : List Threshold)
    → flat_map (watched_in inventory objects) (enumerate_from from (map (bound_asked inventory) thresholds))
    ≡ flat_map (asked_on inventory objects) (enumerate_from from thresholds)
bounds-watched inventory objects from [] = refl
bounds-watched inventory objects from (t ∷ ts) =
    let rest = bounds-watched inventory objects (from + 1) ts in
    let first : watched_in inventory objects (from, bound_asked inventory t) ≡ asked_on inventory objects (from, t) =
    ap (map (watched_of inventory objects (from, t))) (numbered_asked inventory t.metrics) in
    λ i. first i ++ rest i

-- ---- what a body asks for

record Says (text : List ℕ) (asked : Asked) : Type 0 where
  body : MonitorBody
  says : monitor_body text ≡ Some body
  asks : monitor_asked body ≡ asked

says-of : (o : Option MonitorBody) (text : List ℕ) (asked : Asked) → monitor_body text ≡ o → option_map monitor_asked o ≡ Some asked → Says text asked
says-of None text asked says is = absurd cc
says-of (Some body) text asked says is = record { body = body; says = says; asks = same_Some (monitor_asked body) asked is }

says : (inventory : InventoryState) (s : Standing) (kept : Keeps inventory Monitor s) → Says s.body kept.asked
says inventory s kept = says-of (monitor_body s.body) s.body kept.asked refl kept.says

pub keeps-limits : (inventory : InventoryState) (s : Standing) → Keeps inventory Monitor s → AreLimits inventory s.limits.items
keeps-limits inventory s kept =
    let said = says inventory s kept in
    limits-are inventory s.limits.items said.body.thresholds
    (kept.fits.limits ∙ ap (λ (a : Asked). map (bound_asked inventory) a.thresholds) (sym said.asks))
    (monitor_permitted s.body said.body said.says).each

pub keeps-few : (inventory : InventoryState) (s : Standing) → Keeps inventory Monitor s → length s.limits.items < 2 ^ 32
keeps-few inventory s kept =
    let said = says inventory s kept in
    let most = (monitor_permitted s.body said.body said.says).most in
    let many = ap length (kept.fits.limits ∙ ap (λ (a : Asked). map (bound_asked inventory) a.thresholds) (sym said.asks)) in
    let limits = length-map s.limits.items bound_of in
    let thresholds = length-map said.body.thresholds (bound_asked inventory) in
    omega (arith, most, many, limits, thresholds)

pub keeps-objects : (inventory : InventoryState) (s : Standing) → Keeps inventory Monitor s → AreBelow (length inventory.objects) s.objects.items
keeps-objects inventory s kept =
    subst (AreBelow (length inventory.objects)) (sym kept.fits.objects)
    (places_below (is_asked kept.asked.objects kept.asked.roots) inventory.objects)

watched-of : (inventory : InventoryState) (o : Option MonitorBody) (body : MonitorBody) → o ≡ Some body
    → (or_no_terms (monitor_terms inventory) o).watched ≡ watched_asked inventory (objects_asked inventory body.objects body.roots) body.thresholds
watched-of inventory o body is = ap (λ o. (or_no_terms (monitor_terms inventory) o).watched) is

pub keeps-watched : (inventory : InventoryState) (s : Standing) → Keeps inventory Monitor s
    → watched_all inventory s.objects.items (map bound_of s.limits.items) ≡ (terms_of inventory Monitor s.body).watched
unfolding terms_of
keeps-watched inventory s kept =
    let said = says inventory s kept in
    let body = said.body in
    let objects : s.objects.items ≡ objects_asked inventory body.objects body.roots =
    kept.fits.objects ∙ ap (λ (a : Asked). objects_asked inventory a.objects a.roots) (sym said.asks) in
    let bounds : map bound_of s.limits.items ≡ map (bound_asked inventory) body.thresholds =
    kept.fits.limits ∙ ap (λ (a : Asked). map (bound_asked inventory) a.thresholds) (sym said.asks) in
    (λ i. watched_all inventory (objects i) (bounds i))
    ∙ bounds-watched inventory (objects_asked inventory body.objects body.roots) 0 body.thresholds
    ∙ sym (watched-of inventory (monitor_body s.body) body said.says)

granularity-of : (inventory : InventoryState) (o : Option MonitorBody) (body : MonitorBody) → o ≡ Some body
    → (or_no_terms (monitor_terms inventory) o).granularity ≡ ticks_of body.granularity
granularity-of inventory o body is = ap (λ o. (or_no_terms (monitor_terms inventory) o).granularity) is

pub keeps-granularity : (inventory : InventoryState) (s : Standing) → Keeps inventory Monitor s
    → ticks_of s.granularity ≡ (terms_of inventory Monitor s.body).granularity
unfolding terms_of
keeps-granularity inventory s kept =
    let said = says inventory s kept in
    ap ticks_of (kept.fits.granularity ∙ ap (λ (a : Asked). a.granularity) (sym said.asks))
    ∙ sym (granularity-of inventory (monitor_body s.body) said.body said.says)
