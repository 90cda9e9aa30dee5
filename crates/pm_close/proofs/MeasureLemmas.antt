-- Measures by the numbers of metrics and objects read what a body asks for.
use Rattle.std.proofs.Common.{◌≡◌, ℕ, suc, ◌+◌, ◌<◌, ◌&&◌, Bool, true, false, cond, List, [], ◌∷◌, ◌++◌, length, take, get_or, slice_index_or, Some, None, refl, sym, ap, subst, ◌∙◌, arith, inl, inr, append_assoc}
use Rattle.std.specs.Cmp.{first_so, second_so}
use Rattle.std.specs.List.{flat_map, position_from, slice_get}
use Rattle.std.proofs.lemmas.Bool.{cases_lt, eqb-true}
use Rattle.std.proofs.lemmas.Grind.{flat_map-append}
use Rattle.std.proofs.lemmas.List.{append-nil, length-append, get_or_append_left, get_or_push, get_or_past, take_more}
use Rattle.std.proofs.lemmas.Option.{get_or_from_slice_get}
use Rattle.pm_base.specs.declared.class.Class.{Class}
use Rattle.pm_base.specs.declared.class.Class.TheVariants.{ManagedElement, GnbCuCp, NrCellCu, GnbDu, NrCellDu}
use Rattle.pm_dn.specs.Containment.{has_path_to}
use Rattle.pm_meas.specs.declared.def.Def.{Def}
use Rattle.pm_inventory.specs.Inventory.{InventoryState, SlotKey, slots, slot_number, is_slot_of}
use Rattle.pm_inventory.specs.Slot.{def_at}
use Rattle.pm_inventory.proofs.SlotLemmas.{slots-none, slots-some}
use Rattle.pm_asked.specs.Asked.{is_of_class, same_class, metric_of}
use Rattle.pm_close.specs.declared.measure.Measure.{Measure}
use Rattle.pm_close.specs.Parts.{AreWithin, Quantity, Reads, ReadEach, measure_at, no_quantity, no_measure}
use Rattle.pm_close.specs.Measures.{quantity_on, AddsReads}

same_class-eq : (a b : Class) → same_class a b ≡ true → a ≡ b
same_class-eq ManagedElement ManagedElement is = refl
same_class-eq GnbCuCp GnbCuCp is = refl
same_class-eq NrCellCu NrCellCu is = refl
same_class-eq GnbDu GnbDu is = refl
same_class-eq NrCellDu NrCellDu is = refl
same_class-eq ManagedElement _ is = cc
same_class-eq GnbCuCp _ is = cc
same_class-eq NrCellCu _ is = cc
same_class-eq GnbDu _ is = cc
same_class-eq NrCellDu _ is = cc

-- ---- slots

position-passes : {K : Type 0} (t : K → Bool) (j v : ℕ) (xs : List K) (d : K) → position_from t j xs ≡ Some v
    → (k : ℕ) × (v ≡ j + k) × (k < length xs) × (t (get_or xs k d) ≡ true)
position-passes t j v [] d is = cc
position-passes {K} t j v (x ∷ xs) d is = by (t x) refl is (λ found. position-passes t (j + 1) v xs d found)
  where
    by : (b : Bool) → t x ≡ b → cond b (Some j) (position_from t (j + 1) xs) ≡ Some v
        → (position_from t (j + 1) xs ≡ Some v → (k : ℕ) × (v ≡ j + 1 + k) × (k < length xs) × (t (get_or xs k d) ≡ true))
        → (k : ℕ) × (v ≡ j + k) × (k < length (x ∷ xs)) × (t (get_or (x ∷ xs) k d) ≡ true)
    by true passes found more = let same : j ≡ v = cc in (0, omega (arith, same), omega arith, passes)
    by false fails found more =
        let rest = more found in
        (suc rest.0, omega (arith, rest.1), omega (arith, rest.2), rest.3)

slot-key : (object metric : ℕ) (key : SlotKey) → is_slot_of object metric key ≡ true → key ≡ record { object = object; metric = metric }
slot-key object metric key is =
    let o = eqb-true key.object object (first_so _ _ is) in
    let m = eqb-true key.metric metric (second_so _ _ is) in
    λ i. record { object = o i; metric = m i }

slot-at : (inventory : InventoryState) (object metric slot : ℕ) → slot_number inventory object metric ≡ Some slot
    → (d : SlotKey) → (slot < length (slots inventory)) × (slice_index_or (slots inventory) slot d ≡ record { object = object; metric = metric })
slot-at inventory object metric slot is d =
    let at = position-passes (is_slot_of object metric) 0 slot (slots inventory) d is in
    let same : at.0 ≡ slot = omega (arith, at.1) in
    (omega (arith, at.1, at.2), ap (λ k. get_or (slots inventory) k d) (sym same) ∙ slot-key object metric (get_or (slots inventory) at.0 d) at.3)

no-object : (class : Class) → has_path_to class [] ≡ false
no-object ManagedElement = refl
no-object GnbCuCp = refl
no-object NrCellCu = refl
no-object GnbDu = refl
no-object NrCellDu = refl

-- an object that is of the class of a metric has a slot of it
has-slot : (inventory : InventoryState) (class : Class) (object metric : ℕ) (def : Def) → slice_get inventory.measures metric ≡ Some def
    → def.class ≡ class → is_of_class inventory class object ≡ true → slot_number inventory object metric ≡ None → ⊥
has-slot inventory class object metric def at same is none =
    elim (cases_lt object (length inventory.objects)) [
      | inl within ↦
          let some = slots-some inventory.objects object metric 0 metric 0 inventory.measures def (omega arith) at within
          (ap (λ (c : Class). has_path_to c (get_or inventory.objects object [])) same ∙ is) in
          cc
      | inr past ↦
          let gone = ap (has_path_to class) (get_or_past inventory.objects object [] past) ∙ no-object class in
          cc
    ]

-- one that isn't has none
has-no-slot : (inventory : InventoryState) (class : Class) (object metric slot : ℕ) (def : Def) → slice_get inventory.measures metric ≡ Some def
    → def.class ≡ class → is_of_class inventory class object ≡ false → slot_number inventory object metric ≡ Some slot → ⊥
has-no-slot inventory class object metric slot def at same is some =
    let none = slots-none inventory.objects object metric 0 metric 0 inventory.measures def (omega arith) at
    (λ lt. ap (λ (c : Class). has_path_to c (get_or inventory.objects object [])) same ∙ is) in
    cc

-- ---- measures

pub AddsReads-none : (inventory : InventoryState) (ms : List Measure) → AddsReads inventory ms [] ms
AddsReads-none inventory ms = λ quantities reads. subst (ReadEach (slots inventory) ms) (sym (append-nil quantities)) reads

pub AddsReads-append : (inventory : InventoryState) (old mid new : List Measure) (one more : List Quantity)
    → AddsReads inventory old one mid → AddsReads inventory mid more new → AddsReads inventory old (one ++ more) new
AddsReads-append inventory old mid new one more first next =
    λ quantities reads. subst (ReadEach (slots inventory) new) (append_assoc quantities one more) (next (quantities ++ one) (first quantities reads))

-- none, where there is no quantity
adds-nothing : (inventory : InventoryState) (ms : List Measure) (b : Bool) (one : List Quantity) → b ≡ false → AddsReads inventory ms (cond b one []) ms
adds-nothing inventory ms b one is = subst (λ (x : Bool). AddsReads inventory ms (cond x one []) ms) (sym is) (AddsReads-none inventory ms)

def-is : (inventory : InventoryState) (metric : ℕ) (def : Def) → slice_get inventory.measures metric ≡ Some def → def_at inventory.measures metric ≡ def
def-is inventory metric def at = get_or_from_slice_get inventory.measures metric def _ at

pub adds-other_class : (inventory : InventoryState) (ms : List Measure) (class : Class) (object metric : ℕ) (def : Def)
    → slice_get inventory.measures metric ≡ Some def → same_class def.class class ≡ false
    → AddsReads inventory ms (quantity_on inventory class object metric) ms
adds-other_class inventory ms class object metric def at other =
    adds-nothing inventory ms _ _ (ap (λ (d : Def). same_class d.class class && is_of_class inventory class object) (def-is inventory metric def at)
    ∙ ap (λ (b : Bool). b && is_of_class inventory class object) other)

pub adds-no_slot : (inventory : InventoryState) (ms : List Measure) (class : Class) (object metric : ℕ) (def : Def)
    → slice_get inventory.measures metric ≡ Some def → same_class def.class class ≡ true → slot_number inventory object metric ≡ None
    → AddsReads inventory ms (quantity_on inventory class object metric) ms
adds-no_slot inventory ms class object metric def at same none = by (is_of_class inventory class object) refl
  where
    by : (b : Bool) → is_of_class inventory class object ≡ b → AddsReads inventory ms (quantity_on inventory class object metric) ms
    by true is = absurd (has-slot inventory class object metric def at (same_class-eq def.class class same) is none)
    by false is =
        adds-nothing inventory ms _ _
        (ap (λ (d : Def). same_class d.class class && is_of_class inventory class object) (def-is inventory metric def at)
        ∙ (λ i. same i && is i))

reads-more : (inventory : InventoryState) (ms : List Measure) (qs : List Quantity) (m : Measure) (q : Quantity) → Reads (slots inventory) m q
    → ReadEach (slots inventory) ms qs → ReadEach (slots inventory) (ms ++ m ∷ []) (qs ++ q ∷ [])
reads-more inventory ms qs m q one reads =
    let long = length-append ms (m ∷ []) in
    let wide = length-append qs (q ∷ []) in
    let same = reads.as_many in
    record {
      as_many = omega (arith, long, wide, same);
      each = λ k lt. elim (cases_lt k (length ms)) [
        | inl below ↦
            subst (λ (x : Measure). Reads (slots inventory) x (slice_index_or (qs ++ q ∷ []) k no_quantity)) (sym (get_or_append_left ms (m ∷ []) no_measure k below))
            (subst (λ (y : Quantity). Reads (slots inventory) (measure_at ms k) y) (sym (get_or_append_left qs (q ∷ []) no_quantity k (omega (arith, below, same)))) (reads.each k below))
        | inr past ↦
            subst (λ (x : Measure). Reads (slots inventory) x (slice_index_or (qs ++ q ∷ []) k no_quantity)) (sym (get_or_push ms m no_measure k (omega (arith, long, lt, past))))
            (subst (λ (y : Quantity). Reads (slots inventory) m y) (sym (get_or_push qs q no_quantity k (omega (arith, long, lt, past, same)))) one)
      ];
    }

pub adds-slot : (inventory : InventoryState) (ms : List Measure) (class : Class) (object metric slot : ℕ) (def : Def)
    → slice_get inventory.measures metric ≡ Some def → same_class def.class class ≡ true → slot_number inventory object metric ≡ Some slot
    → AddsReads inventory ms (quantity_on inventory class object metric) (ms ++ record { slot = slot; reduce = def.reduce } ∷ [])
adds-slot inventory ms class object metric slot def at same some = by (is_of_class inventory class object) refl
  where
    m : Measure
    m = record { slot = slot; reduce = def.reduce }

    q : Quantity
    q = record { object = object; metric = metric_of (metric, def_at inventory.measures metric) }

    one : Reads (slots inventory) m q
    one = record {
      within = (slot-at inventory object metric slot some (record { object = 0; metric = 0 })).0;
      slot = λ d. (slot-at inventory object metric slot some d).1;
      reduce = ap (λ (x : Def). x.reduce) (def-is inventory metric def at);
    }

    by : (b : Bool) → is_of_class inventory class object ≡ b → AddsReads inventory ms (quantity_on inventory class object metric) (ms ++ m ∷ [])
    by false is = absurd (has-no-slot inventory class object metric slot def at (same_class-eq def.class class same) is some)
    by true is =
        let all : quantity_on inventory class object metric ≡ q ∷ [] =
        ap (λ (b : Bool). cond b (q ∷ []) []) (ap (λ (d : Def). same_class d.class class && is_of_class inventory class object) (def-is inventory metric def at)
        ∙ (λ i. same i && is i)) in
        subst (λ (more : List Quantity). AddsReads inventory ms more (ms ++ m ∷ [])) (sym all) (λ quantities reads. reads-more inventory ms quantities m q one reads)

pub within-more : (width : ℕ) (ms : List Measure) (m : Measure) → m.slot < width → AreWithin width ms → AreWithin width (ms ++ m ∷ [])
within-more width ms m lt are k within =
    let long = length-append ms (m ∷ []) in
    elim (cases_lt k (length ms)) [
      | inl below ↦ subst (λ (x : Measure). x.slot < width) (sym (get_or_append_left ms (m ∷ []) no_measure k below)) (are k below)
      | inr past ↦ subst (λ (x : Measure). x.slot < width) (sym (get_or_push ms m no_measure k (omega (arith, long, within, past)))) lt
    ]

-- one more of a list of which each adds
pub adds-more : {X : Type 0} (inventory : InventoryState) (f : X → List Quantity) (xs : List X) (i : ℕ) (d : X) (old mid new : List Measure)
    → i < length xs → AddsReads inventory old (flat_map f (take i xs)) mid → AddsReads inventory mid (f (get_or xs i d)) new
    → AddsReads inventory old (flat_map f (take (i + 1) xs)) new
adds-more inventory f xs i d old mid new lt before next =
    let all : flat_map f (take i xs) ++ f (get_or xs i d) ≡ flat_map f (take (i + 1) xs) =
    sym (ap (flat_map f) (take_more xs i d lt) ∙ (flat_map-append f (take i xs) (get_or xs i d ∷ []) ∙ ap (λ ys. flat_map f (take i xs) ++ ys) (append-nil (f (get_or xs i d))))) in
    subst (λ more. AddsReads inventory old more new) all (AddsReads-append inventory old mid new (flat_map f (take i xs)) (f (get_or xs i d)) before next)
