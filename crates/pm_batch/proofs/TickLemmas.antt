-- A hit that is counted into the tick that is open.
use Rattle.std.proofs.Common.{◌≡◌, ◌≢◌, ◌+◌, ◌%◌, ◌<◌, ◌≤◌, ◌&&◌, ℕ, zero, suc, Bool, true, false, cond, List, [], ◌∷◌, ◌++◌, length, map, get_or, take, drop, refl, sym, ◌∙◌, ap, subst, arith, inl, inr}
use Rattle.std.proofs.Math.Dec.{eqb}
use Rattle.std.proofs.Math.Nat.{suc-mod}
use Rattle.std.proofs.Math.ListN.{set}
use Rattle.std.proofs.lemmas.Bool.{eq-eqb, cases_lt}
use Rattle.std.proofs.lemmas.Bool.Decides.{Decides-eqb}
use Rattle.std.proofs.lemmas.List.{get_or-map, length-map, append-nil, take_more, set-get_or, length-set}
use Rattle.std.proofs.lemmas.List.Elements.{All-head, All-tail}
use Rattle.pm_meas.specs.declared.cell.Cell.{Cell}
use Rattle.pm_meas.specs.Cell.{cell_of, with_value}
use Rattle.pm_meas.specs.Registered.{is_registered}
use Rattle.pm_meas.proofs.CellLemmas.{cell_of-push}
use Rattle.pm_inventory.specs.Inventory.{InventoryState, SlotKey, key_of, slots}
use Rattle.pm_inventory.specs.Slot.{slot_of_key, event_slots}
use Rattle.pm_inventory.specs.SlotNames.{slot_names, AreDistinct}
use Rattle.pm_events.specs.declared.hit.Hit.{Hit}
use Rattle.pm_history.specs.declared.entry.Entry.TheVariants.{Event}
use Rattle.pm_history.specs.History.{History, ◌▷◌}
use Rattle.pm_items.specs.Items.{open_values}
use Rattle.pm_batch.specs.declared.phase.Phase.{Phase}
use Rattle.pm_batch.specs.declared.open_tick.OpenTick.{OpenTick}
use Rattle.pm_batch.specs.Reading.{AreOfSlots}
use Rattle.pm_batch.specs.OpenCounts.{one_if, open_events, open_registered}
use Rattle.pm_batch.specs.Entries.{key_at, registers_each, entry_after, with_batch}
use Rattle.pm_batch.specs.Phases.{stepped, registers, phase_at, step_at, registered_by}
use Rattle.pm_batch.specs.OpenTick.{open_cell, open_phase, TickStands, width, HasRoom, CountsHit}
use Rattle.pm_batch.proofs.PhaseLemmas.{registered_by-next}

-- two functions of a list that differ at one place
pub map-at : {K A : Type 0} (f g : K → A) (keys : List K) (p : ℕ) (k : K) (x : A) → p < length keys → x ≡ g (get_or keys p k) → ((q : ℕ) → q < length keys → q ≢ p → f (get_or keys q k) ≡ g (get_or keys q k)) → set (map f keys) p x ≡ map g keys
map-at f g [] p k x within is others = absurd (omega (arith, within))
map-at f g (key ∷ keys) zero k x within is others =
    ap (λ y. y ∷ map f keys) is ∙ ap (λ ys. g key ∷ ys) (map-same f g keys k (λ q lt. others (suc q) (omega (arith, lt)) (λ same. omega (arith, same)))) where
      map-same : {K A : Type 0} (f g : K → A) (keys : List K) (k : K) → ((q : ℕ) → q < length keys → f (get_or keys q k) ≡ g (get_or keys q k)) → map f keys ≡ map g keys
      map-same f g [] k each = refl
      map-same f g (key ∷ keys) k each = ap (λ y. y ∷ map f keys) (each 0 (omega arith)) ∙ ap (λ ys. g key ∷ ys) (map-same f g keys k (λ q lt. each (suc q) (omega (arith, lt))))
map-at f g (key ∷ keys) (suc p) k x within is others =
    ap (λ y. y ∷ set (map f keys) p x) (others 0 (omega arith) (λ same. omega (arith, same)))
    ∙ ap (λ ys. g key ∷ ys) (map-at f g keys p k x (omega (arith, within)) is (λ q lt differs. others (suc q) (omega (arith, lt)) (λ same. differs (omega (arith, same)))))

-- the key of an event is that of one slot alone
same-key : (a b : SlotKey) → (eqb a.object b.object && eqb a.metric b.metric) ≡ true → a ≡ b
same-key a b is = by (eqb a.object b.object) (eqb a.metric b.metric) refl refl is where
  by : (x y : Bool) → eqb a.object b.object ≡ x → eqb a.metric b.metric ≡ y → (x && y) ≡ true → a ≡ b
  by true true objects metrics both =
      let object : a.object ≡ b.object = (Decides-eqb a.object b.object).0 objects in
      let metric : a.metric ≡ b.metric = (Decides-eqb a.metric b.metric).0 metrics in
      ap (λ (o : ℕ). record { object = o; metric = a.metric }) object ∙ ap (λ (m : ℕ). record { object = b.object; metric = m }) metric
  by true false objects metrics both = absurd (cc (both))
  by false y objects metrics both = absurd (cc (both))

names-of : (inventory : InventoryState) → SlotKey → List ℕ
names-of inventory key = slot_names (slot_of_key inventory key)

named-at : (inventory : InventoryState) (p : ℕ) → p < length (slots inventory) → get_or (map slot_names (event_slots inventory)) p [] ≡ names-of inventory (key_at inventory p)
unfolding names-of
named-at inventory p within =
    let keys = slots inventory in
    get_or-map slot_names (map (slot_of_key inventory) keys) p (slot_of_key inventory (key_of 0 0)) [] (omega (arith, within, length-map keys (slot_of_key inventory)))
    ∙ ap slot_names (get_or-map (slot_of_key inventory) keys p (key_of 0 0) (slot_of_key inventory (key_of 0 0)) within)

-- of two slots the keys differ
pub keys-apart : (inventory : InventoryState) (p q : ℕ) → AreDistinct (event_slots inventory) → p < length (slots inventory) → q < length (slots inventory) → q ≢ p → (eqb (key_at inventory p).object (key_at inventory q).object && eqb (key_at inventory p).metric (key_at inventory q).metric) ≡ false
keys-apart inventory p q distinct p-in q-in differs = by (eqb (key_at inventory p).object (key_at inventory q).object && eqb (key_at inventory p).metric (key_at inventory q).metric) refl where
  many : length (map slot_names (event_slots inventory)) ≡ length (slots inventory)
  many = length-map (event_slots inventory) slot_names ∙ length-map (slots inventory) (slot_of_key inventory)

  by : (b : Bool) → (eqb (key_at inventory p).object (key_at inventory q).object && eqb (key_at inventory p).metric (key_at inventory q).metric) ≡ b → b ≡ false
  by false is = refl
  by true is =
      let same : key_at inventory p ≡ key_at inventory q = same-key (key_at inventory p) (key_at inventory q) is in
      let names : get_or (map slot_names (event_slots inventory)) p [] ≡ get_or (map slot_names (event_slots inventory)) q [] =
      named-at inventory p p-in ∙ ap (names-of inventory) same ∙ sym (named-at inventory q q-in) in
      elim (cases_lt p q) [
        | inl less ↦ absurd (distinct p q [] less (omega (arith, q-in, many)) names)
        | inr more ↦ absurd (distinct q p [] (omega (arith, more, differs)) (omega (arith, p-in, many)) (sym names))
      ]

-- one event more behind the last registered one
next-seen : (many each : ℕ) → (many % each + 1) % each ≡ (many + 1) % each
next-seen many each =
    let one : (n : ℕ) → n + 1 ≡ suc n = λ n. omega arith in
    ap (λ (n : ℕ). n % each) (one (many % each)) ∙ sym (suc-mod many each) ∙ ap (λ (n : ℕ). n % each) (sym (one many))

own-test : (o m : ℕ) → (eqb o o && eqb m m) ≡ true
own-test o m = ap (λ (b : Bool). b && eqb m m) (eq-eqb o o refl) ∙ eq-eqb m m refl

-- the phase of its slot, and of another one
own-phase : (inventory : InventoryState) (h : History) (moment value : ℕ) (key : SlotKey) (r : Bool) → stepped (open_phase inventory h key) ≡ open_phase inventory (h ▷ Event moment key.object key.metric value r) key
own-phase inventory h moment value key r =
    let each = registers_each inventory key in
    let many = open_events key.object key.metric h in
    ap (λ (n : ℕ). record { seen = n; each = each }) (next-seen many each ∙ ap (λ (b : Bool). (many + one_if b) % each) (sym (own-test key.object key.metric)))

other-phase : (inventory : InventoryState) (h : History) (moment value : ℕ) (key other : SlotKey) (r : Bool) → (eqb key.object other.object && eqb key.metric other.metric) ≡ false → open_phase inventory h other ≡ open_phase inventory (h ▷ Event moment key.object key.metric value r) other
other-phase inventory h moment value key other r differs =
    let each = registers_each inventory other in
    let many = open_events other.object other.metric h in
    let none : many ≡ many + 0 = omega arith in
    ap (λ (n : ℕ). record { seen = n % each; each = each }) (none ∙ ap (λ (b : Bool). many + one_if b) (sym differs))

-- the cell of its slot, and of another one
own-cell : (h : History) (moment value : ℕ) (key : SlotKey) (r : Bool) → value < 4294967296 → cond r (with_value (open_cell h key) value) (open_cell h key) ≡ open_cell (h ▷ Event moment key.object key.metric value r) key
own-cell h moment value key true small =
    let values = open_values key.object key.metric h in
    sym (cell_of-push values value small)
    ∙ ap (λ (b : Bool). cell_of (values ++ cond ((b && true) && true) (value ∷ []) [])) (sym (own-test key.object key.metric))
own-cell h moment value key false small =
    let values = open_values key.object key.metric h in
    ap cell_of (sym (append-nil values))
    ∙ ap (λ (b : Bool). cell_of (values ++ cond ((b && false) && true) (value ∷ []) [])) (sym (own-test key.object key.metric))

other-cell : (h : History) (moment value : ℕ) (key other : SlotKey) (r : Bool) → (eqb key.object other.object && eqb key.metric other.metric) ≡ false → open_cell h other ≡ open_cell (h ▷ Event moment key.object key.metric value r) other
other-cell h moment value key other r differs =
    let values = open_values other.object other.metric h in
    ap cell_of (sym (append-nil values))
    ∙ ap (λ (b : Bool). cell_of (values ++ cond ((b && r) && true) (value ∷ []) [])) (sym differs)

each-of : (inventory : InventoryState) (h : History) (keys : List SlotKey) → map (λ (p : Phase). p.each) (map (open_phase inventory h) keys) ≡ map (registers_each inventory) keys
each-of inventory h [] = refl
each-of inventory h (key ∷ keys) = ap (λ ns. registers_each inventory key ∷ ns) (each-of inventory h keys)

set-if : {A : Type 0} (b : Bool) (xs : List A) (p : ℕ) (x d : A) → cond b (set xs p x) xs ≡ set xs p (cond b x (get_or xs p d))
set-if true xs p x d = refl
set-if false xs p x d = sym (set-get_or xs p d)

-- the phase of a slot
phase-is : (inventory : InventoryState) (h : History) (phases : List Phase) (p : ℕ) → phases ≡ map (open_phase inventory h) (slots inventory) → p < length (slots inventory) → phase_at phases p ≡ open_phase inventory h (key_at inventory p)
phase-is inventory h phases p are inside =
    ap (λ (l : List Phase). phase_at l p) are ∙ get_or-map (open_phase inventory h) (slots inventory) p (key_of 0 0) (record { seen = 0; each = 1 }) inside

-- whether a hit is registered
registers-is : (inventory : InventoryState) (h : History) (phases : List Phase) (p : ℕ) → phases ≡ map (open_phase inventory h) (slots inventory) → p < length (slots inventory) → registers (phase_at phases p) ≡ is_registered (registers_each inventory (key_at inventory p)) (open_events (key_at inventory p).object (key_at inventory p).metric h + 1)
registers-is inventory h phases p are inside =
    let key = key_at inventory p in
    ap registers (phase-is inventory h phases p are inside) ∙ ap (λ (n : ℕ). eqb n 0) (next-seen (open_events key.object key.metric h) (registers_each inventory key))

-- The phases behind a hit.
pub phases-hit : (inventory : InventoryState) (h : History) (moment : ℕ) (hit : Hit) (phases : List Phase) → AreDistinct (event_slots inventory) → phases ≡ map (open_phase inventory h) (slots inventory) → hit.slot < length (slots inventory) → step_at phases hit.slot ≡ map (open_phase inventory (h ▷ entry_after inventory h moment hit)) (slots inventory)
phases-hit inventory h moment hit phases distinct are inside =
    let keys = slots inventory in
    let p = hit.slot in
    let value = hit.value in
    let key = key_at inventory p in
    let each = registers_each inventory key in
    let r : Bool = is_registered each (open_events key.object key.metric h + 1) in
    let next : History = h ▷ Event moment key.object key.metric value r in
    ap (λ (l : List Phase). set l p (stepped (phase_at phases p))) are
    ∙ map-at (open_phase inventory h) (open_phase inventory next) keys p (key_of 0 0) (stepped (phase_at phases p)) inside
    (ap stepped (phase-is inventory h phases p are inside) ∙ own-phase inventory h moment value key r)
    (λ q lt differs. other-phase inventory h moment value key (key_at inventory q) r (keys-apart inventory p q distinct inside lt differs))

-- A hit is counted into a tick that stands for a history.
pub stands-hit : (inventory : InventoryState) (h : History) (moment : ℕ) (hit : Hit) (old new : OpenTick) → TickStands inventory h old → hit.slot < width old → hit.value ≤ 1048575 → CountsHit old hit new → TickStands inventory (h ▷ entry_after inventory h moment hit) new
stands-hit inventory h moment hit old new stands within small counts =
    let keys = slots inventory in
    let p = hit.slot in
    let value = hit.value in
    let key = key_at inventory p in
    let each = registers_each inventory key in
    let r : Bool = is_registered each (open_events key.object key.metric h + 1) in
    let next : History = h ▷ Event moment key.object key.metric value r in
    let inside : p < length keys = omega (arith, within, ap length stands.phases, length-map keys (open_phase inventory h)) in
    let is : registers (phase_at old.phases.items p) ≡ r = registers-is inventory h old.phases.items p stands.phases inside in
    let cell : get_or old.cells.items p (cell_of []) ≡ open_cell h key =
    ap (λ (l : List Cell). get_or l p (cell_of [])) stands.cells ∙ get_or-map (open_cell h) keys p (key_of 0 0) (cell_of []) inside in
    let apart = λ (q : ℕ) (lt : q < length keys) (differs : q ≢ p). keys-apart inventory p q stands.made.distinct inside lt differs in
    let phases : new.phases.items ≡ map (open_phase inventory next) keys = counts.phases ∙ phases-hit inventory h moment hit old.phases.items stands.made.distinct stands.phases inside in
    let cells : new.cells.items ≡ map (open_cell next) keys =
    counts.cells
    ∙ set-if (registers (phase_at old.phases.items p)) old.cells.items p (with_value (get_or old.cells.items p (cell_of [])) value) (cell_of [])
    ∙ ap (λ (l : List Cell). set l p (cond (registers (phase_at old.phases.items p)) (with_value (get_or old.cells.items p (cell_of [])) value) (get_or old.cells.items p (cell_of [])))) stands.cells
    ∙ map-at (open_cell h) (open_cell next) keys p (key_of 0 0) (cond (registers (phase_at old.phases.items p)) (with_value (get_or old.cells.items p (cell_of [])) value) (get_or old.cells.items p (cell_of []))) inside
    (ap (λ (b : Bool). cond b (with_value (get_or old.cells.items p (cell_of [])) value) (get_or old.cells.items p (cell_of []))) is
    ∙ ap (λ (c : Cell). cond r (with_value c value) c) cell
    ∙ own-cell h moment value key r (omega (arith, small)))
    (λ q lt differs. other-cell h moment value key (key_at inventory q) r (apart q lt differs)) in
    record {
      made = record {
        each = ap (map (λ (x : Phase). x.each)) phases ∙ each-of inventory next keys;
        distinct = stands.made.distinct;
      };
      cells = cells;
      phases = phases;
      registered = counts.registered ∙ ap (λ (n : ℕ). n + one_if (registers (phase_at old.phases.items p))) stands.registered ∙ ap (λ (b : Bool). open_registered h + one_if b) is;
    }

-- One hit more of a batch.
pub with_batch-more : (inventory : InventoryState) (h : History) (moment : ℕ) (hits : List Hit) (hit : Hit) → with_batch inventory h moment (hits ++ hit ∷ []) ≡ with_batch inventory h moment hits ▷ entry_after inventory (with_batch inventory h moment hits) moment hit
with_batch-more inventory h moment [] hit = refl
with_batch-more inventory h moment (x ∷ hits) hit = with_batch-more inventory (h ▷ entry_after inventory h moment x) moment hits hit

-- The next hit of a batch is counted.
pub stands-next : (inventory : InventoryState) (h : History) (moment : ℕ) (hits : List Hit) (i : ℕ) (hit : Hit) (old new : OpenTick) → i < length hits → get_or hits i hit ≡ hit → TickStands inventory (with_batch inventory h moment (take i hits)) old → hit.slot < width old → hit.value ≤ 1048575 → CountsHit old hit new → TickStands inventory (with_batch inventory h moment (take (i + 1) hits)) new
stands-next inventory h moment hits i hit old new within at stands slot small counts =
    let more : with_batch inventory h moment (take i hits) ▷ entry_after inventory (with_batch inventory h moment (take i hits)) moment hit ≡ with_batch inventory h moment (take (i + 1) hits) =
    sym (with_batch-more inventory h moment (take i hits) hit)
    ∙ ap (λ (x : Hit). with_batch inventory h moment (take i hits ++ x ∷ [])) (sym at)
    ∙ ap (with_batch inventory h moment) (sym (take_more hits i hit within)) in
    subst (λ (g : History). TickStands inventory g new) more (stands-hit inventory (with_batch inventory h moment (take i hits)) moment hit old new stands slot small counts)

-- Room for the hits that are left.
pub room-next : (hits : List Hit) (i : ℕ) (hit : Hit) (old new : OpenTick) → i < length hits → get_or hits i hit ≡ hit → HasRoom old (drop i hits) → CountsHit old hit new → HasRoom new (drop (i + 1) hits)
room-next hits i hit old new within at room counts =
    let rest = drop (i + 1) hits in
    omega (arith, room, registered_by-next old.phases.items hits i hit within at, counts.registered, ap (λ (l : List Phase). registered_by l rest) counts.phases)

-- How many events are registered with a batch.
pub registered-with : (inventory : InventoryState) (h : History) (moment : ℕ) (hits : List Hit) (phases : List Phase) → AreDistinct (event_slots inventory) → phases ≡ map (open_phase inventory h) (slots inventory) → AreOfSlots (length phases) hits → open_registered (with_batch inventory h moment hits) ≡ open_registered h + registered_by phases hits
registered-with inventory h moment [] phases distinct are sound = omega arith
registered-with inventory h moment (hit ∷ hits) phases distinct are sound =
    let within = (All-head (λ (x : Hit). (x.slot < length phases) × (x.value ≤ 1048575)) hit hits sound).0 in
    let inside : hit.slot < length (slots inventory) = omega (arith, within, ap length are, length-map (slots inventory) (open_phase inventory h)) in
    let next : History = h ▷ entry_after inventory h moment hit in
    let later : AreOfSlots (length (step_at phases hit.slot)) hits =
    subst (λ (n : ℕ). AreOfSlots n hits) (sym (length-set phases hit.slot (stepped (phase_at phases hit.slot)))) (All-tail (λ (x : Hit). (x.slot < length phases) × (x.value ≤ 1048575)) hit hits sound) in
    let rest : open_registered (with_batch inventory next moment hits) ≡ open_registered next + registered_by (step_at phases hit.slot) hits =
    registered-with inventory next moment hits (step_at phases hit.slot) distinct (phases-hit inventory h moment hit phases distinct are inside) later in
    let own : open_registered next ≡ open_registered h + one_if (registers (phase_at phases hit.slot)) = ap (λ (b : Bool). open_registered h + one_if b) (sym (registers-is inventory h phases hit.slot are inside)) in
    omega (arith, rest, own)
