-- Metrics by their numbers, one after the other.
use Rattle.std.proofs.Common.{◌≡◌, ℕ, ◌+◌, ◌<◌, ◌||◌, Bool, true, false, cond, List, [], ◌∷◌, ◌++◌, length, take, get_or, Some, refl, sym, ap, ◌∙◌, arith, zero-add}
use Rattle.std.specs.Prelude.{slice_get}
use Rattle.std.specs.List.{list_any, list_all, filter, sum_by}
use Rattle.std.proofs.Math.ListN.{get_or-map}
use Rattle.std.proofs.lemmas.List.{take_more, map-append, length-map}
use Rattle.std.proofs.lemmas.List.Folds.{list_any-append, list_any_at, list_all_at, list_all-append}
use Rattle.std.proofs.lemmas.List.Sums.{sum_by-append}
use Rattle.std.proofs.lemmas.Option.{get_or_from_slice_get}
use Rattle.pm_meas.specs.declared.def.Def.{Def}
use Rattle.pm_inventory.specs.Inventory.{InventoryState}
use Rattle.pm_inventory.specs.Slot.{def_at}
use Rattle.pm_asked.specs.Asked.{Numbered}
use Rattle.pm_jobs.specs.Numbered.{numbered}

pub nothing_of : {X : Type 0} (p : X → Bool) (xs : List X) → length (filter p xs) ≡ 0 → list_any p xs ≡ false
nothing_of p [] none = refl
nothing_of p (x ∷ xs) none = by (p x) none (λ h. nothing_of p xs h)
  where
    by : (b : Bool) → length (cond b (x ∷ filter p xs) (filter p xs)) ≡ 0 → (length (filter p xs) ≡ 0 → list_any p xs ≡ false) → (b || list_any p xs) ≡ false
    by true none rest = absurd (omega (arith, none))
    by false none rest = rest none

pub something_of : {X : Type 0} (p : X → Bool) (xs : List X) → 0 < length (filter p xs) → list_any p xs ≡ true
something_of p [] some = absurd (omega arith)
something_of p (x ∷ xs) some = by (p x) some (λ h. something_of p xs h)
  where
    by : (b : Bool) → 0 < length (cond b (x ∷ filter p xs) (filter p xs)) → (0 < length (filter p xs) → list_any p xs ≡ true) → (b || list_any p xs) ≡ true
    by true some rest = refl
    by false some rest = rest some

abbrev with_def : InventoryState → ℕ → Numbered
with_def inventory metric = (metric, def_at inventory.measures metric)

is_def : (inventory : InventoryState) (metric : ℕ) (def : Def) → slice_get inventory.measures metric ≡ Some def → with_def inventory metric ≡ (metric, def)
is_def inventory metric def at = ap (λ (d : Def). (metric, d)) (get_or_from_slice_get inventory.measures metric def _ at)

pub numbered_more : (inventory : InventoryState) (metrics : List ℕ) (i : ℕ) (def : Def) → i < length metrics → slice_get inventory.measures (get_or metrics i 0) ≡ Some def
    → numbered inventory (take (i + 1) metrics) ≡ numbered inventory (take i metrics) ++ (get_or metrics i 0, def) ∷ []
numbered_more inventory metrics i def lt at =
    ap (numbered inventory) (take_more metrics i 0 lt)
    ∙ map-append (with_def inventory) (take i metrics) (get_or metrics i 0 ∷ [])
    ∙ ap (λ (m : Numbered). numbered inventory (take i metrics) ++ m ∷ []) (is_def inventory (get_or metrics i 0) def at)

numbered_at : (inventory : InventoryState) (metrics : List ℕ) (i : ℕ) (def : Def) → slice_get inventory.measures (get_or metrics i 0) ≡ Some def
    → get_or (numbered inventory metrics) i (with_def inventory 0) ≡ (get_or metrics i 0, def)
numbered_at inventory metrics i def at = get_or-map (with_def inventory) metrics i 0 ∙ is_def inventory (get_or metrics i 0) def at

within : (inventory : InventoryState) (metrics : List ℕ) (i : ℕ) → i < length metrics → i < length (numbered inventory metrics)
within inventory metrics i lt = rw (length-map metrics (with_def inventory)) lt

pub one_fails : (inventory : InventoryState) (p : Numbered → Bool) (metrics : List ℕ) (i : ℕ) (def : Def) → i < length metrics
    → slice_get inventory.measures (get_or metrics i 0) ≡ Some def → p (get_or metrics i 0, def) ≡ false → false ≡ list_all p (numbered inventory metrics)
one_fails inventory p metrics i def lt at fails =
    sym (list_all_at p (numbered inventory metrics) i (with_def inventory 0) (within inventory metrics i lt) (ap p (numbered_at inventory metrics i def at) ∙ fails))

pub one_of : (inventory : InventoryState) (p : Numbered → Bool) (metrics : List ℕ) (i : ℕ) (def : Def) → i < length metrics
    → slice_get inventory.measures (get_or metrics i 0) ≡ Some def → p (get_or metrics i 0, def) ≡ true → true ≡ list_any p (numbered inventory metrics)
one_of inventory p metrics i def lt at passes =
    sym (list_any_at p (numbered inventory metrics) i (with_def inventory 0) (within inventory metrics i lt) (ap p (numbered_at inventory metrics i def at) ∙ passes))

pub all_more : (inventory : InventoryState) (p : Numbered → Bool) (metrics : List ℕ) (i : ℕ) (def : Def) → i < length metrics
    → slice_get inventory.measures (get_or metrics i 0) ≡ Some def → p (get_or metrics i 0, def) ≡ true → list_all p (numbered inventory (take i metrics)) ≡ true
    → list_all p (numbered inventory (take (i + 1) metrics)) ≡ true
all_more inventory p metrics i def lt at passes before =
    rw (numbered_more inventory metrics i def lt at, list_all-append p (numbered inventory (take i metrics)) ((get_or metrics i 0, def) ∷ []), before, passes) refl

pub none_more : (inventory : InventoryState) (p : Numbered → Bool) (metrics : List ℕ) (i : ℕ) (def : Def) → i < length metrics
    → slice_get inventory.measures (get_or metrics i 0) ≡ Some def → p (get_or metrics i 0, def) ≡ false → list_any p (numbered inventory (take i metrics)) ≡ false
    → list_any p (numbered inventory (take (i + 1) metrics)) ≡ false
none_more inventory p metrics i def lt at fails before =
    rw (numbered_more inventory metrics i def lt at, list_any-append p (numbered inventory (take i metrics)) ((get_or metrics i 0, def) ∷ []), before, fails) refl

pub sum_more : (inventory : InventoryState) (f : Numbered → ℕ) (metrics : List ℕ) (i : ℕ) (def : Def) → i < length metrics
    → slice_get inventory.measures (get_or metrics i 0) ≡ Some def
    → sum_by f (numbered inventory (take (i + 1) metrics)) ≡ sum_by f (numbered inventory (take i metrics)) + f (get_or metrics i 0, def)
sum_more inventory f metrics i def lt at =
    ap (sum_by f) (numbered_more inventory metrics i def lt at)
    ∙ sum_by-append f (numbered inventory (take i metrics)) ((get_or metrics i 0, def) ∷ [])
    ∙ ap (λ n. sum_by f (numbered inventory (take i metrics)) + n) (zero-add (f (get_or metrics i 0, def)))
