-- Texts of numbers, one after another.
use Rattle.std.proofs.Common.{◌≡◌, ℕ, zero, suc, ◌+◌, ◌<◌, ◌≤◌, ◌&&◌, Bool, true, false, List, [], ◌∷◌, ◌++◌, length, map, drop, get_or, refl, ap, ◌∙◌, arith, append_assoc, drop-cons, add-one, slice_get, Some}
use Rattle.std.proofs.lemmas.Bool.{leb-true}
use Rattle.std.proofs.lemmas.List.{length-map}
use Rattle.pm_form.specs.Lists.{each_fits}
use Rattle.pm_form.specs.Names.{measure_name}
use Rattle.pm_meas.specs.declared.def.Def.{Def}
use Rattle.pm_inventory.specs.Inventory.{InventoryState}
use Rattle.pm_file.specs.Numbers.{metric_names, metric_text}
use Rattle.pm_file.specs.Content.{PartContent, ReportContent}
use Rattle.pm_file.specs.ReportForm.{object_name, moment, type_form, part_form, header_form, footer_form, body_form}

both : (a b : Bool) → (a && b) ≡ true → (a ≡ true) × (b ≡ true)
both true b h = (refl, h)
both false b h = cc

-- each of the values fits
pub known_at : {A B C : Type 0} (fits : A → Bool) (f : B → A) (g : C → B) (xs : List C) (i : ℕ) (d : C) → each_fits fits (map f (map g xs)) ≡ true
    → i < length xs → fits (f (g (get_or xs i d))) ≡ true
known_at fits f g [] i d all lt = absurd (omega arith)
known_at fits f g (x ∷ xs) zero d all lt = (both (fits (f (g x))) _ all).0
known_at fits f g (x ∷ xs) (suc i) d all lt = known_at fits f g xs i d (both (fits (f (g x))) _ all).1 (omega arith)

-- one more is made
pub texts_step : {A C : Type 0} (f : C → A) (xs : List C) (i : ℕ) (d : C) (done after : List A) (x : A) → i < length xs → x ≡ f (get_or xs i d)
    → after ≡ done ++ x ∷ [] → done ++ map f (drop i xs) ≡ map f xs → after ++ map f (drop (i + 1) xs) ≡ map f xs
texts_step f xs i d done after x lt is more inv =
    rw (more, add-one i, is) (append_assoc done (f (get_or xs i d) ∷ []) _ ∙ (rw (drop-cons xs i d lt) at inv))

-- what is named has a number
pub object_known : (names : List (List ℕ)) (n : ℕ) → object_name (get_or names n []) ≡ true → n < length names
object_known [] n e = let bad : false ≡ true = e in cc
object_known (x ∷ xs) zero e = omega arith
object_known (x ∷ xs) (suc n) e = let h = object_known xs n e in omega (arith, h)

pub metric_known : (names : List (List ℕ)) (n : ℕ) → measure_name (get_or names n []) ≡ true → n < length names
metric_known [] n e = let bad : false ≡ true = e in cc
metric_known (x ∷ xs) zero e = omega arith
metric_known (x ∷ xs) (suc n) e = let h = metric_known xs n e in omega (arith, h)

pub part_moments : (p : PartContent) → part_form.fits p ≡ true → (p.begin ≤ 253402300799) × (p.end ≤ 253402300799)
unfolding part_form
part_moments p e =
    let a = both (moment.fits p.begin) _ e in
    let b = both (moment.fits p.end) _ a.1 in
    (leb-true p.begin 253402300799 a.0, leb-true p.end 253402300799 b.0)

pub report_moments : (r : ReportContent) → body_form.fits r ≡ true → (r.begin ≤ 253402300799) × (r.end ≤ 253402300799)
unfolding body_form header_form footer_form
report_moments r e =
    let a = both (moment.fits r.end) _ e in
    let b = both (header_form.fits (record { begin = r.begin; job = r.job; sender = r.sender })) _ a.1 in
    let c = both (moment.fits r.begin) _ b.0 in
    (leb-true r.begin 253402300799 c.0, leb-true r.end 253402300799 a.0)

-- the name of a metric
pub metric_name : (ms : List Def) (n : ℕ) (d : Def) → slice_get ms n ≡ Some d → get_or (map (λ (m : Def). m.name) ms) n [] ≡ d.name
metric_name [] n d e = cc
metric_name (m ∷ ms) zero d e = let same : m ≡ d = cc e in ap (λ (x : Def). x.name) same
metric_name (m ∷ ms) (suc n) d e = metric_name ms n d e

-- a metric that has a name is one of the inventory
pub metric_in : (inventory : InventoryState) (m : ℕ) → type_form.fits (metric_text inventory m) ≡ true → m < length inventory.measures
unfolding type_form
metric_in inventory m e =
    let h = metric_known (metric_names inventory) m e in
    let long = length-map inventory.measures (λ (d : Def). d.name) in
    omega (arith, h, long)
