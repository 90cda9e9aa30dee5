-- The rules that a body breaks by itself, and what its numbers give.
use Rattle.std.proofs.Common.{◌≡◌, ℕ, Bool, true, false, not, List, [], ◌∷◌, Option, Some, None, refl, sym, ap, ◌∙◌}
use Rattle.std.specs.List.{list_any, list_all}
use Rattle.pm_dn.specs.Refusal.{when_broken, first_code}
use Rattle.pm_meas.specs.declared.def.Def.{Def}
use Rattle.pm_inventory.specs.Inventory.{InventoryState}
use Rattle.pm_asked.specs.Asked.{asks_for, load}
use Rattle.pm_jobs.specs.declared.error.JobError.{JobError}
use Rattle.pm_jobs.specs.declared.error.JobError.TheVariants.{J3, J4, J5, J6, J7}
use Rattle.pm_jobs.specs.Asked.{Asked, metrics_of, objects_of}
use Rattle.pm_jobs.specs.Numbered.{numbered}
use Rattle.pm_jobs.specs.Rules.{is_measured, load_asked}
use Rattle.pm_jobs.specs.Stands.{numbers}
use Rattle.pm_jobs.proofs.PlacesWithinLemmas.{numbered_back}

abbrev pub rules_of : Bool → Bool → Bool → Bool → Bool → Bool → Option JobError
rules_of a b c d e f =
    first_code
    (when_broken (not a) J3 ∷ when_broken (not b) J4 ∷ when_broken (not c) J4 ∷ when_broken (not d) J5 ∷ when_broken (not e) J6 ∷ when_broken (not f) J7 ∷ [])

pub first : (a b c d e f : Bool) → a ≡ false → rules_of a b c d e f ≡ Some J3
first a b c d e f x = rw x refl

pub second : (a b c d e f : Bool) → a ≡ true → b ≡ false → rules_of a b c d e f ≡ Some J4
second a b c d e f x y = rw (x, y) refl

pub third : (a b c d e f : Bool) → a ≡ true → b ≡ true → c ≡ false → rules_of a b c d e f ≡ Some J4
third a b c d e f x y z = rw (x, y, z) refl

pub fourth : (a b c d e f : Bool) → a ≡ true → b ≡ true → c ≡ true → d ≡ false → rules_of a b c d e f ≡ Some J5
fourth a b c d e f x y z w = rw (x, y, z, w) refl

pub fifth : (a b c d e f : Bool) → a ≡ true → b ≡ true → c ≡ true → d ≡ true → e ≡ false → rules_of a b c d e f ≡ Some J6
fifth a b c d e f x y z w v = rw (x, y, z, w, v) refl

pub sixth : (a b c d e f : Bool) → a ≡ true → b ≡ true → c ≡ true → d ≡ true → e ≡ true → f ≡ false → rules_of a b c d e f ≡ Some J7
sixth a b c d e f x y z w v u = rw (x, y, z, w, v, u) refl

pub none : (a b c d e f : Bool) → a ≡ true → b ≡ true → c ≡ true → d ≡ true → e ≡ true → f ≡ true → rules_of a b c d e f ≡ None
none a b c d e f x y z w v u = rw (x, y, z, w, v, u) refl

numbered_asked : (inventory : InventoryState) (asked : Asked) → numbered inventory (numbers (metrics_of inventory asked)) ≡ metrics_of inventory asked
numbered_asked inventory asked = numbered_back (λ (def : Def). list_any (asks_for def) asked.metrics) inventory.measures

pub measured_same : (inventory : InventoryState) (asked : Asked) (ms os : List ℕ) → ms ≡ numbers (metrics_of inventory asked) → os ≡ objects_of inventory asked
    → list_all (is_measured inventory (objects_of inventory asked)) (metrics_of inventory asked) ≡ list_all (is_measured inventory os) (numbered inventory ms)
measured_same inventory asked ms os m o =
    ap (list_all (is_measured inventory (objects_of inventory asked))) (sym (numbered_asked inventory asked) ∙ ap (numbered inventory) (sym m))
    ∙ ap (λ (l : List ℕ). list_all (is_measured inventory l) (numbered inventory ms)) (sym o)

pub load_same : (inventory : InventoryState) (asked : Asked) (granularity : ℕ) (ms os : List ℕ) → granularity ≡ asked.granularity → ms ≡ numbers (metrics_of inventory asked)
    → os ≡ objects_of inventory asked → load inventory granularity (numbered inventory ms) os ≡ load_asked inventory asked
load_same inventory asked granularity ms os g m o =
    ap (λ (n : ℕ). load inventory n (numbered inventory ms) os) g
    ∙ ap (λ (l : List ℕ). load inventory asked.granularity (numbered inventory ms) l) o
    ∙ ap (λ l. load inventory asked.granularity l (objects_of inventory asked)) (ap (numbered inventory) m ∙ numbered_asked inventory asked)
