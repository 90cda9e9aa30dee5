-- Items of a side, with one more, with one less, and with another state of one.
use Rattle.std.proofs.Common.{◌≡◌, ℕ, zero, suc, ◌+◌, ◌<◌, ◌≤◌, ◌||◌, Bool, true, false, List, [], ◌∷◌, length, set, get_or, refl, sym, ap, ◌∙◌, arith, zero-add}
use Rattle.std.specs.List.{insert, remove, list_any}
use Rattle.std.specs.Str.{bytes_eq}
use Rattle.std.proofs.lemmas.List.Sums.{sum_by-append}
use Rattle.std.proofs.lemmas.Bool.Decides.{same_from_decides}
use Rattle.std.proofs.lemmas.Slice.Eq.{bytes_eq-Decides}
use Rattle.pm_history.specs.declared.entry.Side.{Side}
use Rattle.pm_jobs.specs.declared.standing.Standing.{Standing}
use Rattle.pm_jobs.specs.State.{ids, load_of, AreApart, IsItem, AreItems, IsSide}
use Rattle.pm_jobs.specs.Plan.{with_state, moved_at}

-- ---- another state

pub ids-moved_at : (moment : ℕ) (unlocked : Bool) (place : ℕ) (items : List Standing) → ids (moved_at moment unlocked place items) ≡ ids items
ids-moved_at moment unlocked place [] = refl
ids-moved_at moment unlocked zero (s ∷ ss) = refl
ids-moved_at moment unlocked (suc place) (s ∷ ss) = ap (λ l. s.id ∷ l) (ids-moved_at moment unlocked place ss)

pub each-moved_at : (side : Side) (moment : ℕ) (unlocked : Bool) (place : ℕ) (items : List Standing) → AreItems side items → AreItems side (moved_at moment unlocked place items)
each-moved_at side moment unlocked place [] all = all
each-moved_at side moment unlocked zero (s ∷ ss) all = all
each-moved_at side moment unlocked (suc place) (s ∷ ss) all = (all.0, each-moved_at side moment unlocked place ss all.1)

pub side-moved_at : (side : Side) (moment : ℕ) (unlocked : Bool) (place : ℕ) (items : List Standing) → IsSide side items → IsSide side (moved_at moment unlocked place items)
side-moved_at side moment unlocked place items is = record {
  apart = rw (ids-moved_at moment unlocked place items) is.apart;
  each = each-moved_at side moment unlocked place items is.each;
}

pub set-moved_at : (moment : ℕ) (unlocked : Bool) (place : ℕ) (items : List Standing) (d : Standing) → place < length items
    → set items place (with_state moment unlocked (get_or items place d)) ≡ moved_at moment unlocked place items
set-moved_at moment unlocked place [] d lt = absurd (omega arith)
set-moved_at moment unlocked zero (s ∷ ss) d lt = refl
set-moved_at moment unlocked (suc place) (s ∷ ss) d lt = ap (λ l. s ∷ l) (set-moved_at moment unlocked place ss d (omega (arith, lt)))

-- ---- one more

pub ids-insert : (items : List Standing) (place : ℕ) (s : Standing) → ids (insert items place s) ≡ insert (ids items) place s.id
ids-insert items zero s = refl
ids-insert [] (suc place) s = refl
ids-insert (t ∷ ts) (suc place) s = ap (λ l. t.id ∷ l) (ids-insert ts place s)

pub each-insert : (side : Side) (items : List Standing) (place : ℕ) (s : Standing) → AreItems side items → IsItem side s → AreItems side (insert items place s)
each-insert side items zero s all own = (own, all)
each-insert side [] (suc place) s all own = (own, all)
each-insert side (t ∷ ts) (suc place) s all own = (all.0, each-insert side ts place s all.1 own)

load-cons : (s : Standing) (ss : List Standing) → load_of (s ∷ ss) ≡ s.load + load_of ss
load-cons s ss = sum_by-append (λ (t : Standing). t.load) (s ∷ []) ss ∙ ap (λ n. n + load_of ss) (zero-add s.load)

pub load-moved_at : (moment : ℕ) (unlocked : Bool) (place : ℕ) (items : List Standing) → load_of (moved_at moment unlocked place items) ≡ load_of items
load-moved_at moment unlocked place [] = refl
load-moved_at moment unlocked zero (s ∷ ss) = load-cons (with_state moment unlocked s) ss ∙ sym (load-cons s ss)
load-moved_at moment unlocked (suc place) (s ∷ ss) =
    load-cons s (moved_at moment unlocked place ss) ∙ ap (λ n. s.load + n) (load-moved_at moment unlocked place ss) ∙ sym (load-cons s ss)

pub load-insert : (items : List Standing) (place : ℕ) (s : Standing) → load_of (insert items place s) ≡ s.load + load_of items
load-insert items zero s = load-cons s items
load-insert [] (suc place) s = load-cons s []
load-insert (t ∷ ts) (suc place) s =
    let one = load-cons t (insert ts place s) in
    let two = load-insert ts place s in
    let three = load-cons t ts in
    omega (arith, one, two, three)

pub load-remove : (items : List Standing) (place : ℕ) → load_of (remove items place) ≤ load_of items
load-remove [] zero = omega arith
load-remove [] (suc place) = omega arith
load-remove (t ∷ ts) zero = let three = load-cons t ts in omega (arith, three)
load-remove (t ∷ ts) (suc place) =
    let one = load-cons t (remove ts place) in
    let two = load-remove ts place in
    let three = load-cons t ts in
    omega (arith, one, two, three)

pub each-remove : (side : Side) (items : List Standing) (place : ℕ) → AreItems side items → AreItems side (remove items place)
each-remove side [] zero all = all
each-remove side [] (suc place) all = all
each-remove side (t ∷ ts) zero all = all.1
each-remove side (t ∷ ts) (suc place) all = (all.0, each-remove side ts place all.1)

pub ids-remove : (items : List Standing) (place : ℕ) → ids (remove items place) ≡ remove (ids items) place
ids-remove [] zero = refl
ids-remove [] (suc place) = refl
ids-remove (t ∷ ts) zero = refl
ids-remove (t ∷ ts) (suc place) = ap (λ l. t.id ∷ l) (ids-remove ts place)

-- ---- ids that differ

pub or_false : (a b : Bool) → a ≡ false → b ≡ false → (a || b) ≡ false
or_false a b first second = rw (first, second) refl

pub neither : (a b : Bool) → (a || b) ≡ false → (a ≡ false) × (b ≡ false)
neither true b h = cc
neither false b h = (refl, h)

pub sym_eq : (a b : List ℕ) → bytes_eq a b ≡ bytes_eq b a
sym_eq a b = same_from_decides (bytes_eq a b) (bytes_eq b a) (bytes_eq-Decides a b)
    ((λ h. sym ((bytes_eq-Decides b a).0 h)), (λ h. (bytes_eq-Decides b a).1 (sym h)))

any-insert : (j : List ℕ) (is : List (List ℕ)) (place : ℕ) (i : List ℕ) → bytes_eq j i ≡ false → list_any (bytes_eq j) is ≡ false
    → list_any (bytes_eq j) (insert is place i) ≡ false
any-insert j is zero i own none = or_false (bytes_eq j i) _ own none
any-insert j [] (suc place) i own none = or_false (bytes_eq j i) _ own none
any-insert j (k ∷ ks) (suc place) i own none =
    let both = neither (bytes_eq j k) (list_any (bytes_eq j) ks) none in
    or_false (bytes_eq j k) _ both.0 (any-insert j ks place i own both.1)

pub apart-insert : (is : List (List ℕ)) (place : ℕ) (i : List ℕ) → AreApart is → list_any (bytes_eq i) is ≡ false → AreApart (insert is place i)
apart-insert is zero i all fresh = (fresh, all)
apart-insert [] (suc place) i all fresh = (refl, all)
apart-insert (k ∷ ks) (suc place) i all fresh =
    let both = neither (bytes_eq i k) (list_any (bytes_eq i) ks) fresh in
    (any-insert k ks place i (sym_eq k i ∙ both.0) all.0, apart-insert ks place i all.1 both.1)

any-remove : (j : List ℕ) (is : List (List ℕ)) (place : ℕ) → list_any (bytes_eq j) is ≡ false → list_any (bytes_eq j) (remove is place) ≡ false
any-remove j [] zero none = none
any-remove j [] (suc place) none = none
any-remove j (k ∷ ks) zero none = (neither (bytes_eq j k) _ none).1
any-remove j (k ∷ ks) (suc place) none =
    let both = neither (bytes_eq j k) (list_any (bytes_eq j) ks) none in
    or_false (bytes_eq j k) _ both.0 (any-remove j ks place both.1)

pub apart-remove : (is : List (List ℕ)) (place : ℕ) → AreApart is → AreApart (remove is place)
apart-remove [] zero all = all
apart-remove [] (suc place) all = all
apart-remove (k ∷ ks) zero all = all.1
apart-remove (k ∷ ks) (suc place) all = (any-remove k ks place all.0, apart-remove ks place all.1)

pub side-insert : (side : Side) (items : List Standing) (place : ℕ) (s : Standing) → IsSide side items → list_any (bytes_eq s.id) (ids items) ≡ false
    → IsItem side s → IsSide side (insert items place s)
side-insert side items place s is fresh own = record {
  apart = rw (ids-insert items place s) (apart-insert (ids items) place s.id is.apart fresh);
  each = each-insert side items place s is.each own;
}

pub side-remove : (side : Side) (items : List Standing) (place : ℕ) → IsSide side items → IsSide side (remove items place)
side-remove side items place is = record {
  apart = rw (ids-remove items place) (apart-remove (ids items) place is.apart);
  each = each-remove side items place is.each;
}
