-- The values of a tick, and those that are open.
use Rattle.std.proofs.Common.{◌≡◌, ℕ, ◌<◌, ◌≤◌, Bool, true, false, ◌||◌, cond, eqb, List, [], ◌++◌, refl, sym, ap, ◌∙◌, arith, le-leb}
use Rattle.std.proofs.lemmas.Bool.{ne_eqb, eq-eqb, ltb-true, or_right, and_from}
use Rattle.std.proofs.lemmas.List.{append-nil}
use Rattle.pm_base.specs.Moment.{tick_of}
use Rattle.pm_history.specs.declared.entry.Entry.TheVariants.{Boot, Now, Event}
use Rattle.pm_history.specs.Entry.{moment_of}
use Rattle.pm_history.specs.History.{History, Start, ◌▷◌, last_moment, IsHistory, first_cut, is_cut}
use Rattle.pm_history.specs.Value.{values_where}
use Rattle.pm_history.proofs.StayLemmas.{value_where-fails, value_where-same}
use Rattle.pm_items.specs.Items.{is_later, open_values}
use Rattle.pm_items.proofs.UnstoredLemmas.{not_later-le}

-- the values of one tick
abbrev pub values_in : ℕ → ℕ → History → ℕ → List ℕ
values_in o m h t = values_where o m (λ k. eqb k t) h

-- there are none after the last moment
pub values_in-past : (o m : ℕ) (h : History) (t : ℕ) → IsHistory h → tick_of (last_moment h) < t → values_in o m h t ≡ []
values_in-past o m Start t ih lt = refl
values_in-past o m (h ▷ e) t ih lt =
    let later = ih.1.later in
    let other : eqb (tick_of (moment_of e)) t ≡ false = ne_eqb _ _ (λ same. omega arith) in
    let rest = values_in-past o m h t ih.0 (omega arith) in
    let this = value_where-fails o m (λ k. eqb k t) e other in
    λ i. rest i ++ this i

first_cut-at_most : (h : History) (m : ℕ) → last_moment h ≤ m → first_cut h m ≤ tick_of m
first_cut-at_most Start m le = omega arith
first_cut-at_most (h ▷ e) m le = omega arith

pub left-false : (x y : Bool) → (x || y) ≡ false → x ≡ false
left-false true y is = is
left-false false y is = refl

pub right-false : (x y : Bool) → (x || y) ≡ false → y ≡ false
right-false true y is = absurd cc
right-false false y is = is

-- what is open is the values of the tick of the last moment, where no Boot cuts it
pub open-is : (o m : ℕ) (h : History) → IsHistory h → is_cut h (tick_of (last_moment h)) ≡ false
    → values_in o m h (tick_of (last_moment h)) ≡ open_values o m h
open-is o m Start ih whole = refl
open-is o m (h ▷ Boot k) ih whole =
    let first = first_cut-at_most h k ih.1.later in
    let cut : is_cut (h ▷ Boot k) (tick_of k) ≡ true = or_right _ _ (and_from _ _ (le-leb _ _ first) (le-leb _ _ (omega arith))) in
    absurd cc
open-is o m (h ▷ Now k) ih whole =
    by (is_later h k) refl (λ same. open-is o m h ih.0 (ap (is_cut h) (sym same) ∙ left-false _ _ whole))
  where
    none : (g : History) → IsHistory g → is_later g k ≡ true → values_in o m g (tick_of k) ≡ []
    none Start ig is = refl
    none (g ▷ e) ig is = values_in-past o m (g ▷ e) (tick_of k) ig (ltb-true _ _ is)

    by : (b : Bool) → is_later h k ≡ b
        → (tick_of k ≡ tick_of (last_moment h) → values_in o m h (tick_of (last_moment h)) ≡ open_values o m h)
        → values_in o m h (tick_of k) ++ [] ≡ cond (is_later h k) [] (open_values o m h ++ [])
    by true is rest = append-nil _ ∙ (none h ih.0 is ∙ ap (λ b. cond b [] (open_values o m h ++ [])) (sym is))
    by false is rest =
        let le = not_later-le h k is in
        let later = ih.1.later in
        let same : tick_of k ≡ tick_of (last_moment h) = omega arith in
        (λ i. values_in o m h (same i) ++ [])
        ∙ (ap (λ vs. vs ++ []) (rest same) ∙ ap (λ b. cond b [] (open_values o m h ++ [])) (sym is))
open-is o m (h ▷ Event k object metric value registered) ih whole =
    let same : tick_of k ≡ tick_of (last_moment h) = ap tick_of (ih.1.beside refl).1 in
    let rest = open-is o m h ih.0 (ap (is_cut h) (sym same) ∙ left-false _ _ whole) in
    let old : values_in o m h (tick_of k) ≡ open_values o m h = ap (values_in o m h) same ∙ rest in
    let new = value_where-same o m (λ t. eqb t (tick_of k)) (λ t. true) (Event k object metric value registered) (eq-eqb _ _ refl) in
    λ i. old i ++ new i
open-is o m (h ▷ e) ih whole =
    let same : tick_of (moment_of e) ≡ tick_of (last_moment h) = ap tick_of (ih.1.beside refl).1 in
    let rest = open-is o m h ih.0 (ap (is_cut h) (sym same) ∙ left-false _ _ whole) in
    let old : values_in o m h (tick_of (moment_of e)) ≡ open_values o m h = ap (values_in o m h) same ∙ rest in
    λ i. old i ++ []
