-- The events of the tick of the last moment, and those that are open.
use Rattle.std.proofs.Common.{◌≡◌, ℕ, ◌+◌, ◌<◌, ◌≤◌, Bool, true, false, ◌&&◌, cond, eqb, refl, sym, ap, ◌∙◌, arith, le-leb}
use Rattle.std.proofs.lemmas.Bool.{ne_eqb, eq-eqb, ltb-true, or_right, and_from}
use Rattle.pm_base.specs.Moment.{tick_of}
use Rattle.pm_history.specs.declared.entry.Entry.TheVariants.{Boot, Now, Event}
use Rattle.pm_history.specs.Entry.{moment_of}
use Rattle.pm_history.specs.History.{History, Start, ◌▷◌, last_moment, IsHistory, first_cut, is_cut}
use Rattle.pm_items.specs.Items.{is_later}
use Rattle.pm_items.proofs.OpenLemmas.{left-false}
use Rattle.pm_items.proofs.UnstoredLemmas.{not_later-le}
use Rattle.pm_batch.specs.OpenCounts.{one_if, is_event_of, open_events, events_in}

and-false : (x y : Bool) → y ≡ false → (x && y) ≡ false
and-false true y is = is
and-false false y is = refl

-- there are none after the last moment
events-past : (o m : ℕ) (h : History) (t : ℕ) → IsHistory h → tick_of (last_moment h) < t → events_in o m t h ≡ 0
events-past o m Start t ih lt = refl
events-past o m (h ▷ e) t ih lt =
    let later = ih.1.later in
    let other : eqb (tick_of (moment_of e)) t ≡ false = ne_eqb _ _ (λ same. omega arith) in
    let rest = events-past o m h t ih.0 (omega arith) in
    let this = ap one_if (and-false (is_event_of o m e) (eqb (tick_of (moment_of e)) t) other) in
    omega (arith, rest, this)

cut-at_most : (h : History) (m : ℕ) → last_moment h ≤ m → first_cut h m ≤ tick_of m
cut-at_most Start m le = omega arith
cut-at_most (h ▷ e) m le = omega arith

-- Where no Boot cuts the tick of the last moment, its events are those that are open.
pub open-in_tick : (o m : ℕ) (h : History) → IsHistory h → is_cut h (tick_of (last_moment h)) ≡ false → open_events o m h ≡ events_in o m (tick_of (last_moment h)) h
open-in_tick o m Start ih whole = refl
open-in_tick o m (h ▷ Boot k) ih whole =
    let first = cut-at_most h k ih.1.later in
    let cut : is_cut (h ▷ Boot k) (tick_of k) ≡ true = or_right _ _ (and_from _ _ (le-leb _ _ first) (le-leb _ _ (omega arith))) in
    absurd cc
open-in_tick o m (h ▷ Now k) ih whole =
    by (is_later h k) refl (λ same. open-in_tick o m h ih.0 (ap (is_cut h) (sym same) ∙ left-false _ _ whole))
  where
    none : (g : History) → IsHistory g → is_later g k ≡ true → events_in o m (tick_of k) g ≡ 0
    none Start ig is = refl
    none (g ▷ e) ig is = events-past o m (g ▷ e) (tick_of k) ig (ltb-true _ _ is)

    by : (b : Bool) → is_later h k ≡ b
        → (tick_of k ≡ tick_of (last_moment h) → open_events o m h ≡ events_in o m (tick_of (last_moment h)) h)
        → cond (is_later h k) 0 (open_events o m h + 0) ≡ events_in o m (tick_of k) h + 0
    by true is rest =
        let empty = none h ih.0 is in
        ap (λ b. cond b 0 (open_events o m h + 0)) is ∙ omega (arith, empty)
    by false is rest =
        let le = not_later-le h k is in
        let later = ih.1.later in
        let same : tick_of k ≡ tick_of (last_moment h) = omega arith in
        ap (λ b. cond b 0 (open_events o m h + 0)) is
        ∙ ap (λ n. n + 0) (rest same)
        ∙ ap (λ t. events_in o m t h + 0) (sym same)
open-in_tick o m (h ▷ Event k object metric value registered) ih whole =
    let same : tick_of k ≡ tick_of (last_moment h) = ap tick_of (ih.1.beside refl).1 in
    let rest = open-in_tick o m h ih.0 (ap (is_cut h) (sym same) ∙ left-false _ _ whole) in
    let test : Bool = eqb object o && eqb metric m in
    let own : (test && true) ≡ (test && eqb (tick_of k) (tick_of k)) = ap (λ (b : Bool). test && b) (sym (eq-eqb (tick_of k) (tick_of k) refl)) in
    ap (λ n. n + one_if test) (rest ∙ ap (λ t. events_in o m t h) (sym same))
    ∙ ap (λ (b : Bool). events_in o m (tick_of k) h + one_if b) (and-true test ∙ own)
  where
    and-true : (b : Bool) → b ≡ (b && true)
    and-true true = refl
    and-true false = refl
open-in_tick o m (h ▷ e) ih whole =
    let same : tick_of (moment_of e) ≡ tick_of (last_moment h) = ap tick_of (ih.1.beside refl).1 in
    let rest = open-in_tick o m h ih.0 (ap (is_cut h) (sym same) ∙ left-false _ _ whole) in
    ap (λ n. n + 0) (rest ∙ ap (λ t. events_in o m t h) (sym same))
