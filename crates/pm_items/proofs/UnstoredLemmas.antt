-- Entries without an item: what they are, and that they change nothing of what a replay keeps.
use Rattle.std.proofs.Common.{eqb, ◌++◌, ◌<◌, ◌≡◌, ℕ, ◌≤◌, Bool, true, false, cond, List, [], ◌∷◌, Some, None, refl, ap, ◌∙◌, arith, inl, inr, lt-ltb}
use Rattle.std.proofs.lemmas.Bool.{cases_lt, ne_eqb}
use Rattle.std.proofs.lemmas.List.{append-nil}
use Rattle.pm_base.specs.Moment.{tick_of}
use Rattle.pm_history.specs.declared.entry.Side.{Side}
use Rattle.pm_history.specs.declared.entry.Entry.{Entry}
use Rattle.pm_history.specs.declared.entry.Entry.TheVariants.{Now, Event}
use Rattle.pm_history.specs.Entry.{moment_of}
use Rattle.pm_history.specs.History.{History, Start, ◌▷◌, grown, last_moment, is_cut}
use Rattle.pm_history.specs.Terms.{Terms}
use Rattle.pm_history.proofs.TickLemmas.{or_false}
use Rattle.pm_history.proofs.StayLemmas.{is_counted-stays, value_where-fails}
use Rattle.pm_history.specs.Value.{values_where}
use Rattle.pm_history.proofs.StepLemmas.{ids_after-now, ids_after-event, standing_after-now, standing_after-event, files_of-same_tick, notices_of-same_tick}
use Rattle.pm_items.specs.Items.{Item, is_later}
use Rattle.pm_items.specs.Unstored.{IsUnstored, AreUnstored, is_now_or_event, ChangesNothing}
use Rattle.pm_items.specs.Alike.{is_begun}

-- the choice was for nothing
none-chosen : (b : Bool) (x : Item) → cond b (Some x) None ≡ None → b ≡ false
none-chosen true x h = absurd cc
none-chosen false x h = refl

pub not_later-le : (h : History) (m : ℕ) → is_later h m ≡ false → tick_of m ≤ tick_of (last_moment h)
not_later-le Start m is = absurd cc
not_later-le (h ▷ e) m is =
    elim (cases_lt (tick_of (moment_of e)) (tick_of m)) [
      | inl lt ↦ let yes = lt-ltb _ _ lt in absurd cc
      | inr le ↦ le
    ]

pub unstored_in_tick : (h : History) (e : Entry) → IsUnstored h e
    → (is_now_or_event e ≡ true) × (tick_of (moment_of e) ≡ tick_of (last_moment h))
unstored_in_tick h (Now m) q =
    let le = not_later-le h m (none-chosen _ _ q.without) in
    let later = q.follows.later in
    (refl, omega arith)
unstored_in_tick h (Event m object metric value registered) q = (refl, ap tick_of (q.follows.beside refl).1)
unstored_in_tick h _ q = let no = q.without in absurd cc

-- an entry of a later tick adds no value to a tick
pub values_in-other : (o m : ℕ) (h : History) (e : Entry) (t : ℕ) → t < tick_of (moment_of e)
    → values_where o m (λ k. eqb k t) (h ▷ e) ≡ values_where o m (λ k. eqb k t) h
values_in-other o m h e t lt =
    let other : eqb (tick_of (moment_of e)) t ≡ false = ne_eqb _ _ (λ same. omega arith) in
    ap (λ vs. values_where o m (λ k. eqb k t) h ++ vs) (value_where-fails o m (λ k. eqb k t) e other)
    ∙ append-nil (values_where o m (λ k. eqb k t) h)

module _ (terms : Side → List ℕ → Terms) where
  unchanged-itself : (h : History) → ChangesNothing terms h h
  unchanged-itself h = record {
    tick = refl;
    ids = λ side. refl;
    standing = λ side id. refl;
    cut = λ t. refl;
    values = λ o m t lt. refl;
    counted = λ w t lt. refl;
    files = refl;
    notices = refl;
  }

  unchanged-on : (f g h : History) → ChangesNothing terms f g → ChangesNothing terms g h → ChangesNothing terms f h
  unchanged-on f g h a b = record {
    tick = b.tick ∙ a.tick;
    ids = λ side. b.ids side ∙ a.ids side;
    standing = λ side id. b.standing side id ∙ a.standing side id;
    cut = λ t. b.cut t ∙ a.cut t;
    values = λ o m t lt. let same = a.tick in b.values o m t (omega (arith, same)) ∙ a.values o m t lt;
    counted = λ w t lt. let same = a.tick in b.counted w t (omega (arith, same)) ∙ a.counted w t lt;
    files = b.files ∙ a.files;
    notices = b.notices ∙ a.notices;
  }

  pub unchanged-one : (h : History) (e : Entry) → IsUnstored h e → ChangesNothing terms h (h ▷ e)
  unchanged-one h (Now m) q =
      let later = q.follows.later in
      let same = (unstored_in_tick h (Now m) q).1 in
      record {
        tick = same;
        ids = λ side. ids_after-now side h m;
        standing = λ side id. standing_after-now terms side h id m;
        cut = λ t. or_false (is_cut h t) false refl;
        values = λ o k t lt. values_in-other o k h (Now m) t (omega arith);
        counted = λ w t lt. is_counted-stays terms h (Now m) w t later lt;
        files = files_of-same_tick terms h (Now m) later same;
        notices = notices_of-same_tick terms h (Now m) later same;
      }
  unchanged-one h (Event m object metric value registered) q =
      let later = q.follows.later in
      let same = (unstored_in_tick h (Event m object metric value registered) q).1 in
      record {
        tick = same;
        ids = λ side. ids_after-event side h m object metric value registered;
        standing = λ side id. standing_after-event terms side h id m object metric value registered;
        cut = λ t. or_false (is_cut h t) false refl;
        values = λ o k t lt. values_in-other o k h (Event m object metric value registered) t (omega arith);
        counted = λ w t lt. is_counted-stays terms h (Event m object metric value registered) w t later lt;
        files = files_of-same_tick terms h (Event m object metric value registered) later same;
        notices = notices_of-same_tick terms h (Event m object metric value registered) later same;
      }
  unchanged-one h _ q = let no = q.without in absurd cc

  unchanged-many : (h : History) (more : List Entry) → AreUnstored h more → ChangesNothing terms h (grown h more)
  unchanged-many h [] q = unchanged-itself h
  unchanged-many h (e ∷ es) q = unchanged-on h (h ▷ e) (grown (h ▷ e) es) (unchanged-one h e q.0) (unchanged-many (h ▷ e) es q.1)

pub unstored_changes_nothing : (terms : Side → List ℕ → Terms) (h : History) (more : List Entry) → AreUnstored h more
    → ChangesNothing terms h (grown h more)
unstored_changes_nothing terms h more q = unchanged-many terms h more q

-- such an entry is never the first
pub unstored-begun : (h : History) (e : Entry) → IsUnstored h e → is_begun h ≡ true
unstored-begun (h ▷ d) e q = refl
unstored-begun Start (Now m) q = let no = q.without in absurd cc
unstored-begun Start (Event m object metric value registered) q = let some = (q.follows.beside refl).0 in absurd (omega arith)
unstored-begun Start _ q = let no = q.without in absurd cc
