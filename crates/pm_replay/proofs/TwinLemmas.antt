-- A history with the same items, whose open tick has no registered event.
use Rattle.std.proofs.Common.{◌≡◌, ℕ, ◌+◌, ◌<◌, ◌≤◌, ◌&&◌, Bool, true, false, cond, eqb, ltb, List, [], ◌∷◌, ◌++◌, Some, None, refl, sym, ap, ◌∙◌, subst, arith}
use Rattle.std.specs.Option.{option_to_list}
use Rattle.pm_base.specs.Moment.{IsMoment, tick_of}
use Rattle.pm_meas.specs.declared.cell.TheConstants.{MAX_VALUE}
use Rattle.pm_history.specs.declared.entry.Entry.{Entry}
use Rattle.pm_history.specs.declared.entry.Entry.TheVariants.{Boot, Now, Event}
use Rattle.pm_history.specs.Entry.{moment_of, value_of, is_opening}
use Rattle.pm_history.specs.History.{History, Start, ◌▷◌, size, last_moment, IsHistory}
use Rattle.pm_history.specs.Value.{value_where}
use Rattle.pm_items.specs.Items.{Booked, is_later, ends_tick, open_values, open_cells, item_of, items_of}

-- an event, as one that isn't registered
abbrev quiet : Entry → Entry
quiet (Event moment object metric value registered) = Event moment object metric value false
quiet e = e

-- the history, without the registered events since the last entry that ended what was open
abbrev muted : History → History
muted Start = Start
muted (h ▷ e) = cond (ends_tick h e) (h ▷ e) (muted h ▷ quiet e)

quiet-moment : (e : Entry) → moment_of (quiet e) ≡ moment_of e
quiet-moment (Event moment object metric value registered) = refl
quiet-moment e = refl

quiet-value : (e : Entry) → value_of (quiet e) ≡ value_of e
quiet-value (Event moment object metric value registered) = refl
quiet-value e = refl

quiet-opening : (e : Entry) → is_opening (quiet e) ≡ is_opening e
quiet-opening (Event moment object metric value registered) = refl
quiet-opening e = refl

muted-last : (h : History) → last_moment (muted h) ≡ last_moment h
muted-last Start = refl
muted-last (h ▷ e) = by (ends_tick h e)
  where
    by : (b : Bool) → last_moment (cond b (h ▷ e) (muted h ▷ quiet e)) ≡ moment_of e
    by true = refl
    by false = quiet-moment e

muted-some : (h : History) → 0 < size h → 0 < size (muted h)
muted-some Start some = some
muted-some (h ▷ e) some = by (ends_tick h e)
  where
    by : (b : Bool) → 0 < size (cond b (h ▷ e) (muted h ▷ quiet e))
    by true = omega arith
    by false = omega arith

muted-history : (h : History) → IsHistory h → IsHistory (muted h)
muted-history Start is = tt
muted-history (h ▷ e) is = by (ends_tick h e) (muted-history h is.0)
  where
    by : (b : Bool) → IsHistory (muted h) → IsHistory (cond b (h ▷ e) (muted h ▷ quiet e))
    by true rest = is
    by false rest =
        let at = quiet-moment e in
        let last = muted-last h in
        let value = quiet-value e in (
          rest,
          record {
            moment = subst IsMoment (sym at) is.1.moment;
            value = subst (λ v. v ≤ MAX_VALUE) (sym value) is.1.value;
            later = omega (arith, at, last, is.1.later);
            beside = λ other.
                let beside = is.1.beside (sym (quiet-opening e) ∙ other) in
                (muted-some h beside.0, at ∙ (beside.1 ∙ sym last));
          },
        )

later-same : (h : History) (m : ℕ) → is_later (muted h) m ≡ is_later h m
later-same Start m = refl
later-same (h ▷ e) m = by (ends_tick h e)
  where
    by : (b : Bool) → is_later (cond b (h ▷ e) (muted h ▷ quiet e)) m ≡ ltb (tick_of (moment_of e)) (tick_of m)
    by true = refl
    by false = ap (λ n. ltb (tick_of n) (tick_of m)) (quiet-moment e)

quiet-item : (h : History) (e : Entry) → ends_tick h e ≡ false → item_of (muted h) (quiet e) ≡ item_of h e
quiet-item h (Boot m) goes_on = absurd (cc (goes_on))
quiet-item h (Now m) goes_on =
    ap (λ b. cond b (Some (Booked m (tick_of (last_moment (muted h))) (open_cells (muted h)))) None) (later-same h m ∙ goes_on)
    ∙ sym (ap (λ b. cond b (Some (Booked m (tick_of (last_moment h)) (open_cells h))) None) goes_on)
quiet-item h (Event moment object metric value registered) goes_on = refl
quiet-item h e goes_on = refl

muted-items : (h : History) → items_of (muted h) ≡ items_of h
muted-items Start = refl
muted-items (h ▷ e) = by (ends_tick h e) refl (muted-items h)
  where
    by : (b : Bool) → ends_tick h e ≡ b → items_of (muted h) ≡ items_of h → items_of (cond b (h ▷ e) (muted h ▷ quiet e)) ≡ items_of (h ▷ e)
    by true is rest = refl
    by false is rest = let item = quiet-item h e is in λ i. rest i ++ option_to_list (item i)

unregistered : (a b c : Bool) (value : ℕ) → cond (a && b && false && c) (value ∷ []) [] ≡ []
unregistered true true c value = refl
unregistered true false c value = refl
unregistered false b c value = refl

quiet-none : (object metric : ℕ) (e : Entry) → value_where object metric (λ tick. true) (quiet e) ≡ []
quiet-none object metric (Event moment o m value registered) = unregistered (eqb o object) (eqb m metric) true value
quiet-none object metric e = refl

none-either : (b : Bool) (values : List ℕ) → values ≡ [] → cond b [] values ≡ []
none-either true values none = refl
none-either false values none = none

muted-silent : (object metric : ℕ) (h : History) → open_values object metric (muted h) ≡ []
muted-silent object metric Start = refl
muted-silent object metric (h ▷ e) = by (ends_tick h e) refl (muted-silent object metric h)
  where
    by : (b : Bool) → ends_tick h e ≡ b → open_values object metric (muted h) ≡ [] → open_values object metric (cond b (h ▷ e) (muted h ▷ quiet e)) ≡ []
    by true is rest = ap (λ b. cond b [] (open_values object metric h ++ value_where object metric (λ tick. true) e)) is
    by false is rest =
        let none = quiet-none object metric e in
        let both : open_values object metric (muted h) ++ value_where object metric (λ tick. true) (quiet e) ≡ [] = λ i. rest i ++ none i in
        none-either (ends_tick (muted h) (quiet e)) _ both

-- A history with the same items and the same last moment, and no registered event in its open tick.
pub record HasTwin (h : History) : Type 0 where
  pub twin : History
  pub history : IsHistory twin
  pub begun : 0 < size h → 0 < size twin
  pub last : last_moment twin ≡ last_moment h
  pub items : items_of twin ≡ items_of h
  pub silent : (object metric : ℕ) → open_values object metric twin ≡ []

pub twin_of : (h : History) → IsHistory h → HasTwin h
twin_of h is = record {
  twin = muted h;
  history = muted-history h is;
  begun = muted-some h;
  last = muted-last h;
  items = muted-items h;
  silent = λ object metric. muted-silent object metric h;
}
