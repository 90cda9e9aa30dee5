-- How a job or a monitor came to stand, and which of the ticks that end with an entry are counted for it.
use Rattle.std.proofs.Common.{◌≡◌, ℕ, ◌*◌, ◌<◌, ◌≤◌, Bool, true, false, ◌&&◌, ◌||◌, not, ltb, eqb, List, Option, Some, None, refl, sym, ap, ◌∙◌, arith, inl, inr, lt-ltb, le-ltb, le-leb}
use Rattle.std.proofs.lemmas.Bool.{cond-true, ne_eqb, eq-eqb, and_left, and_right, eqb-true, cases_lt, or_from, or_right, not_from_true, and_from}
use Rattle.std.specs.Option.{option_map, is_some}
use Rattle.pm_base.specs.Moment.{tick_of}
use Rattle.pm_history.specs.declared.entry.Side.{Side}
use Rattle.pm_history.specs.declared.entry.Side.TheVariants.{Job, Monitor}
use Rattle.pm_history.specs.declared.entry.Entry.{Entry}
use Rattle.pm_history.specs.declared.entry.Entry.TheVariants.{Boot, Now}
use Rattle.pm_history.specs.Entry.{moment_of, Change, Made, Moved, Deleted, change_of}
use Rattle.pm_history.specs.History.{History, Start, ◌▷◌, size, last_moment, IsHistory, before, is_over, is_cut}
use Rattle.pm_history.specs.Terms.{Terms}
use Rattle.pm_history.specs.Standing.{Making, Standing, making_of, moved, stands, runs, after_change, standing_next, standing_after}
use Rattle.pm_history.specs.Counted.{is_on, is_touched, is_counted}
use Rattle.pm_history.proofs.TickLemmas.{or_false}
use Rattle.pm_history.proofs.HistoryLemmas.{before-stays}

-- How it came to stand after an entry: it stood, and the entry is not under its id; or the entry made it; or it stood, and the entry
-- changed its state.
pub data Came (side : Side) (id : List ℕ) (place : ℕ) (old : Option Standing) (e : Entry) (s : Standing) : Type 0 where
  Kept : is_some (change_of side id e) ≡ false → old ≡ Some s → Came side id place old e s
  New : is_some (change_of side id e) ≡ true → s.place ≡ place → s.changed ≡ moment_of e → s.armed ≡ moment_of e → change_of side id e ≡ Some (Made s.body) → Came side id place old e s
  Changed : (was : Standing) → is_some (change_of side id e) ≡ true → old ≡ Some was → s.place ≡ was.place → s.body ≡ was.body → s.changed ≡ moment_of e → Came side id place old e s

map_some : {A : Type 0} (f : A → A) (y : A) (o : Option A) → option_map f o ≡ Some y → (x : A) × (o ≡ Some x) × (f x ≡ y)
map_some f y None h = absurd cc
map_some f y (Some x) h = (x, refl, cc)

moved-place : (moment : ℕ) (unlocked : Bool) (s : Standing) → (moved moment unlocked s).place ≡ s.place
moved-place moment true s = refl
moved-place moment false s = refl

moved-body : (moment : ℕ) (unlocked : Bool) (s : Standing) → (moved moment unlocked s).body ≡ s.body
moved-body moment true s = refl
moved-body moment false s = refl

moved-changed : (moment : ℕ) (unlocked : Bool) (s : Standing) → (moved moment unlocked s).changed ≡ moment
moved-changed moment true s = refl
moved-changed moment false s = refl

some-is : (s t : Standing) → Some s ≡ Some t → s ≡ t
some-is s t h = cc

or_implied : (x y : Bool) → (x ≡ true → y ≡ true) → (x || y) ≡ y
or_implied true y f = sym (f refl)
or_implied false y f = refl

and_true : (x y : Bool) → y ≡ true → (x && y) ≡ x
and_true true y h = h
and_true false y h = refl

stands-not : (place : ℕ) (o : Option Standing) → ((s : Standing) → o ≡ Some s → s.place ≡ place → ⊥) → stands place o ≡ false
stands-not place None f = refl
stands-not place (Some s) f = ne_eqb s.place place (f s refl)

stands-same : (o : Option Standing) (s : Standing) (place : ℕ) → o ≡ Some s → s.place ≡ place → stands place o ≡ true
stands-same None s place is same = absurd cc
stands-same (Some t) s place is same = let e = some-is t s is in eq-eqb t.place place (ap (λ (x : Standing). x.place) e ∙ same)

change_of-now : (side : Side) (id : List ℕ) (m : ℕ) → is_some (change_of side id (Now m)) ≡ false
change_of-now Job id m = refl
change_of-now Monitor id m = refl

module _ (terms : Side → List ℕ → Terms) where
  pub came : (side : Side) (id : List ℕ) (place : ℕ) (old : Option Standing) (e : Entry) (s : Standing)
      → standing_next terms side id place old e ≡ Some s → Came side id place old e s
  came side id place old e s h = by (change_of side id e) refl h
    where
      by : (c : Option Change) → change_of side id e ≡ c → after_change terms side place (moment_of e) old c ≡ Some s → Came side id place old e s
      by None is k = Kept (ap is_some is) k
      by (Some (Made body)) is k =
          let same = sym (some-is _ s k) in
          New (ap is_some is) (ap (λ (x : Standing). x.place) same) (ap (λ (x : Standing). x.changed) same) (ap (λ (x : Standing). x.armed) same)
          (is ∙ ap (λ (x : Standing). Some (Made x.body)) (sym same))
      by (Some (Moved unlocked)) is k =
          let p = map_some (moved (moment_of e) unlocked) s old k in
          let same = sym p.2 in
          Changed p.0 (ap is_some is) p.1
          (ap (λ (x : Standing). x.place) same ∙ moved-place (moment_of e) unlocked p.0)
          (ap (λ (x : Standing). x.body) same ∙ moved-body (moment_of e) unlocked p.0)
          (ap (λ (x : Standing). x.changed) same ∙ moved-changed (moment_of e) unlocked p.0)
      by (Some Deleted) is k = absurd cc

  -- the last entry on what stands is no later than the last entry
  pub changed-le : (side : Side) (h : History) (id : List ℕ) (s : Standing) → IsHistory h → standing_after terms side h id ≡ Some s → s.changed ≤ last_moment h
  changed-le side Start id s is after = absurd cc
  changed-le side (h ▷ e) id s is after =
      elim (came side id (size h) (standing_after terms side h id) e s after) [
        | Kept u old ↦ let le = changed-le side h id s is.0 old in let later = is.1.later in omega arith
        | New u p c a b ↦ omega arith
        | Changed was u old p b c ↦ omega arith
      ]

  -- what stands was made by an entry of the history
  pub place-lt : (side : Side) (h : History) (id : List ℕ) (s : Standing) → standing_after terms side h id ≡ Some s → s.place < size h
  place-lt side Start id s after = absurd cc
  place-lt side (h ▷ e) id s after =
      elim (came side id (size h) (standing_after terms side h id) e s after) [
        | Kept u old ↦ let lt = place-lt side h id s old in omega arith
        | New u p c a b ↦ omega arith
        | Changed was u old p b c ↦ let lt = place-lt side h id was old in omega arith
      ]

  unmade : (side : Side) (h : History) (id : List ℕ) (place : ℕ) → size h ≤ place → stands place (standing_after terms side h id) ≡ false
  unmade side h id place le = stands-not place (standing_after terms side h id) (λ s is same. let lt = place-lt side h id s is in omega arith)

  is_on-unmade : (h : History) (e : Entry) (w : Making) → size (h ▷ e) ≤ w.place → is_on terms w h e ≡ false
  is_on-unmade h e w le =
      and_right (is_some (change_of w.side w.id e)) _ (or_from _ _ (unmade w.side h w.id w.place (omega arith)) (unmade w.side (h ▷ e) w.id w.place le))

  -- no entry is on what is made later
  pub is_touched-unmade : (h : History) (w : Making) (t : ℕ) → size h ≤ w.place → is_touched terms h w t ≡ false
  is_touched-unmade Start w t le = refl
  is_touched-unmade (h ▷ e) w t le =
      or_from (is_touched terms h w t) _ (is_touched-unmade h w t (omega arith)) (and_right _ _ (is_on-unmade h e w le))

  -- of the ticks that are not over, an entry on what stands is in the tick of its last entry alone
  pub is_touched-standing : (side : Side) (h : History) (id : List ℕ) (s : Standing) (t : ℕ) → IsHistory h → standing_after terms side h id ≡ Some s → tick_of (last_moment h) ≤ t
      → is_touched terms h (making_of side id s) t ≡ eqb (tick_of s.changed) t
  is_touched-standing side Start id s t is after le = absurd cc
  is_touched-standing side (h ▷ e) id s t is after le =
      let later = is.1.later in
      let w = making_of side id s in
      let here : Bool = eqb (tick_of (moment_of e)) t in
      elim (came side id (size h) (standing_after terms side h id) e s after) [
        | Kept u old ↦
            let off : is_on terms w h e ≡ false = and_left _ _ u in
            or_false _ _ (and_right here _ off) ∙ is_touched-standing side h id s t is.0 old (omega arith)
        | New u p c a b ↦
            let off = is_touched-unmade h w t (omega arith) in
            let on : is_on terms w h e ≡ true = and_from _ _ u (or_right _ _ (stands-same _ s s.place after refl)) in
            ap (λ b. b || (here && is_on terms w h e)) off ∙ (and_true here _ on ∙ ap (λ n. eqb (tick_of n) t) (sym c))
        | Changed was u old p b c ↦
            let on : is_on terms w h e ≡ true = and_from _ _ u (or_right _ _ (stands-same _ s s.place after refl)) in
            let rest : is_touched terms h w t ≡ eqb (tick_of was.changed) t =
            ap (λ k. is_touched terms h (record { side = side; id = id; place = k }) t) p ∙ is_touched-standing side h id was t is.0 old (omega arith) in
            let earlier = changed-le side h id was is.0 old in
            ap (λ b. b || (here && is_on terms w h e)) rest
            ∙ (ap (λ b. eqb (tick_of was.changed) t || b) (and_true here _ on)
            ∙ (or_implied _ here (λ holds. let at = eqb-true _ _ holds in eq-eqb _ _ (omega arith)) ∙ ap (λ n. eqb (tick_of n) t) (sym c)))
      ]

  -- what was not changed since stood already, as it is
  pub standing_after-before : (side : Side) (h : History) (id : List ℕ) (s : Standing) (m : ℕ) → standing_after terms side h id ≡ Some s → s.changed < m
      → standing_after terms side (before m h) id ≡ Some s
  standing_after-before side Start id s m after lt = after
  standing_after-before side (h ▷ e) id s m after lt =
      elim (cases_lt (moment_of e) m) [
        | inl earlier ↦ ap (λ g. standing_after terms side g id) (cond-true _ (h ▷ e) (before m h) (lt-ltb _ _ earlier)) ∙ after
        | inr later ↦
            ap (λ g. standing_after terms side g id) (before-stays h e m later)
            ∙ elim (came side id (size h) (standing_after terms side h id) e s after) [
              | Kept u old ↦ standing_after-before side h id s m old lt
              | New u p c a b ↦ absurd (omega arith)
              | Changed was u old p b c ↦ absurd (omega arith)
            ]
      ]

  right_true : (x y : Bool) → (true && x && y && true) ≡ (x && y)
  right_true true true = refl
  right_true true false = refl
  right_true false y = refl

  both_false : (x y : Bool) → (true && x && y && false) ≡ (x && false)
  both_false true true = refl
  both_false true false = refl
  both_false false y = refl

  -- a tick that ends with a Now is counted for what stands exactly where no Boot cuts it, and it was UNLOCKED before the tick and not
  -- changed since
  pub is_counted-now : (side : Side) (h : History) (m : ℕ) (id : List ℕ) (s : Standing) (t : ℕ)
      → IsHistory h → standing_after terms side h id ≡ Some s → tick_of (last_moment h) ≤ t → t < tick_of m
      → is_counted terms (h ▷ Now m) (making_of side id s) t ≡ (not (is_cut h t) && (ltb s.changed (60 * t) && s.unlocked))
  is_counted-now side h m id s t is after open_from lt =
      let w = making_of side id s in
      let over : is_over (h ▷ Now m) t ≡ true = lt-ltb t (tick_of m) lt in
      let cut : is_cut (h ▷ Now m) t ≡ is_cut h t = or_false (is_cut h t) false refl in
      let begun : before (60 * t) (h ▷ Now m) ≡ before (60 * t) h = before-stays h (Now m) (60 * t) (omega arith) in
      let touched : is_touched terms (h ▷ Now m) w t ≡ eqb (tick_of s.changed) t =
      or_false (is_touched terms h w t) _ (and_right (eqb (tick_of m) t) (is_on terms w h (Now m)) (and_left _ _ (change_of-now side id m))) ∙ is_touched-standing side h id s t is after open_from in
      (λ i. over i && not (cut i) && runs s.place (standing_after terms side (begun i) id) && not (touched i))
      ∙ elim (cases_lt s.changed (60 * t)) [
        | inl early ↦
            let old = standing_after-before side h id s (60 * t) after early in
            let not_here : eqb (tick_of s.changed) t ≡ false = ne_eqb _ _ (λ same. omega arith) in
            let early_test : ltb s.changed (60 * t) ≡ true = lt-ltb _ _ early in
            let itself : eqb s.place s.place ≡ true = eq-eqb _ _ refl in
            rw (old, not_here, early_test, itself) (right_true (not (is_cut h t)) s.unlocked)
        | inr late ↦
            let le = changed-le side h id s is after in
            let here : eqb (tick_of s.changed) t ≡ true = eq-eqb _ _ (omega arith) in
            let late_test : ltb s.changed (60 * t) ≡ false = le-ltb _ _ late in
            rw (here, late_test) (both_false (not (is_cut h t)) _)
      ]

  -- none of the ticks that end with a Boot is counted
  pub is_counted-boot : (h : History) (m : ℕ) (w : Making) (t : ℕ) → 0 < size h → tick_of (last_moment h) ≤ t → t < tick_of m
      → is_counted terms (h ▷ Boot m) w t ≡ false
  is_counted-boot Start m w t some from lt = absurd (omega arith)
  is_counted-boot (h ▷ e) m w t some from lt =
      let cut : is_cut (h ▷ e ▷ Boot m) t ≡ true = or_right _ _ (and_from _ _ (le-leb _ _ from) (le-leb _ _ (omega arith))) in
      let gone : not (is_cut (h ▷ e ▷ Boot m) t) ≡ false = not_from_true _ cut in
      and_left _ _ (and_left _ _ (and_right _ _ gone))
