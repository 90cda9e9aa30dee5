-- Which ticks are counted after one more entry that both of two histories have.
use Rattle.std.proofs.Common.{◌≡◌, ℕ, ◌*◌, ◌<◌, ◌≤◌, Bool, ◌&&◌, not, ltb, List, Option, Some, None, refl, sym, ap, ◌∙◌, arith}
use Rattle.pm_base.specs.Moment.{tick_of}
use Rattle.pm_history.specs.declared.entry.Side.{Side}
use Rattle.pm_history.specs.declared.entry.Entry.{Entry}
use Rattle.pm_history.specs.declared.entry.Entry.TheVariants.{Boot, Now}
use Rattle.pm_history.specs.Entry.{moment_of, Change, Made, Moved, Deleted, change_of}
use Rattle.pm_history.specs.History.{History, ◌▷◌, size, last_moment, IsHistory, MayFollow}
use Rattle.pm_history.specs.Terms.{Terms}
use Rattle.pm_history.specs.Standing.{Standing, making_of, moved, after_change, standing_after}
use Rattle.pm_history.specs.Counted.{is_counted}
use Rattle.pm_history.proofs.StayLemmas.{is_counted-stays}
use Rattle.pm_history.proofs.StepLemmas.{standing_after-now, standing_after-boot}
use Rattle.pm_history.proofs.StandingLemmas.{place-lt, is_counted-now, is_counted-boot}
use Rattle.pm_items.specs.Alike.{AreAlike}
use Rattle.pm_items.proofs.StandingLemmas.{map_some, moved-place, both-exist, place_or, uncounted}

module _ (terms : Side → List ℕ → Terms) where
  abbrev pub CountedAlike : History → History → Side → List ℕ → ℕ → Type 0
  CountedAlike g h side id t =
      (s r : Standing) → standing_after terms side g id ≡ Some s → standing_after terms side h id ≡ Some r
      → is_counted terms g (making_of side id s) t ≡ is_counted terms h (making_of side id r) t

  abbrev counted_by : History → Side → List ℕ → ℕ → ℕ → Bool
  counted_by h side id t place = is_counted terms h (record { side = side; id = id; place = place }) t

  -- of the ticks that were over
  pub old-tick : (g h : History) (e : Entry) (side : Side) (id : List ℕ) (t : ℕ) → MayFollow g e → MayFollow h e
      → tick_of (last_moment g) ≡ tick_of (last_moment h)
      → t < tick_of (last_moment g) → CountedAlike g h side id t → CountedAlike (g ▷ e) (h ▷ e) side id t
  old-tick g h e side id t fg fh tick lt alike s r is ir = by (change_of side id e) is ir
    where
      stay : (p q : ℕ) → counted_by g side id t p ≡ counted_by h side id t q
          → counted_by (g ▷ e) side id t p ≡ counted_by (h ▷ e) side id t q
      stay p q same =
          is_counted-stays terms g e _ t fg.later lt
          ∙ (same ∙ sym (is_counted-stays terms h e _ t fh.later (omega (arith, tick))))

      by : (c : Option Change) → after_change terms side (size g) (moment_of e) (standing_after terms side g id) c ≡ Some s
          → after_change terms side (size h) (moment_of e) (standing_after terms side h id) c ≡ Some r
          → counted_by (g ▷ e) side id t s.place ≡ counted_by (h ▷ e) side id t r.place
      by None is ir = stay s.place r.place (alike s r is ir)
      by (Some (Made body)) is ir =
          let ps : size g ≡ s.place = ap (λ (o : Option Standing). place_or o) is in
          let pr : size h ≡ r.place = ap (λ (o : Option Standing). place_or o) ir in
          stay s.place r.place (uncounted terms g _ t (omega (arith, ps)) ∙ sym (uncounted terms h _ t (omega (arith, pr))))
      by (Some (Moved u)) is ir =
          let a = map_some (moved (moment_of e) u) s (standing_after terms side g id) is in
          let b = map_some (moved (moment_of e) u) r (standing_after terms side h id) ir in
          let ps : a.0.place ≡ s.place = sym (moved-place (moment_of e) u a.0) ∙ ap (λ (x : Standing). x.place) a.2 in
          let pr : b.0.place ≡ r.place = sym (moved-place (moment_of e) u b.0) ∙ ap (λ (x : Standing). x.place) b.2 in
          stay s.place r.place (ap (counted_by g side id t) (sym ps) ∙ (alike a.0 b.0 a.1 b.1 ∙ ap (counted_by h side id t) pr))
      by (Some Deleted) is ir = absurd cc

  -- of the ticks that the entry ends
  pub new-tick : (g h : History) (e : Entry) (side : Side) (id : List ℕ) (t : ℕ) → IsHistory g → IsHistory h → MayFollow g e
      → AreAlike terms g h → tick_of (last_moment g) ≤ t → t < tick_of (moment_of e) → CountedAlike (g ▷ e) (h ▷ e) side id t
  new-tick g h (Now m) side id t ig ih fg alike le lt s r is ir =
      let sg = sym (standing_after-now terms side g id m) ∙ is in
      let sh = sym (standing_after-now terms side h id m) ∙ ir in
      let same = both-exist _ _ s r (alike.standing side id) sg sh in
      let cut = alike.cut t in
      let tick = alike.tick in
      is_counted-now terms side g m id s t ig sg le lt
      ∙ ((λ i. not (cut i) && (ltb (same i).changed (60 * t) && (same i).unlocked))
      ∙ sym (is_counted-now terms side h m id r t ih sh (omega (arith, tick)) lt))
  new-tick g h (Boot m) side id t ig ih fg alike le lt s r is ir =
      let pg = place-lt terms side g id s (sym (standing_after-boot terms side g id m) ∙ is) in
      let ph = place-lt terms side h id r (sym (standing_after-boot terms side h id m) ∙ ir) in
      let tick = alike.tick in
      is_counted-boot terms g m _ t (omega arith) le lt
      ∙ sym (is_counted-boot terms h m _ t (omega arith) (omega (arith, tick)) lt)
  new-tick g h _ side id t ig ih fg alike le lt s r is ir = let same = (fg.beside refl).1 in absurd (omega arith)
