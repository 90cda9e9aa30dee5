-- Two histories with the same items.
use Rattle.std.proofs.Common.{◌≡◌, ℕ, ◌<◌, ◌||◌, List, Some, refl, sym, ap, ◌∙◌, arith, inl, inr}
use Rattle.std.proofs.lemmas.Bool.{cases_lt}
use Rattle.std.specs.Option.{option_map}
use Rattle.pm_base.specs.Moment.{tick_of}
use Rattle.pm_history.specs.declared.entry.Side.{Side}
use Rattle.pm_history.specs.declared.entry.Entry.{Entry}
use Rattle.pm_history.specs.Entry.{moment_of, change_of}
use Rattle.pm_history.specs.History.{History, Start, ◌▷◌, size, last_moment, IsHistory, MayFollow}
use Rattle.pm_meas.specs.Cell.{cell_of}
use Rattle.pm_history.specs.Terms.{Terms}
use Rattle.pm_history.specs.Standing.{Standing, making_of, ids_next}
use Rattle.pm_history.specs.Counted.{is_counted}
use Rattle.pm_items.specs.Items.{Item, item_of, items_of}
use Rattle.pm_items.specs.Unstored.{IsUnstored}
use Rattle.pm_items.specs.Alike.{unplaced, AreAlike}
use Rattle.pm_items.proofs.UnstoredLemmas.{unstored-begun, unchanged-one}
use Rattle.pm_items.proofs.KeptLemmas.{kept-none, kept-some}
use Rattle.pm_items.proofs.PairLemmas.{pair_induction}
use Rattle.pm_items.proofs.EndedLemmas.{ended-cells}
use Rattle.pm_items.proofs.CountedLemmas.{old-tick, new-tick}
use Rattle.pm_items.proofs.StandingLemmas.{cuts-same, after_change-same}

module _ (terms : Side → List ℕ → Terms) where
  alike-itself : (h : History) → AreAlike terms h h
  alike-itself h = record {
    begun = refl;
    last = refl;
    tick = refl;
    ids = λ side. refl;
    standing = λ side id. refl;
    cut = λ t. refl;
    cells = λ o m t lt whole. refl;
    counted = λ side id s r is ir t lt. let same : Some s ≡ Some r = sym is
        ∙ ir in let one : s ≡ r = cc in ap (λ (x : Standing). is_counted terms h (making_of side id x) t) one;
  }

  alike-turned : (g h : History) → AreAlike terms g h → AreAlike terms h g
  alike-turned g h alike = record {
    begun = sym alike.begun;
    last = sym alike.last;
    tick = sym alike.tick;
    ids = λ side. sym (alike.ids side);
    standing = λ side id. sym (alike.standing side id);
    cut = λ t. sym (alike.cut t);
    cells = λ o m t lt whole. let tick = alike.tick in sym (alike.cells o m t (omega (arith, tick)) (alike.cut t ∙ whole));
    counted = λ side id s r is ir t lt. let tick = alike.tick in sym (alike.counted side id r s ir is t (omega (arith, tick)));
  }

  -- an entry without an item after one of two
  alike-unstored : (g h : History) (e : Entry) → IsUnstored g e → AreAlike terms g h → AreAlike terms (g ▷ e) h
  alike-unstored g h e q alike =
      let unchanged = unchanged-one terms g e q in
      record {
        begun = sym (unstored-begun g e q) ∙ alike.begun;
        last = ap last_moment (kept-none g e q.without) ∙ alike.last;
        tick = unchanged.tick ∙ alike.tick;
        ids = λ side. unchanged.ids side ∙ alike.ids side;
        standing = λ side id. ap (option_map unplaced) (unchanged.standing side id) ∙ alike.standing side id;
        cut = λ t. unchanged.cut t ∙ alike.cut t;
        cells = λ o m t lt whole.
            let tick = unchanged.tick in
            let old : t < tick_of (last_moment g) = omega (arith, tick) in
            ap cell_of (unchanged.values o m t old) ∙ alike.cells o m t old (sym (unchanged.cut t) ∙ whole);
        counted = λ side id s r is ir t lt.
            let tick = unchanged.tick in
            let old : t < tick_of (last_moment g) = omega (arith, tick) in
            unchanged.counted (making_of side id s) t old
            ∙ alike.counted side id s r (sym (unchanged.standing side id) ∙ is) ir t old;
      }

  -- an entry with the same item after both
  alike-item : (g h : History) (e : Entry) (i : Item) → IsHistory g → IsHistory h → MayFollow g e → MayFollow h e
      → item_of g e ≡ Some i → item_of h e ≡ Some i → AreAlike terms g h → AreAlike terms (g ▷ e) (h ▷ e)
  alike-item g h e i ig ih fg fh sg sh alike = record {
    begun = refl;
    last = ap last_moment (kept-some g e i sg) ∙ sym (ap last_moment (kept-some h e i sh));
    tick = refl;
    ids = λ side. ap (λ is. ids_next side is e) (alike.ids side);
    standing = λ side id. after_change-same terms side (size g) (size h) (moment_of e) _ _ (change_of side id e) (alike.standing side id);
    cut = λ t. let same = cuts-same g h e t alike.begun alike.tick in let old = alike.cut t in λ k. old k || same k;
    cells = λ o m t lt whole. ended-cells g h e i o m t ig ih fg fh sg sh alike.begun alike.tick (alike.cut t) (λ lt whole. alike.cells o m t lt whole) lt whole;
    counted = λ side id s r is ir t lt.
        elim (cases_lt t (tick_of (last_moment g))) [
          | inl over ↦ old-tick terms g h e side id t fg fh alike.tick over (λ s r is ir. alike.counted side id s r is ir t over) s r is ir
          | inr open_from ↦ new-tick terms g h e side id t ig ih fg alike open_from lt s r is ir
        ];
  }

  all_alike : (g h : History) → IsHistory g → IsHistory h → items_of g ≡ items_of h → AreAlike terms g h
  all_alike g h ig ih same =
      pair_induction (AreAlike terms) (alike-itself Start) alike-unstored
      (λ g h e q t. alike-turned _ _ (alike-unstored h g e q (alike-turned _ _ t)))
      (λ g h e i ig ih fg fh sg sh same t. alike-item g h e i ig ih fg fh sg sh t)
      g h ig ih same

pub same_items : (terms : Side → List ℕ → Terms) (g h : History) → IsHistory g → IsHistory h → items_of g ≡ items_of h
    → AreAlike terms g h
same_items terms g h ig ih same = all_alike terms g h ig ih same
