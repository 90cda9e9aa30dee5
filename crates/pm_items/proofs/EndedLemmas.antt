-- The cells of the ticks that an entry ends, in two histories in which it has the same item.
use Rattle.std.proofs.Common.{◌≡◌, ℕ, ◌<◌, ◌≤◌, Bool, true, false, cond, [], Option, Some, None, refl, sym, ap, ◌∙◌, arith, inl, inr, le-leb}
use Rattle.std.proofs.lemmas.Bool.{cases_lt, and_from}
use Rattle.pm_base.specs.Moment.{tick_of}
use Rattle.pm_meas.specs.declared.cell.Cell.{Cell}
use Rattle.pm_meas.specs.Cell.{cell_of}
use Rattle.pm_history.specs.declared.entry.Entry.{Entry}
use Rattle.pm_history.specs.declared.entry.Entry.TheVariants.{Boot, Now}
use Rattle.pm_history.specs.Entry.{moment_of}
use Rattle.pm_history.specs.History.{History, Start, ◌▷◌, last_moment, IsHistory, MayFollow, cuts, is_cut}
use Rattle.pm_items.specs.Items.{Item, Opened, Booked, Changed, is_later, open_values, open_cells, item_of}
use Rattle.pm_items.specs.Alike.{is_begun}
use Rattle.pm_items.proofs.UnstoredLemmas.{values_in-other}
use Rattle.pm_items.proofs.OpenLemmas.{values_in, values_in-past, left-false, right-false, open-is}

abbrev cells_from : Option Item → ℕ → ℕ → Cell
cells_from None o m = cell_of []
cells_from (Some (Opened k)) o m = cell_of []
cells_from (Some (Booked k t cells)) o m = cells o m
cells_from (Some (Changed e)) o m = cell_of []

booked-cells : (h : History) (k : ℕ) (i : Item) → item_of h (Now k) ≡ Some i → (o m : ℕ)
    → cell_of (open_values o m h) ≡ cells_from (Some i) o m
booked-cells h k i is o m = by (is_later h k) is
  where
    by : (b : Bool) → cond b (Some (Booked k (tick_of (last_moment h)) (open_cells h))) None ≡ Some i
        → cell_of (open_values o m h) ≡ cells_from (Some i) o m
    by true is = ap (λ x. cells_from x o m) is
    by false is = absurd cc

now-cells : (g h : History) (k o m t : ℕ) (i : Item) → IsHistory g → IsHistory h → item_of g (Now k) ≡ Some i
    → item_of h (Now k) ≡ Some i
    → tick_of (last_moment g) ≡ tick_of (last_moment h) → is_cut g t ≡ false → is_cut h t ≡ false → tick_of (last_moment g) ≤ t
    → cell_of (values_in o m g t) ≡ cell_of (values_in o m h t)
now-cells g h k o m t i ig ih sg sh tick wg wh le =
    elim (cases_lt (tick_of (last_moment g)) t) [
      | inl lt ↦ ap cell_of (values_in-past o m g t ig lt) ∙ sym (ap cell_of (values_in-past o m h t ih (omega (arith, tick))))
      | inr ge ↦
          let at_g : t ≡ tick_of (last_moment g) = omega arith in
          let at_h : t ≡ tick_of (last_moment h) = omega (arith, tick) in
          ap (λ t. cell_of (values_in o m g t)) at_g
          ∙ (ap cell_of (open-is o m g ig (ap (is_cut g) (sym at_g) ∙ wg))
          ∙ (booked-cells g k i sg o m
          ∙ (sym (booked-cells h k i sh o m)
          ∙ (sym (ap cell_of (open-is o m h ih (ap (is_cut h) (sym at_h) ∙ wh)))
          ∙ sym (ap (λ t. cell_of (values_in o m h t)) at_h)))))
    ]

boot-cells : (g h : History) (k o m t : ℕ) → is_begun g ≡ is_begun h → cuts g (Boot k) t ≡ false → tick_of (last_moment g) ≤ t
    → t < tick_of k
    → cell_of (values_in o m g t) ≡ cell_of (values_in o m h t)
boot-cells Start Start k o m t begun whole le lt = refl
boot-cells Start (h ▷ e) k o m t begun whole le lt = absurd cc
boot-cells (g ▷ d) h k o m t begun whole le lt =
    let cut : cuts (g ▷ d) (Boot k) t ≡ true = and_from _ _ (le-leb _ _ le) (le-leb _ _ (omega arith)) in
    absurd cc

new-cells : (g h : History) (e : Entry) (i : Item) (o m t : ℕ) → IsHistory g → IsHistory h → MayFollow g e
    → item_of g e ≡ Some i → item_of h e ≡ Some i → is_begun g ≡ is_begun h → tick_of (last_moment g) ≡ tick_of (last_moment h)
    → is_cut (g ▷ e) t ≡ false → is_cut h t ≡ false → tick_of (last_moment g) ≤ t → t < tick_of (moment_of e)
    → cell_of (values_in o m g t) ≡ cell_of (values_in o m h t)
new-cells g h (Now k) i o m t ig ih fg sg sh begun tick whole wh le lt =
    now-cells g h k o m t i ig ih sg sh tick (left-false _ _ whole) wh le
new-cells g h (Boot k) i o m t ig ih fg sg sh begun tick whole wh le lt =
    boot-cells g h k o m t begun (right-false (is_cut g t) _ whole) le lt
new-cells g h e i o m t ig ih fg sg sh begun tick whole wh le lt = let same = (fg.beside refl).1 in absurd (omega arith)

pub ended-cells : (g h : History) (e : Entry) (i : Item) (o m t : ℕ) → IsHistory g → IsHistory h → MayFollow g e → MayFollow h e
    → item_of g e ≡ Some i → item_of h e ≡ Some i → is_begun g ≡ is_begun h → tick_of (last_moment g) ≡ tick_of (last_moment h)
    → is_cut g t ≡ is_cut h t
    → (t < tick_of (last_moment g) → is_cut g t ≡ false → cell_of (values_in o m g t) ≡ cell_of (values_in o m h t))
    → t < tick_of (moment_of e) → is_cut (g ▷ e) t ≡ false → cell_of (values_in o m (g ▷ e) t) ≡ cell_of (values_in o m (h ▷ e) t)
ended-cells g h e i o m t ig ih fg fh sg sh begun tick cut old lt whole =
    ap cell_of (values_in-other o m g e t lt)
    ∙ (elim (cases_lt t (tick_of (last_moment g))) [
      | inl over ↦ old over (left-false _ _ whole)
      | inr open_from ↦ new-cells g h e i o m t ig ih fg sg sh begun tick whole (sym cut ∙ left-false _ _ whole) open_from lt
    ]
    ∙ sym (ap cell_of (values_in-other o m h e t lt)))
