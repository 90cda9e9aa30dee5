-- An item tells its entry.
use Rattle.std.proofs.Common.{◌≡◌, ℕ, Bool, true, false, cond, Option, Some, None, refl, sym, ap, ◌∙◌}
use Rattle.pm_base.specs.Moment.{tick_of}
use Rattle.pm_meas.specs.declared.cell.Cell.{Cell}
use Rattle.pm_history.specs.declared.entry.Entry.{Entry}
use Rattle.pm_history.specs.declared.entry.Entry.TheVariants.{Boot, Now, Event}
use Rattle.pm_history.specs.History.{History, last_moment}
use Rattle.pm_items.specs.Items.{Item, Opened, Booked, Changed, is_later, open_cells, item_of}

pub opened-entry : (h : History) (e : Entry) (moment : ℕ) → item_of h e ≡ Some (Opened moment) → e ≡ Boot moment
opened-entry h (Boot m) moment is = cc
opened-entry h (Now m) moment is = absurd (by (is_later h m) is)
  where
    by : (b : Bool) → cond b (Some (Booked m (tick_of (last_moment h)) (open_cells h))) None ≡ Some (Opened moment) → ⊥
    by true same = cc
    by false same = cc
opened-entry h (Event m object metric value registered) moment is = absurd (cc (is))
opened-entry h e moment is = absurd (cc (is))

-- A Now in a later tick.
pub record IsBooking (h : History) (e : Entry) (moment tick : ℕ) (cells : ℕ → ℕ → Cell) : Type 0 where
  pub entry : e ≡ Now moment
  pub later : is_later h moment ≡ true
  pub takes : tick_of (last_moment h) ≡ tick
  pub cells_are : (object metric : ℕ) → open_cells h object metric ≡ cells object metric

abbrev cells_in : Item → ℕ → ℕ → Cell
cells_in (Booked moment tick cells) = cells
cells_in item = λ object metric. record { n = 0; sum = 0; max = 0; min = 0 }

abbrev cells_of : Option Item → ℕ → ℕ → Cell
cells_of None = λ object metric. record { n = 0; sum = 0; max = 0; min = 0 }
cells_of (Some item) = cells_in item

pub booked-entry : (h : History) (e : Entry) (moment tick : ℕ) (cells : ℕ → ℕ → Cell) → item_of h e ≡ Some (Booked moment tick cells)
    → IsBooking h e moment tick cells
booked-entry h (Boot m) moment tick cells is = absurd (cc (is))
booked-entry h (Now m) moment tick cells is = by (is_later h m) refl is
  where
    by : (b : Bool) → is_later h m ≡ b → cond b (Some (Booked m (tick_of (last_moment h)) (open_cells h))) None ≡ Some (Booked moment tick cells)
        → IsBooking h (Now m) moment tick cells
    by true later same =
        let at : m ≡ moment = cc in record {
          entry = ap Now at;
          later = ap (is_later h) (sym at) ∙ later;
          takes = cc;
          cells_are = λ object metric. ap (λ o. cells_of o object metric) same;
        }
    by false later same = absurd (cc (same))
booked-entry h (Event m object metric value registered) moment tick cells is = absurd (cc (is))
booked-entry h e moment tick cells is = absurd (cc (is))

pub changed-entry : (h : History) (e change : Entry) → item_of h e ≡ Some (Changed change) → e ≡ change
changed-entry h (Boot m) change is = absurd (cc (is))
changed-entry h (Now m) change is = absurd (by (is_later h m) is)
  where
    by : (b : Bool) → cond b (Some (Booked m (tick_of (last_moment h)) (open_cells h))) None ≡ Some (Changed change) → ⊥
    by true same = cc
    by false same = cc
changed-entry h (Event m object metric value registered) change is = absurd (cc (is))
changed-entry h e change is = cc
