-- What rows become once an entry joins a history: those of ticks that are over stay; a Now ends the open tick with its cells, and
-- what it ends besides, as all that a Boot ends, has no value.
use Rattle.std.proofs.Common.{◌≡◌, ℕ, ◌<◌, ◌≤◌, Bool, true, false, cond, eqb, List, [], ◌∷◌, ◌++◌, map, length, replicate, refl, ap, ◌∙◌, arith, le-leb}
use Rattle.std.proofs.lemmas.Bool.{cond-true, cond-false, ne_eqb, or_right, and_from}
use Rattle.std.proofs.lemmas.List.{append-nil}
use Rattle.pm_base.specs.Moment.{tick_of}
use Rattle.pm_meas.specs.Cell.{cell_of}
use Rattle.pm_inventory.specs.Inventory.{SlotKey}
use Rattle.pm_history.specs.declared.entry.Entry.{Entry}
use Rattle.pm_history.specs.declared.entry.Entry.TheVariants.{Boot, Now}
use Rattle.pm_history.specs.Entry.{moment_of}
use Rattle.pm_history.specs.History.{History, Start, ◌▷◌, last_moment, IsHistory, is_cut}
use Rattle.pm_history.specs.Value.{values_where}
use Rattle.pm_history.proofs.TickLemmas.{or_false}
use Rattle.pm_history.proofs.HistoryLemmas.{is_cut-stays, is_cut-past}
use Rattle.pm_history.proofs.StayLemmas.{value_where-fails}
use Rattle.pm_history.proofs.StepLemmas.{values_where-now, values_where-boot}
use Rattle.pm_close.specs.Rows.{tick_cell, cells_in, blank, row_at}

pub map-const : {A B : Type 0} (f : A → B) (b : B) (xs : List A) → ((a : A) → f a ≡ b) → map f xs ≡ replicate (length xs) b
map-const f b [] same = refl
map-const f b (x ∷ xs) same = let rest = map-const f b xs same in λ i. same x i ∷ rest i

-- ticks after the last have no values
pub tick_values-past : (h : History) (o m t : ℕ) → IsHistory h → tick_of (last_moment h) < t
    → values_where o m (λ u. eqb u t) h ≡ []
tick_values-past Start o m t is lt = refl
tick_values-past (h ▷ e) o m t is lt =
    let later = is.1.later in
    let rest = tick_values-past h o m t is.0 (omega arith) in
    let this = value_where-fails o m (λ u. eqb u t) e (ne_eqb _ _ (λ same. omega arith)) in
    λ i. rest i ++ this i

pub tick_cell-past : (h : History) (t : ℕ) (slot : SlotKey) → IsHistory h → tick_of (last_moment h) < t
    → tick_cell h t slot ≡ cell_of []
tick_cell-past h t slot is lt = ap cell_of (tick_values-past h slot.object slot.metric t is lt)

pub tick_cell-now : (h : History) (m t : ℕ) (slot : SlotKey) → tick_cell (h ▷ Now m) t slot ≡ tick_cell h t slot
tick_cell-now h m t slot = ap cell_of (values_where-now slot.object slot.metric (λ u. eqb u t) h m)

pub tick_cell-boot : (h : History) (m t : ℕ) (slot : SlotKey) → tick_cell (h ▷ Boot m) t slot ≡ tick_cell h t slot
tick_cell-boot h m t slot = ap cell_of (values_where-boot slot.object slot.metric (λ u. eqb u t) h m)

cells_in-same : (slots : List SlotKey) (g h : History) (t : ℕ) → ((slot : SlotKey) → tick_cell g t slot ≡ tick_cell h t slot)
    → cells_in slots g t ≡ cells_in slots h t
cells_in-same slots g h t same = λ i. map (λ (slot : SlotKey). same slot i) slots

pub cells_in-past : (slots : List SlotKey) (h : History) (t : ℕ) → IsHistory h → tick_of (last_moment h) < t
    → cells_in slots h t ≡ blank slots
cells_in-past slots h t is lt = map-const (tick_cell h t) (cell_of []) slots (λ slot. tick_cell-past h t slot is lt)

-- the rows of ticks that are over stay, whatever comes next
pub row_at-stays : (slots : List SlotKey) (h : History) (e : Entry) (t : ℕ) → last_moment h ≤ moment_of e
    → t < tick_of (last_moment h)
    → row_at slots (h ▷ e) t ≡ row_at slots h t
row_at-stays slots h e t le lt =
    let cut = is_cut-stays h e t le lt in
    let cells = cells_in-same slots (h ▷ e) h t (λ slot.
    let none = value_where-fails slot.object slot.metric (λ u. eqb u t) e (ne_eqb _ _ (λ same. omega arith)) in
    ap (λ vs. cell_of (values_where slot.object slot.metric (λ u. eqb u t) h ++ vs)) none
    ∙ ap cell_of (append-nil (values_where slot.object slot.metric (λ u. eqb u t) h))) in
    λ i. cond (cut i) (blank slots) (cells i)

-- the tick that ends with a Now has the row of the open tick
pub row_at-now : (slots : List SlotKey) (h : History) (m t : ℕ) → row_at slots (h ▷ Now m) t ≡ row_at slots h t
row_at-now slots h m t =
    let cut : is_cut (h ▷ Now m) t ≡ is_cut h t = or_false (is_cut h t) false refl in
    let cells = cells_in-same slots (h ▷ Now m) h t (tick_cell-now h m t) in
    λ i. cond (cut i) (blank slots) (cells i)

-- a further tick that ends with it has none
pub row_at-past : (slots : List SlotKey) (h : History) (t : ℕ) → IsHistory h → tick_of (last_moment h) < t
    → row_at slots h t ≡ blank slots
row_at-past slots h t is lt = cond-false _ _ _ (is_cut-past h t is lt) ∙ cells_in-past slots h t is lt

-- each that ends with a Boot has none
pub row_at-boot : (slots : List SlotKey) (h : History) (m t : ℕ) → IsHistory h → tick_of (last_moment h) ≤ t → t ≤ tick_of m
    → row_at slots (h ▷ Boot m) t ≡ blank slots
row_at-boot slots Start m t is from lt = by (is_cut (Start ▷ Boot m) t)
  where
    by : (b : Bool) → cond b (blank slots) (cells_in slots (Start ▷ Boot m) t) ≡ blank slots
    by true = refl
    by false = map-const (tick_cell (Start ▷ Boot m) t) (cell_of []) slots (λ slot. refl)
row_at-boot slots (h ▷ e) m t is from lt =
    cond-true _ _ _ (or_right _ _ (and_from _ _ (le-leb _ _ from) (le-leb _ _ lt)))
