-- Rows end to end: how long they are, what stands at a place, what is left once rows go from the front.
use Rattle.std.proofs.Common.{◌≡◌, ℕ, zero, suc, ◌+◌, ◌*◌, ◌<◌, ◌≤◌, Bool, true, false, cond, List, [], ◌++◌, length, get_or, drop, replicate, refl, sym, ap, ◌∙◌, arith, inl, inr, suc-mul, append_assoc}
use Rattle.std.proofs.lemmas.Bool.{cases_lt}
use Rattle.std.proofs.lemmas.Nat.{mul-le}
use Rattle.std.proofs.lemmas.List.{get_or_append_left, get_or-append-add, length-append, length-map, length-replicate, replicate-append-replicate, drop-append-le, append-nil}
use Rattle.std.proofs.Math.ListN.{drop_of_length-le}
use Rattle.pm_meas.specs.Cell.{cell_of}
use Rattle.pm_inventory.specs.Inventory.{SlotKey}
use Rattle.pm_history.specs.History.{History, is_cut}
use Rattle.pm_close.specs.Rows.{tick_cell, cells_in, blank, row_at, rows_of, cell_at}

pub length-row : (slots : List SlotKey) (h : History) (t : ℕ) → length (row_at slots h t) ≡ length slots
length-row slots h t = by (is_cut h t)
  where
    by : (b : Bool) → length (cond b (blank slots) (cells_in slots h t)) ≡ length slots
    by true = length-replicate (length slots) (cell_of [])
    by false = length-map slots (tick_cell h t)

pub length-rows : (slots : List SlotKey) (h : History) (first n : ℕ) → length (rows_of slots h first n) ≡ n * length slots
length-rows slots h first zero = omega arith
length-rows slots h first (suc n) =
    let e = length-append (rows_of slots h first n) (row_at slots h (first + n)) in
    let rest = length-rows slots h first n in
    let this = length-row slots h (first + n) in
    let product = suc-mul n (length slots) in
    omega (arith, e, rest, this, product)

mul-lt : (k n w p : ℕ) → k < n → p < w → k * w + p < n * w
mul-lt k n w p lt in_row =
    let wide = mul-le (suc k) w n w (omega arith) (omega arith) in
    let product = suc-mul k w in
    omega (arith, wide, product)

-- what stands at a place
pub get-rows : (slots : List SlotKey) (h : History) (first n k p : ℕ) → k < n → p < length slots
    → cell_at (rows_of slots h first n) (length slots) p k ≡ get_or (row_at slots h (first + k)) p (cell_of [])
get-rows slots h first zero k p lt in_row = absurd (omega arith)
get-rows slots h first (suc n) k p lt in_row =
    let w = length slots in
    let long = length-rows slots h first n in
    elim (cases_lt k n) [
      | inl below ↦
          let inside = mul-lt k n w p below in_row in
          get_or_append_left (rows_of slots h first n) (row_at slots h (first + n)) (cell_of []) (k * w + p) (omega arith)
          ∙ get-rows slots h first n k p below in_row
      | inr past ↦
          let same : k ≡ n = omega arith in
          let at : k * w + p ≡ length (rows_of slots h first n) + p = ap (λ j. j * w + p) same ∙ omega (arith, long) in
          ap (λ i. get_or (rows_of slots h first n ++ row_at slots h (first + n)) i (cell_of [])) at
          ∙ (get_or-append-add (rows_of slots h first n) (row_at slots h (first + n)) p (cell_of [])
          ∙ ap (λ j. get_or (row_at slots h (first + j)) p (cell_of [])) (sym same))
    ]

-- rows that no open period needs go from the front
pub drop-rows : (slots : List SlotKey) (h : History) (first d n : ℕ)
    → drop (d * length slots) (rows_of slots h first (d + n)) ≡ rows_of slots h (first + d) n
drop-rows slots h first d zero =
    let same : d + zero ≡ d = omega arith in
    let long = length-rows slots h first d in
    ap (λ k. drop (d * length slots) (rows_of slots h first k)) same
    ∙ drop_of_length-le (rows_of slots h first d) (omega arith)
drop-rows slots h first d (suc n) =
    let w = length slots in
    let next : d + suc n ≡ suc (d + n) = omega arith in
    let at : first + (d + n) ≡ first + d + n = omega arith in
    let long = length-rows slots h first (d + n) in
    let wide = mul-le d w (d + n) w (omega arith) (omega arith) in
    let rest = drop-rows slots h first d n in
    ap (λ k. drop (d * w) (rows_of slots h first k)) next
    ∙ (drop-append-le (d * w) (rows_of slots h first (d + n)) (row_at slots h (first + (d + n))) (omega (arith, long, wide))
    ∙ (λ i. rest i ++ row_at slots h (at i)))

-- rows of two runs that adjoin, the second without a value
pub rows-blank : (slots : List SlotKey) (h : History) (first n k : ℕ)
    → ((t : ℕ) → first + n ≤ t → t < first + n + k → row_at slots h t ≡ blank slots)
    → rows_of slots h first (n + k) ≡ rows_of slots h first n ++ replicate (k * length slots) (cell_of [])
rows-blank slots h first n zero none =
    let same : n + zero ≡ n = omega arith in
    let empty : zero * length slots ≡ 0 = omega arith in
    ap (rows_of slots h first) same
    ∙ (sym (append-nil (rows_of slots h first n))
    ∙ ap (λ m. rows_of slots h first n ++ replicate m (cell_of [])) (sym empty))
rows-blank slots h first n (suc k) none =
    let w = length slots in
    let next : n + suc k ≡ suc (n + k) = omega arith in
    let rest = rows-blank slots h first n k (λ t from lt. none t from (omega arith)) in
    let this = none (first + (n + k)) (omega arith) (omega arith) in
    let product = suc-mul k w in
    let all : k * w + w ≡ suc k * w = omega (arith, product) in
    ap (rows_of slots h first) next
    ∙ ((λ i. rest i ++ this i)
    ∙ (append_assoc (rows_of slots h first n) (replicate (k * w) (cell_of [])) (replicate w (cell_of []))
    ∙ (ap (λ cells. rows_of slots h first n ++ cells) (replicate-append-replicate (k * w) w (cell_of []))
    ∙ ap (λ m. rows_of slots h first n ++ replicate m (cell_of [])) all)))

-- rows of two histories that agree on the ticks
pub rows-same : (slots : List SlotKey) (g h : History) (first n : ℕ)
    → ((t : ℕ) → first ≤ t → t < first + n → row_at slots g t ≡ row_at slots h t)
    → rows_of slots g first n ≡ rows_of slots h first n
rows-same slots g h first zero same = refl
rows-same slots g h first (suc n) same =
    let rest = rows-same slots g h first n (λ t from lt. same t from (omega arith)) in
    let this = same (first + n) (omega arith) (omega arith) in
    λ i. rest i ++ this i
