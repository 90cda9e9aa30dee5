-- What of a run lies in the words while slot after slot is laid, and cells that fold a growing run.
use Rattle.std.proofs.Common.{◌≡◌, ◌≢◌, ℕ, zero, suc, ◌+◌, ◌-◌, ◌*◌, ◌<◌, ◌≤◌, List, [], ◌∷◌, ◌++◌, length, set, take, get_or, get_or-set_same, get_or-set_other, refl, sym, ap, ◌∙◌, subst, arith}
use mathlib.Core.Logic.{dite}
use native.Mathlib.Decide.{ℕ_discrete}
use Rattle.pm_bank.specs.declared.view.Hit.{Hit}
use Rattle.pm_bank.specs.declared.view.Part.{Part}
use Rattle.pm_meas.specs.declared.cell.Cell.{Cell}
use Rattle.pm_meas.specs.Cell.{cell_of, with_value}
use Rattle.std.proofs.Math.Seq.{take-suc}
use Rattle.pm_bank.specs.Entries.{when, AreSound}
use Rattle.pm_bank.specs.Words.{op, amount, close, run_fold, laid}
use Rattle.pm_bank.specs.Run.{IsRunCell, AreRunCells, AreBounded, IsFolding}
use Rattle.pm_bank.proofs.TotalLemmas.{length_set}
use Rattle.pm_bank.proofs.FoldLemmas.{when-same, when-other, when-zero, when-at_most, op-unit, op-assoc, op-first}

-- the four parts of one slot
abbrev pub four : ℕ → ℕ → ℕ → ℕ → ℕ → List Part → List Part
four s a b c d ps = record { word = 3; slot = s; amount = d } ∷ record { word = 2; slot = s; amount = c } ∷ record { word = 1; slot = s; amount = b } ∷ record { word = 0; slot = s; amount = a } ∷ ps

pub four_other : (j t s a b c d : ℕ) (ps : List Part) → s ≢ t → laid j t (four s a b c d ps) ≡ laid j t ps
four_other j t s a b c d ps apart = one j 3 d _ ∙ one j 2 c _ ∙ one j 1 b _ ∙ one j 0 a _
  where
    one : (j w x m : ℕ) → op j (when j w (when t s x)) m ≡ m
    one j w x m = ap (λ (y : ℕ). op j y m) (ap (when j w) (when-other t s x apart) ∙ when-zero j w) ∙ op-first j m

pub four_same : (j s a b c d : ℕ) (ps : List Part) (f : ℕ → ℕ) → j < 4 → laid j s ps ≡ 0 → a ≡ f 0 → b ≡ f 1 → c ≡ f 2 → d ≡ f 3 → laid j s (four s a b c d ps) ≡ f j
four_same zero s a b c d ps f lt none ai bi ci di = let w = when-same s a in omega (arith, none, w, ai)
four_same (suc zero) s a b c d ps f lt none ai bi ci di = let w = when-same s b in omega (arith, none, w, bi)
four_same (suc (suc zero)) s a b c d ps f lt none ai bi ci di = let w = when-same s c in omega (arith, none, w, ci)
four_same (suc (suc (suc zero))) s a b c d ps f lt none ai bi ci di = let w = when-same s d in omega (arith, none, w, di)
four_same (suc (suc (suc (suc j)))) s a b c d ps f lt none ai bi ci di = absurd (omega (arith, lt))

pub run_append : (k s : ℕ) (hs : List Hit) (h : Hit) → run_fold k s (hs ++ h ∷ []) ≡ op k (run_fold k s hs) (when s h.slot (amount k h.value))
run_append k s [] h = op-unit k _ ∙ sym (op-first k _)
run_append k s (x ∷ xs) h = ap (op k (when s x.slot (amount k x.value))) (run_append k s xs h) ∙ sym (op-assoc k (when s x.slot (amount k x.value)) (run_fold k s xs) (when s h.slot (amount k h.value)))

-- the least of a run is at most the greatest number, so what is laid of it is the merge
pub low_le : (s : ℕ) (hs : List Hit) → run_fold 3 s hs ≤ 4294967295
low_le s [] = omega arith
low_le s (h ∷ hs) = let more = low_le s hs in let one = when-at_most s h.slot (4294967295 - h.value) in omega (arith, more, one)

-- no event of the slot
pub none_of : (s : ℕ) (hs : List Hit) → run_fold 0 s hs ≡ 0 → (k : ℕ) → run_fold k s hs ≡ 0
none_of s [] none k = refl
none_of s (h ∷ hs) none k =
    dite (ℕ_discrete h.slot s)
    (λ (is : h.slot ≡ s). absurd (let w = subst (λ (y : ℕ). when s y 1 ≡ 1) (sym is) (when-same s 1) in omega (arith, w, none)))
    (λ (apart : h.slot ≢ s). ap (λ (y : ℕ). op k y (run_fold k s hs)) (when-other s h.slot (amount k h.value) apart) ∙ op-first k _ ∙ none_of s hs (let w = when-other s h.slot 1 apart in omega (arith, w, none)) k)

pub fold_laid : (s : ℕ) (hs : List Hit) (c : Cell) (ps : List Part) (j : ℕ) → j < 4 → IsRunCell s hs c → laid j s ps ≡ 0 → laid j s (four s c.n c.sum c.max (4294967295 - c.min) ps) ≡ run_fold j s hs
fold_laid s hs c ps j lt is none = four_same j s c.n c.sum c.max (4294967295 - c.min) ps (λ k. run_fold k s hs) lt none is.n_is is.sum_is is.max_is (let low = low_le s hs in let m = is.min_is in omega (arith, low, m))

get_or_any : {A : Type 0} (l : List A) (i : ℕ) (d d' : A) → i < length l → get_or l i d ≡ get_or l i d'
get_or_any [] i d d' lt = absurd (omega (arith, lt))
get_or_any (x ∷ xs) zero d d' lt = refl
get_or_any (x ∷ xs) (suc i) d d' lt = get_or_any xs i d d' (omega (arith, lt))

-- one more event of the cell's own slot, and of another one
hit_mine : (hs : List Hit) (h : Hit) (c : Cell) → h.value ≤ 4294967295 → IsRunCell h.slot hs c → IsRunCell h.slot (hs ++ h ∷ []) (with_value c h.value)
hit_mine hs h c le is =
    record {
      n_is = let a = run_append 0 h.slot hs h in let w = when-same h.slot 1 in let o = is.n_is in omega (arith, a, w, o);
      sum_is = let a = run_append 1 h.slot hs h in let w = when-same h.slot h.value in let o = is.sum_is in omega (arith, a, w, o);
      max_is = let a = run_append 2 h.slot hs h in let w = when-same h.slot h.value in let o = is.max_is in omega (arith, a, w, o);
      min_is = let a = run_append 3 h.slot hs h in let w = when-same h.slot (4294967295 - h.value) in let o = is.min_is in omega (arith, a, w, o, le);
    }

hit_other : (s : ℕ) (hs : List Hit) (h : Hit) (c : Cell) → h.slot ≢ s → IsRunCell s hs c → IsRunCell s (hs ++ h ∷ []) c
hit_other s hs h c apart is = record { n_is = is.n_is ∙ sym (same 0); sum_is = is.sum_is ∙ sym (same 1); max_is = is.max_is ∙ sym (same 2); min_is = is.min_is ∙ sym (ap (close 3) (same 3)) }
  where
    same : (k : ℕ) → run_fold k s (hs ++ h ∷ []) ≡ run_fold k s hs
    same k = run_append k s hs h ∙ ap (op k (run_fold k s hs)) (when-other s h.slot (amount k h.value) apart) ∙ op-unit k _

-- one more event is folded into its cell
module _ (cells : List Cell) (hs : List Hit) (h : Hit) (d new : Cell) (in_cells : h.slot < length cells) (small : h.value ≤ 1048575) (new_is : new ≡ with_value (get_or cells h.slot d) h.value) where
  new_at : get_or (set cells h.slot new) h.slot (cell_of []) ≡ with_value (get_or cells h.slot (cell_of [])) h.value
  new_at = get_or-set_same cells h.slot new (cell_of []) in_cells ∙ new_is ∙ ap (λ (c : Cell). with_value c h.value) (get_or_any cells h.slot d (cell_of []) in_cells)

  within : (s : ℕ) → s < length (set cells h.slot new) → s < length cells
  within s lt = let l = length_set cells h.slot new in omega (arith, l, lt)

  pub folds_one : AreRunCells hs cells → AreRunCells (hs ++ h ∷ []) (set cells h.slot new)
  folds_one old s lt =
      dite (ℕ_discrete s h.slot)
      (λ (is : s ≡ h.slot). subst (λ (t : ℕ). IsRunCell t (hs ++ h ∷ []) (get_or (set cells h.slot new) t (cell_of []))) (sym is) (subst (IsRunCell h.slot (hs ++ h ∷ [])) (sym new_at) (hit_mine hs h (get_or cells h.slot (cell_of [])) (omega (arith, small)) (old h.slot in_cells))))
      (λ (apart : s ≢ h.slot). subst (IsRunCell s (hs ++ h ∷ [])) (sym (get_or-set_other cells h.slot s new (cell_of []) apart)) (hit_other s hs h (get_or cells s (cell_of [])) (λ z. apart (sym z)) (old s (within s lt))))

  pub bounds_one : (i : ℕ) → AreBounded i cells → AreBounded (i + 1) (set cells h.slot new)
  bounds_one i old s lt =
      dite (ℕ_discrete s h.slot)
      (λ (is : s ≡ h.slot). subst (λ (t : ℕ). ((get_or (set cells h.slot new) t (cell_of [])).n ≤ i + 1) × ((get_or (set cells h.slot new) t (cell_of [])).sum ≤ 1048575 * (get_or (set cells h.slot new) t (cell_of [])).n)) (sym is) (subst (λ (c : Cell). (c.n ≤ i + 1) × (c.sum ≤ 1048575 * c.n)) (sym new_at) (let o = old h.slot in_cells in let a = o.0 in let b = o.1 in (omega (arith, a), omega (arith, b, small)))))
      (λ (apart : s ≢ h.slot). subst (λ (c : Cell). (c.n ≤ i + 1) × (c.sum ≤ 1048575 * c.n)) (sym (get_or-set_other cells h.slot s new (cell_of []) apart)) (let o = old s (within s lt) in let a = o.0 in let b = o.1 in (omega (arith, a), b)))

-- a cell that no event of the run is in is blank
pub fold_blank : (s : ℕ) (hs : List Hit) (c : Cell) → IsRunCell s hs c → c.n ≡ 0 → c ≡ cell_of []
fold_blank s hs c is none =
    let at : (k : ℕ) → run_fold k s hs ≡ 0 = none_of s hs (sym is.n_is ∙ none) in
    λ i. record { n = none i; sum = (is.sum_is ∙ at 1) i; max = (is.max_is ∙ at 2) i; min = (is.min_is ∙ ap (close 3) (at 3)) i }

-- no event is folded yet
pub blank_none : (cells : List Cell) → ((s : ℕ) → get_or cells s (cell_of []) ≡ cell_of []) → AreRunCells [] cells
blank_none cells blank s lt = subst (IsRunCell s []) (sym (blank s)) (record { n_is = refl; sum_is = refl; max_is = refl; min_is = refl })

pub blank_bounded : (cells : List Cell) → ((s : ℕ) → get_or cells s (cell_of []) ≡ cell_of []) → AreBounded 0 cells
blank_bounded cells blank s lt = subst (λ (c : Cell). (c.n ≤ 0) × (c.sum ≤ 1048575 * c.n)) (sym (blank s)) (omega arith, omega arith)

-- one event alone
pub one_cell : (s v : ℕ) → v ≤ 1048575 → IsRunCell s (record { slot = s; value = v } ∷ []) (record { n = 1; sum = v; max = v; min = v })
one_cell s v small =
    record {
      n_is = let w = when-same s 1 in omega (arith, w);
      sum_is = let w = when-same s v in omega (arith, w);
      max_is = let w = when-same s v in omega (arith, w);
      min_is = let w = when-same s (4294967295 - v) in omega (arith, w, small);
    }

-- a fold of a run has come one event further
pub folding_one : (hs : List Hit) (i slots : ℕ) (cells : List Cell) (d : Hit) (d' new : Cell) → i < length hs → AreSound slots hs → new ≡ with_value (get_or cells (get_or hs i d).slot d') (get_or hs i d).value → IsFolding i slots hs cells → IsFolding (i + 1) slots hs (set cells (get_or hs i d).slot new)
folding_one hs i slots cells d d' new in_run sound new_is so_far =
    let h : Hit = get_or hs i d in
    let ok = sound i d in_run in
    let in_cells : h.slot < length cells = (let a = ok.0 in let b = so_far.size in omega (arith, a, b)) in
    let one : i + 1 ≡ suc i = omega arith in
    let longer : take (i + 1) hs ≡ take i hs ++ h ∷ [] = ap (λ (n : ℕ). take n hs) one ∙ take-suc hs i d in_run in
    record {
      size = length_set cells h.slot new ∙ so_far.size;
      folds = subst (λ (l : List Hit). AreRunCells l (set cells h.slot new)) (sym longer) (folds_one cells (take i hs) h d' new in_cells ok.1 new_is so_far.folds);
      bounded = bounds_one cells (take i hs) h d' new in_cells ok.1 new_is i so_far.bounded;
    }
