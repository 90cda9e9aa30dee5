-- What every step owes of the words that it leaves alone, and one view that changes.
use Rattle.std.proofs.Common.{◌≡◌, ℕ, suc, ◌+◌, ◌%◌, ◌<◌, ◌≤◌, List, set, sym, ap, ◌∙◌, arith}
use Rattle.std.specs.Prelude.{slice_index}
use mathlib.Core.Option.{some}
use lib.ListN.{get_elem?}
use Rattle.pm_bank.specs.declared.view.View.{View}
use Rattle.pm_bank.specs.Words.{op, close, cell_word}
use Rattle.pm_bank.specs.Rule.{total, merged, part, gone, here, Phase, Gates, Cells}
use Rattle.pm_bank.proofs.FoldLemmas.{op-unit, op-comm, op-assoc}
use Rattle.pm_bank.proofs.MergeLemmas.{changes, stays}

-- the gate and the leaves, where they stay as they are and the sums over the views too
pub gates_stay : (p : Phase) (words ws : List ℕ) (views vs : List View) → Gates p words views → ((i : ℕ) → i < 3 → slice_index ws i ≡ slice_index words i) → ((e : ℕ) → total (here e) vs ≡ total (here e) views) → ((e : ℕ) → total (gone e) vs ≡ total (gone e) views) → Gates p ws vs
gates_stay p words ws views vs g same heres gones =
    record {
      fits = g.fits;
      gate = let w = same 0 (omega arith) in let h = heres p.epoch in let o = g.gate in omega (arith, w, h, o);
      now = same (1 + p.epoch % 2) (omega arith) ∙ g.now ∙ sym (gones p.epoch);
      before = λ un e is. same (1 + e % 2) (omega arith) ∙ g.before un e is ∙ sym (gones e);
      empty = λ un. same (1 + suc p.epoch % 2) (omega arith) ∙ g.empty un;
    }

-- the cells, where they stay as they are and what is merged too
pub cells_stay : (slots : ℕ) (p : Phase) (words ws : List ℕ) (views vs : List View) → Cells slots p words views → ((i : ℕ) → 8 ≤ i → slice_index ws i ≡ slice_index words i) → ((k e s : ℕ) → k < 4 → s < slots → merged k e s vs ≡ merged k e s views) → Cells slots p ws vs
cells_stay slots p words ws views vs c same parts =
    record {
      now = λ k s lt inside. same (cell_word p.epoch k s) (omega arith) ∙ c.now k s lt inside ∙ sym (ap (close k) (parts k p.epoch s lt inside));
      before = λ un e is k s lt inside late. same (cell_word e k s) (omega arith) ∙ c.before un e is k s lt inside late ∙ sym (ap (close k) (parts k e s lt inside));
      empty = λ k s lt inside un. same (cell_word (suc p.epoch) k s) (omega arith) ∙ c.empty k s lt inside un;
    }

module _ (views : List View) (id : ℕ) (was now : View) (here_is : get_elem? views id ≡ some was) where
  -- what is merged, where one view gains x
  pub merged_gains : (k e s x : ℕ) → part k e s now ≡ op k (part k e s was) x → merged k e s (set views id now) ≡ op k (merged k e s views) x
  merged_gains k e s x is = changes (op k) (op-unit k) (op-comm k) (op-assoc k) (part k e s) views id was now x here_is is

  pub merged_stays : (k e s : ℕ) → part k e s now ≡ part k e s was → merged k e s (set views id now) ≡ merged k e s views
  merged_stays k e s is = stays (op k) (op-unit k) (op-comm k) (op-assoc k) (part k e s) views id was now here_is is

-- two words of cells are one only where all is the same
pub words_apart : (e k s e' k' s' : ℕ) → k < 4 → k' < 4 → cell_word e k s ≡ cell_word e' k' s' → (e % 2 ≡ e' % 2) × (k ≡ k') × (s ≡ s')
words_apart e k s e' k' s' lt lt' is = (omega (arith, lt, lt', is), omega (arith, lt, lt', is), omega (arith, lt, lt', is))
