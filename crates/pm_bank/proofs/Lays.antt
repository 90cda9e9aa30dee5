-- Laying an amount into a word of a cell keeps the rule.
use Rattle.std.proofs.Common.{◌≡◌, ◌≢◌, ◌⊎◌, ℕ, suc, ◌+◌, ◌*◌, ◌%◌, ◌<◌, List, ◌∷◌, length, set, get_or-set_other, get_or-set_same, true≢false, refl, sym, ap, ◌∙◌, subst, ⊎_elim, arith}
use Rattle.std.specs.Prelude.{slice_index}
use mathlib.Core.Option.{some}
use mathlib.Core.Logic.{dite}
use native.Mathlib.Decide.{ℕ_discrete}
use lib.ListN.{get_elem?}
use Rattle.pm_bank.specs.declared.view.View.{View}
use Rattle.pm_bank.specs.declared.view.Numbers.{Numbers}
use Rattle.pm_bank.specs.declared.view.Part.{Part}
use Rattle.pm_bank.specs.declared.view.Entry.{Entry}
use Rattle.pm_bank.specs.Entries.{when}
use Rattle.pm_bank.specs.Words.{op, close, laid, fold_of, cell_word}
use Rattle.pm_bank.specs.Rule.{gone, here, visits, part, merged, Phase, IsClosed, Cells, Kept}
use Rattle.pm_bank.specs.Steps.{passing}
use Rattle.pm_bank.proofs.FoldLemmas.{when-same, when-other, when-zero, when-op, op-unit, op-comm, op-assoc}
use Rattle.pm_bank.proofs.CountLemmas.{complete-set}
use Rattle.pm_bank.proofs.TellLemmas.{IsStill, tells_after_pass}
use Rattle.pm_bank.proofs.VisitLemmas.{stands, closed_apart, IsEnded}
use Rattle.pm_bank.proofs.TotalLemmas.{length_set}
use Rattle.pm_bank.proofs.StayLemmas.{gates_stay, merged_gains, merged_stays, words_apart}
use Rattle.pm_bank.proofs.PassLemmas.{IsPassStep, moves, seats_after}

-- new is what the step makes of the word
module _ (slots : ℕ) (words : List ℕ) (views : List View) (k : Kept slots words views) (id : ℕ) (nums : Numbers) (b q a m : ℕ) (ps : List Part) (es : List Entry) (w s x new : ℕ) (some_hits : m ≡ 0 → ⊥) (word_is : w < 4) (inside : s < slots) (here_is : get_elem? views id ≡ some (passing nums b q a m ps es))
    (right : (y : ℕ) → slice_index words (cell_word a w s) ≡ close w y → new ≡ close w (op w y x)) where
  abbrev p : Phase
  p = k.phase

  abbrev E : ℕ
  E = k.phase.epoch

  abbrev was : View
  was = passing nums b q a m ps es

  abbrev more : Part
  more = record { word = w; slot = s; amount = x }

  abbrev now : View
  now = passing nums b q a m (more ∷ ps) es

  abbrev after : List View
  after = set views id now

  abbrev changed : List ℕ
  changed = set words (cell_word a w s) new

  step : IsPassStep p id was now
  step =
      let old = k.seats.fits id was here_is in
      record {
        no_keeper = refl;
        lives_same = refl;
        since_same = refl;
        quota_same = refl;
        met_same = refl;
        fits = record { within = old.within; past = old.past; one = λ z. absurd (true≢false (sym z)); idle = λ _ z. absurd (omega (arith, z)); backed = λ none. absurd (some_hits none); single = old.single; since_le = old.since_le; born = old.born; shut = old.shut; small = old.small };
        older = λ e _. refl;
        fewer = λ e _. omega arith;
      }

  visited : visits a was ≡ 0 → ⊥
  visited none = let one = when-same a m in some_hits (omega (arith, one, none))

  -- the epoch of the visit is the gate's, or the ended one, of which no word is cleared yet
  place : (a ≡ E) ⊎ IsEnded p a
  place = stands p a (λ closed. visited ((k.seats.fits id was here_is).shut a closed))

  apart_closed : (e : ℕ) → IsClosed p e → a ≢ e
  apart_closed e closed = closed_apart p e a closed place

  -- what the view has of each word
  gains : (j e t : ℕ) → part j e t now ≡ op j (part j e t was) (when e a (when j w (when t s x)))
  gains j e t =
      ap (op j (fold_of j e t es)) (when-op j e a (when j w (when t s x)) (laid j t ps) ∙ op-comm j (when e a (when j w (when t s x))) (when e a (laid j t ps)))
      ∙ sym (op-assoc j (fold_of j e t es) (when e a (laid j t ps)) (when e a (when j w (when t s x))))

  mine : merged w a s after ≡ op w (merged w a s views) x
  mine = merged_gains views id was now here_is w a s x (gains w a s ∙ ap (op w (part w a s was)) (when-same a _ ∙ when-same w _ ∙ when-same s x))

  other_epoch : (j e t : ℕ) → a ≢ e → merged j e t after ≡ merged j e t views
  other_epoch j e t apart = merged_stays views id was now here_is j e t (gains j e t ∙ ap (op j (part j e t was)) (when-other e a _ apart) ∙ op-unit j _)

  other_word : (j e t : ℕ) → w ≢ j → merged j e t after ≡ merged j e t views
  other_word j e t apart = merged_stays views id was now here_is j e t (gains j e t ∙ ap (op j (part j e t was)) (ap (when e a) (when-other j w _ apart) ∙ when-zero e a) ∙ op-unit j _)

  other_slot : (j e t : ℕ) → s ≢ t → merged j e t after ≡ merged j e t views
  other_slot j e t apart = merged_stays views id was now here_is j e t (gains j e t ∙ ap (op j (part j e t was)) (ap (when e a) (ap (when j w) (when-other t s x apart) ∙ when-zero j w) ∙ when-zero e a) ∙ op-unit j _)

  long : cell_word a w s < length words
  long = let z = k.size in omega (arith, z, word_is, inside)

  stays_word : (j : ℕ) → j ≢ cell_word a w s → slice_index changed j ≡ slice_index words j
  stays_word j apart = rw get_or-set_other refl

  -- each word of an epoch that its word served
  served : (e : ℕ) (j t : ℕ) → j < 4 → (e % 2 ≡ a % 2 → e ≡ a) → slice_index words (cell_word e j t) ≡ close j (merged j e t views) → slice_index changed (cell_word e j t) ≡ close j (merged j e t after)
  served e j t lt one was_so =
      dite (ℕ_discrete (cell_word e j t) (cell_word a w s))
      (λ (is : cell_word e j t ≡ cell_word a w s).
      let all = words_apart e j t a w s lt word_is is in
      let e_is : e ≡ a = one all.0 in
      let here_now : slice_index changed (cell_word a w s) ≡ new = (let l = long in rw get_or-set_same refl) in
      let before : slice_index words (cell_word a w s) ≡ close w (merged w a s views) = subst (λ (y : ℕ × ℕ × ℕ). slice_index words (cell_word y.0 y.1 y.2) ≡ close y.1 (merged y.1 y.0 y.2 views)) (λ i. (e_is i, all.1 i, all.2 i)) was_so in
      let at_a : slice_index changed (cell_word a w s) ≡ close w (merged w a s after) = here_now ∙ right (merged w a s views) before ∙ sym (ap (close w) mine) in
      subst (λ (y : ℕ × ℕ × ℕ). slice_index changed (cell_word y.0 y.1 y.2) ≡ close y.1 (merged y.1 y.0 y.2 after)) (λ i. (sym e_is i, sym all.1 i, sym all.2 i)) at_a)
      (λ (apart : cell_word e j t ≢ cell_word a w s).
      stays_word (cell_word e j t) apart ∙ was_so ∙ sym (ap (close j) (
      dite (ℕ_discrete a e)
      (λ (e_is : a ≡ e).
      dite (ℕ_discrete w j)
      (λ (w_is : w ≡ j). other_slot j e t (λ s_is. apart (sym (λ i. cell_word (e_is i) (w_is i) (s_is i)))))
      (λ (far : w ≢ j). other_word j e t far))
      (λ (far : a ≢ e). other_epoch j e t far))))

  cells : Cells slots p changed after
  cells =
      record {
        now = λ j t lt within. served E j t lt
            (⊎_elim (λ (is : a ≡ E). λ _. sym is) (λ (ended : IsEnded p a). λ z. absurd (let is = ended.last in omega (arith, is, z))) place)
            (k.cells.now j t lt within);
        before = λ un e is j t lt within late. served e j t lt
            (⊎_elim (λ (same : a ≡ E). λ z. absurd (omega (arith, is, same, z))) (λ (ended : IsEnded p a). λ _. (let it = ended.last in omega (arith, is, it))) place)
            (k.cells.before un e is j t lt within late);
        empty = λ j t lt within un.
            ⊎_elim
            (λ (is : a ≡ E). stays_word (cell_word (suc E) j t) (λ z. let all = words_apart (suc E) j t a w s lt word_is z in let par = all.0 in omega (arith, par, is)) ∙ k.cells.empty j t lt within un)
            (λ (ended : IsEnded p a). absurd (⊎_elim (λ (z : p.untaken ≡ 0). ended.untaken z) (λ (z : 4 * t + j < p.cleared). let none = ended.whole in omega (arith, z, none)) un))
            place;
      }

  still : IsStill slots p views after
  still =
      record {
        heres = λ e _. let t = moves p views k.seats id was now here_is step (here e) in omega (arith, t);
        merges = λ j e t _ _ closed. other_epoch j e t (apart_closed e closed);
      }

  pub lays_one : Kept slots changed after
  lays_one =
      record {
        phase = p;
        counts = record {
          complete = complete-set slots views id was now here_is refl k.counts.complete;
          tells = tells_after_pass slots p views id now refl still k.counts.tells;
        };
        size = length_set words (cell_word a w s) new ∙ k.size;
        seats = seats_after p views k.seats id was now here_is step;
        gates = gates_stay p words changed views after k.gates (λ i lt. stays_word i (λ z. omega (arith, lt, z))) (λ e. let t = moves p views k.seats id was now here_is step (here e) in omega (arith, t)) (λ e. let t = moves p views k.seats id was now here_is step (gone e) in omega (arith, t));
        cells = cells;
      }
