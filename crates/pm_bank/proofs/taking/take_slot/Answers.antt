use Rattle.std.proofs.Common.{◌≡◌, ◌<◌, ℕ, zero, suc, List, ap, ◌∙◌, arith}
use Rattle.atomic_table.specs.Table.{Me}
use Rattle.pm_meas.specs.declared.cell.Cell.{Cell}
use Rattle.pm_bank.specs.declared.view.View.{View}
use Rattle.pm_bank.specs.declared.view.Entry.{Entry}
use Rattle.pm_bank.specs.Words.{exact, fold_of, word_of}
use Rattle.pm_bank.proofs.EntryLemmas.{cell-in}
use Rattle.pm_bank.proofs.taking.take_slot.Goals as goal

-- four words, each of which is its merge
by_words : (c : Cell) (e s : ℕ) (es : List Entry) → c.n ≡ fold_of 0 e s es → c.sum ≡ fold_of 1 e s es → c.max ≡ fold_of 2 e s es → c.min ≡ exact 3 (fold_of 3 e s es) → (k : ℕ) → k < 4 → word_of k c ≡ exact k (fold_of k e s es)
by_words c e s es n sum max min zero lt = n
by_words c e s es n sum max min (suc zero) lt = sum
by_words c e s es n sum max min (suc (suc zero)) lt = max
by_words c e s es n sum max min (suc (suc (suc zero))) lt = min
by_words c e s es n sum max min (suc (suc (suc (suc k)))) lt = absurd (omega (arith, lt))

pub returns-clause-folds : goal.returns-clause-folds
returns-clause-folds c none =
    let es = c.args.seat.now.me.0.entries in
    let e = c.args.ended in
    let s = c.args.slot in
    let n_me = c.take_word-n.ensures.seat.1 in
    let sum_me = c.take_word-sum.ensures.seat.1 in
    let max_me = c.take_word-max.ensures.seat.1 in
    let older_n = ap (λ (y : Me (Unit {0}) View). y.0.numbers.older) n_me ∙ none in
    let older_sum = ap (λ (y : Me (Unit {0}) View). y.0.numbers.older) sum_me ∙ older_n in
    let older_max = ap (λ (y : Me (Unit {0}) View). y.0.numbers.older) max_me ∙ older_sum in
    let es_n = ap (λ (y : Me (Unit {0}) View). y.0.entries) n_me in
    let es_sum = ap (λ (y : Me (Unit {0}) View). y.0.entries) sum_me ∙ es_n in
    let es_max = ap (λ (y : Me (Unit {0}) View). y.0.entries) max_me ∙ es_sum in
    let cell : Cell = record { n = c.take_word-n.result; sum = c.take_word-sum.result; max = c.take_word-max.result; min = c.take_word-min.result } in
    cell-in e s es cell c.requires.small
    (by_words cell e s es
    (c.take_word-n.ensures.folds none)
    (c.take_word-sum.ensures.folds older_n ∙ ap (fold_of 1 e s) es_n)
    (c.take_word-max.ensures.folds older_sum ∙ ap (fold_of 2 e s) es_sum)
    (c.take_word-min.ensures.folds older_max ∙ ap (λ (l : List Entry). exact 3 (fold_of 3 e s l)) es_max))
