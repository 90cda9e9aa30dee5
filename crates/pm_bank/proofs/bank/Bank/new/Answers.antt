use Rattle.std.proofs.Common.{rules, ◌≡◌, ℕ, List, length, ◌+◌, ◌*◌, ap, ◌∙◌}
use Rattle.std.specs.Prelude.{slice_index}
use Rattle.pm_bank.specs.Words.{cell_word}
use Rattle.pm_bank.proofs.Opens.{opens}
use Rattle.pm_bank.proofs.bank.Bank.new.Goals as goal

pub of_words-requires : goal.of_words-requires
of_words-requires c =
    let made = c.in-Ok.ensures in
    let same : c.as_slice.result.now ≡ c.in-Ok.words.items = search rules in
    let size : length c.as_slice.result.now ≡ 8 + 8 * c.args.slots = ap (λ (l : List ℕ). length l) same ∙ made.size in
    opens c.args.slots c.as_slice.result.now size (λ i lt. ap (λ (l : List ℕ). slice_index l i) same ∙ made.heads i lt) (λ k s e lt inside. ap (λ (l : List ℕ). slice_index l (cell_word e k s)) same ∙ made.blank k s e lt inside)
