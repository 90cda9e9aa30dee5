use Rattle.std.proofs.Common.{◌≡◌, ℕ, ◌+◌, ◌*◌, ◌<◌, length}
use Rattle.std.specs.Prelude.{slice_index}
use Rattle.pm_bank.specs.Words.{cell_word}
use Rattle.pm_bank.proofs.bank.blank_words.Given as goal

abbrev pub invariant-loop-s : goal.invariant-loop-s
invariant-loop-s l =
    (length l.words.items ≡ 8 + 8 * l.slots)
    × ((i : ℕ) → i < 8 → slice_index l.words.items i ≡ 0)
    × ((k s e : ℕ) → k < 3 → slice_index l.words.items (cell_word e k s) ≡ 0)
    × ((s e : ℕ) → s < l.s → slice_index l.words.items (cell_word e 3 s) ≡ 4294967295)
