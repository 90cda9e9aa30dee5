-- What the four words of a slot make of events. Word 0 is how many, 1 their sum, 2 the greatest value, and 3 the least.
-- Each is a merge with 0 for its unit: the least is merged as the greatest of 4,294,967,295 less each value.
use Rattle.std.specs.Prelude.{ℕ, zero, suc, ◌+◌, ◌-◌, ◌*◌, ◌%◌, List, [], ◌∷◌, max, ◌==◌, if◌then◌else◌}
use Rattle.pm_meas.specs.declared.cell.Cell.{Cell}
use Rattle.pm_bank.specs.declared.view.Hit.{Hit}
use Rattle.pm_bank.specs.declared.view.Entry.{Entry}
use Rattle.pm_bank.specs.declared.view.Part.{Part}
use Rattle.pm_bank.specs.Entries.{when}

-- the place of the word k of a slot in an epoch
abbrev pub cell_word : ℕ → ℕ → ℕ → ℕ
cell_word e k s = 8 + 8 * s + 4 * (e % 2) + k

-- how the word k merges
abbrev pub op : ℕ → ℕ → ℕ → ℕ
op zero a b = a + b
op (suc zero) a b = a + b
op (suc (suc k)) a b = max a b

-- what a value adds to the merge
abbrev pub amount : ℕ → ℕ → ℕ
amount zero x = 1
amount (suc zero) x = x
amount (suc (suc zero)) x = x
amount (suc (suc (suc k))) x = 4294967295 - x

-- the number that stands for a merge
abbrev pub exact : ℕ → ℕ → ℕ
exact zero m = m
exact (suc zero) m = m
exact (suc (suc zero)) m = m
exact (suc (suc (suc k))) m = 4294967295 - m

-- the word that stands for a merge: sums are kept modulo 2^64
abbrev pub close : ℕ → ℕ → ℕ
close zero m = m % 18446744073709551616
close (suc zero) m = m % 18446744073709551616
close (suc (suc zero)) m = m
close (suc (suc (suc k))) m = 4294967295 - m

-- the merge of the events of a run, of entries, and of what was laid
abbrev pub run_fold : ℕ → ℕ → List Hit → ℕ
run_fold k s [] = 0
run_fold k s (h ∷ hs) = op k (when s h.slot (amount k h.value)) (run_fold k s hs)

abbrev pub fold_of : ℕ → ℕ → ℕ → List Entry → ℕ
fold_of k e s [] = 0
fold_of k e s (x ∷ xs) = op k (when e x.epoch (when s x.slot (amount k x.value))) (fold_of k e s xs)

abbrev pub laid : ℕ → ℕ → List Part → ℕ
laid k s [] = 0
laid k s (x ∷ xs) = op k (when k x.word (when s x.slot x.amount)) (laid k s xs)

-- what was found last at the word k of a slot
abbrev pub found_at : ℕ → ℕ → List Part → ℕ
found_at k s [] = 0
found_at k s (x ∷ xs) = if x.word == k then (if x.slot == s then x.amount else found_at k s xs) else found_at k s xs

-- how many entries of an epoch, and how many events of a run, are of the first n slots
abbrev pub spread : ℕ → ℕ → List Entry → ℕ
spread zero e es = 0
spread (suc s) e es = fold_of 0 e s es + spread s e es

abbrev pub run_spread : ℕ → List Hit → ℕ
run_spread zero hs = 0
run_spread (suc s) hs = run_fold 0 s hs + run_spread s hs

-- the word k of a cell
abbrev pub word_of : ℕ → Cell → ℕ
word_of zero c = c.n
word_of (suc zero) c = c.sum
word_of (suc (suc zero)) c = c.max
word_of (suc (suc (suc k))) c = c.min
