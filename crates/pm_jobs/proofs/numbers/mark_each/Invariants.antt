use Rattle.std.proofs.Common.{◌≡◌, ℕ, ◌<◌, ◌||◌, ◌==◌, false, length, take, get_or}
use Rattle.std.specs.List.{list_any}
use Rattle.pm_jobs.proofs.numbers.mark_each.Given as goal

abbrev pub invariant-loop-number : goal.invariant-loop-number
invariant-loop-number l =
    (k : ℕ) → k < length l.fn.marks
    → get_or l.marks k false ≡ (get_or l.fn.marks k false || list_any (λ n. n == k) (take l.number-index l.numbers))
