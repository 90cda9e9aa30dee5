use Rattle.std.proofs.Common.{ℕ, List, Bool, ◌||◌, bytes_eq, take, map, string_bytes}
use Rattle.std.specs.List.{list_any}
use Rattle.pm_jobs.specs.Marks.{AreMarks}
use Rattle.pm_jobs.proofs.numbers.mark_objects.Given as goal

abbrev pub invariant-loop-name : goal.invariant-loop-name
invariant-loop-name l =
    (p : List ℕ → Bool) → AreMarks l.tree p l.fn.marks → AreMarks l.tree (λ n. p n || list_any (bytes_eq n) (map string_bytes (take l.name-index l.names))) l.marks
