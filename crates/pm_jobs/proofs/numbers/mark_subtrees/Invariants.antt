use Rattle.std.proofs.Common.{ℕ, List, Bool, ◌||◌, take, map, string_bytes}
use Rattle.std.specs.List.{list_any}
use Rattle.pm_dn.specs.Tree.{is_under}
use Rattle.pm_jobs.specs.Marks.{AreMarks}
use Rattle.pm_jobs.proofs.numbers.mark_subtrees.Given as goal

abbrev pub invariant-loop-root : goal.invariant-loop-root
invariant-loop-root l =
    (p : List ℕ → Bool) → AreMarks l.tree p l.fn.marks
    → AreMarks l.tree (λ n. p n || list_any (λ root. is_under root n) (map string_bytes (take l.root-index l.roots))) l.marks
