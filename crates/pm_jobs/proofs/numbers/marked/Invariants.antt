use Rattle.std.proofs.Common.{◌≡◌, ℕ, List, Bool, length, take}
use Rattle.pm_dn.specs.Tree.{numbers_where}
use Rattle.pm_jobs.specs.Marks.{AreMarks}
use Rattle.pm_jobs.proofs.numbers.marked.Given as goal

abbrev pub invariant-loop-object : goal.invariant-loop-object
invariant-loop-object l =
    (tree : List (List ℕ)) (p : List ℕ → Bool) → l.end ≡ length tree → AreMarks tree p l.marks
    → l.objects.items ≡ numbers_where p (take l.object tree)
