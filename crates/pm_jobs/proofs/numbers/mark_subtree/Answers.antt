use Rattle.std.proofs.Common.{◌≡◌, ◌∙◌, ap}
use Rattle.std.specs.List.{list_any}
use Rattle.std.specs.Prelude.{◌==◌}
use Rattle.pm_dn.specs.Tree.{is_under, numbers_where}
use Rattle.pm_dn.proofs.TreeLemmas.{stands-none}
use Rattle.pm_jobs.proofs.MarkLemmas.{more_marks, among_numbers}
use Rattle.pm_jobs.proofs.numbers.mark_subtree.Goals as goal

pub returns-in_ok-below-in-Some : goal.returns-in_ok-below-in-Some
returns-in_ok-below-in-Some c =
    let tree = c.args.tree.now in
    let root = c.args.root.now in
    let numbers : c.deref.result.now ≡ numbers_where (is_under root) tree =
    c.deref.ensures.value ∙ c.in_ok-below-in-Some.ensures ∙ ap (λ t. numbers_where (is_under t) tree) c.in-Some.ensures.found.1 in
    λ p are.
    more_marks tree p (is_under root) c.args.marks.now c.mark_each.new.marks c.deref.result.now c.mark_each.auto.marks c.mark_each.ensures
    (λ k lt. ap (λ ns. list_any (λ n. n == k) ns) numbers ∙ among_numbers (is_under root) tree k lt) are

pub returns-in-None : goal.returns-in-None
returns-in-None c = let none = stands-none c.args.tree.now c.args.root.now c.in-None.ensures.found in cc (none, c.requires)
