use Rattle.std.proofs.Common.{◌≤◌, ◌∙◌, ℕ, List, false, length, map, string_bytes, ap, arith}
use Rattle.std.proofs.Math.ListN.{replicate}
use Rattle.std.proofs.lemmas.List.{get_or-replicate}
use Rattle.std.proofs.lemmas.Result.{IfOk-weaker}
use Rattle.pm_dn.specs.Tree.{numbers_where}
use Rattle.pm_asked.specs.Asked.{is_asked}
use Rattle.pm_jobs.specs.Marks.{AreMarks}
use Rattle.pm_jobs.proofs.PlacesWithinLemmas.{places_below, places_few}
use Rattle.pm_jobs.proofs.numbers.object_numbers.Goals as goal

none : (tree : List (List ℕ)) → length tree ≤ 256 → AreMarks tree (λ n. false) (replicate 256 false)
none tree few = record { long = few; each = λ k lt. get_or-replicate 256 k false false (omega (arith, lt, few)) }

pub returns : goal.returns
returns c =
    let tree = c.tree-tree.result.now in
    let few : length tree ≤ 256 = omega (arith, c.len.ensures.value, c.len.ensures.most) in
    let singly = c.mark_objects.ensures (λ n. false) (none tree few) in
    let all = c.in_ok-mark_subtrees.ensures _ singly in
    let passes = is_asked (map string_bytes c.args.objects.now) (map string_bytes c.args.roots.now) in
    let within = places_few passes tree in
    record {
      numbers = IfOk-weaker c.marked.result _ _ (λ v is. is tree passes c.len.ensures.value all ∙ ap (numbers_where passes) c.tree-tree.ensures) c.marked.ensures;
      below = IfOk-weaker c.marked.result _ _ (λ v is. rw (is tree passes c.len.ensures.value all, ← c.tree-tree.ensures) (places_below passes tree)) c.marked.ensures;
      few = IfOk-weaker c.marked.result _ _ (λ v is. rw (is tree passes c.len.ensures.value all) (omega (arith, within, few))) c.marked.ensures;
    }
