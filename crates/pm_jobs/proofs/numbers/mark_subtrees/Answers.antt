use Rattle.std.proofs.Common.{◌≡◌, ◌∙◌, ◌||◌, [], get_or, take, map, string_bytes, sym, ap}
use Rattle.std.specs.List.{list_any}
use Rattle.std.proofs.lemmas.List.{take_all}
use Rattle.std.proofs.lemmas.List.Folds.{list_all-map}
use Rattle.pm_dn.specs.Tree.{stands, is_under}
use Rattle.pm_jobs.proofs.MarkLemmas.{same_marks}
use Rattle.pm_jobs.proofs.StepLemmas.{more_names, each_passes}
use Rattle.pm_jobs.proofs.numbers.mark_subtrees.Goals as goal

pub mark_subtree-requires : goal.mark_subtree-requires
mark_subtree-requires c =
    let tree = c.args.tree.now in
    let roots = c.args.roots.now in
    let i = c.loop-root.root-index in
    let d = c.root-item.result in
    ap (stands tree) (c.as_bytes.ensures.value ∙ ap string_bytes c.root-item.is)
    ∙ each_passes (λ r. stands tree (string_bytes r)) roots i d c.loop-root-test.true (sym (list_all-map (stands tree) string_bytes roots) ∙ c.requires)

pub loop-root-preserved : goal.loop-root-preserved
loop-root-preserved c =
    let tree = c.args.tree.now in
    let roots = c.args.roots.now in
    let i = c.loop-root.root-index in
    let d = c.root-item.result in
    let root : c.as_bytes.result.now ≡ string_bytes (get_or roots i d) = c.as_bytes.ensures.value ∙ ap string_bytes c.root-item.is in
    λ p are.
    same_marks tree _ _ c.mark_subtree.new.marks
    (λ k lt. more_names string_bytes (λ r. is_under r (get_or tree k [])) roots i d (p (get_or tree k [])) c.loop-root-test.true)
    (rw root at (c.in_ok-mark_subtree.ensures (λ n. p n || list_any (λ r. is_under r n) (map string_bytes (take i roots))) (c.loop-root.invariant p are)))

pub returns : goal.returns
returns c =
    let all = take_all c.loop-root.root-index c.args.roots.now c.loop-root-test.false in
    λ p are. rw all at (c.loop-root.invariant p are)
