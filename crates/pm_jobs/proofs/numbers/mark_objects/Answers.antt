use Rattle.std.proofs.Common.{◌≡◌, ◌∙◌, ◌||◌, [], get_or, take, map, string_bytes, bytes_eq, ap}
use Rattle.std.specs.List.{list_any}
use Rattle.std.proofs.lemmas.List.{take_all}
use Rattle.pm_jobs.proofs.MarkLemmas.{same_marks}
use Rattle.pm_jobs.proofs.StepLemmas.{more_names}
use Rattle.pm_jobs.proofs.numbers.mark_objects.Goals as goal

pub loop-name-preserved : goal.loop-name-preserved
loop-name-preserved c =
    let tree = c.args.tree.now in
    let names = c.args.names.now in
    let i = c.loop-name.name-index in
    let d = c.name-item.result in
    let name : c.as_bytes.result.now ≡ string_bytes (get_or names i d) = c.as_bytes.ensures.value ∙ ap string_bytes c.name-item.is in
    λ p are.
    same_marks tree _ _ c.mark_object.new.marks
    (λ k lt. more_names string_bytes (bytes_eq (get_or tree k [])) names i d (p (get_or tree k [])) c.loop-name-test.true)
    (rw name at (c.mark_object.ensures (λ n. p n || list_any (bytes_eq n) (map string_bytes (take i names))) (c.loop-name.invariant p are)))

pub returns : goal.returns
returns c =
    let all = take_all c.loop-name.name-index c.args.names.now c.loop-name-test.false in
    λ p are. rw all at (c.loop-name.invariant p are)
