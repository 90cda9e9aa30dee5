use Rattle.std.proofs.Common.{get_or, [], ◌∷◌, bytes_eq, sym, ap, ◌∙◌, ◌||◌}
use Rattle.pm_jobs.proofs.MarkLemmas.{more_marks, same_marks, among_one, among_none, or_none}
use Rattle.pm_jobs.proofs.numbers.mark_object.Goals as goal

pub returns-in-Some : goal.returns-in-Some
returns-in-Some c =
    let tree = c.args.tree.now in
    let name = c.args.name.now in
    λ p are.
    more_marks tree p (λ n. bytes_eq n name) c.args.marks.now c.mark_each.new.marks (c.in-Some.object ∷ []) c.mark_each.auto.marks c.mark_each.ensures
    (λ k lt. among_one tree name c.in-Some.object k lt c.in-Some.ensures.found c.in-Some.ensures.alone) are

pub returns-in-None : goal.returns-in-None
returns-in-None c =
    let tree = c.args.tree.now in
    let name = c.args.name.now in
    λ p are.
    same_marks tree p _ c.args.marks.now
    (λ k lt. sym (or_none (p (get_or tree k []))) ∙ ap (λ b. p (get_or tree k []) || b) (among_none tree name k lt c.in-None.ensures.found)) are
