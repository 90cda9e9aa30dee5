use Rattle.std.proofs.Common.{◌≡◌, ◌∙◌, ℕ, List, [], get_or, true, sym, ap, subst}
use Rattle.std.specs.List.{list_any}
use Rattle.pm_dn.specs.Tree.{is_root}
use Rattle.pm_ready.proofs.ElementLemmas.{root_name, root_first, some_object}
use Rattle.pm_ready.proofs.element.managed_element.Goals as goal

pub returns-clause-element : goal.returns-clause-element
returns-clause-element c =
    let tree : List (List ℕ) = c.tree-tree.result.now in
    let some : list_any is_root tree ≡ true = subst (λ (t : List (List ℕ)). list_any is_root t ≡ true) (sym c.tree-tree.ensures) c.slots-slots.ensures.root in
    let first : is_root (get_or tree 0 []) ≡ true = root_first tree c.len-objects.ensures.let_in (some_object tree some) in
    root_name c.text.result.now c.text.ensures.named (ap is_root c.text.ensures.value ∙ first)
