-- The first object of an inventory is its ManagedElement.
use Rattle.std.proofs.Common.{◌≡◌, ℕ, ◌<◌, ◌&&◌, All, not, Bool, true, false, List, [], ◌∷◌, ◌++◌, length, map, get_or, refl, sym, ap, ◌∙◌, subst, arith, codes, None}
use Rattle.std.specs.List.{list_any}
use Rattle.std.proofs.lemmas.List.Elements.{All-head}
use Rattle.std.proofs.lemmas.Slice.Eq.{bytes_eq-Decides, slice_eq-Decides}
use Rattle.pm_base.specs.Names.{IsDnId}
use Rattle.pm_base.specs.declared.Class.TheVariants.{ManagedElement}
use Rattle.pm_base.specs.Class.{class_name}
use Rattle.pm_dn.specs.Name.{Part, IsPart, part_text, name_text, name_of}
use Rattle.pm_dn.specs.Containment.{path_to, classes_of}
use Rattle.pm_dn.specs.Refusal.{name_refusal}
use Rattle.pm_dn.specs.Tree.{is_root, IsTree}
use Rattle.pm_dn.proofs.NameLemmas.{IsNameOf-name_of}
use Rattle.pm_dn.proofs.TreeLemmas.{IsLetIn-from_refusal}
use Rattle.pm_form.proofs.NameLemmas.{dn_id-IsDnId}
use Rattle.pm_file.specs.ReportForm.{element_name}

one_part : (ps : List Part) (c : List ℕ) → map (λ (p : Part). p.class) ps ≡ c ∷ [] → (p : Part) × (ps ≡ p ∷ []) × (p.class ≡ c)
one_part [] c e = absurd cc
one_part (p ∷ []) c e = (p, refl, cc)
one_part (p ∷ q ∷ ps) c e = absurd cc

named : (id : List ℕ) → IsDnId id → element_name (codes "ManagedElement" ++ 61 ∷ id) ≡ true
named id is = dn_id-IsDnId id is

-- the name of a root is that of a ManagedElement
pub root_name : (text : List ℕ) → name_refusal text ≡ None → is_root text ≡ true → element_name text ≡ true
root_name text none root =
    let is = IsNameOf-name_of text none in
    let classes : classes_of text ≡ map class_name (path_to ManagedElement) =
    (slice_eq-Decides bytes_eq-Decides (classes_of text) (map class_name (path_to ManagedElement)) (is_root text) refl).0 root in
    let one = one_part (name_of text) (codes "ManagedElement") classes in
    let whole : part_text one.0 ≡ text = ap name_text (sym one.1) ∙ is.text in
    let same : codes "ManagedElement" ++ 61 ∷ one.0.id ≡ text = ap (λ c. c ++ 61 ∷ one.0.id) (sym one.2) ∙ whole in
    let parts = subst (λ (ps : List Part). All IsPart ps) one.1 is.parts in
    let part : IsPart one.0 = All-head IsPart one.0 [] parts in
    subst (λ (s : List ℕ). element_name s ≡ true) same (named one.0.id part.id_is)

by_superior : (root : Bool) → (not root && not false) ≡ false → root ≡ true
by_superior true e = refl
by_superior false e = cc

-- the first object of a tree is its root
pub root_first : (tree : List (List ℕ)) → IsTree tree → 0 < length tree → is_root (get_or tree 0 []) ≡ true
root_first [] is lt = absurd (omega arith)
root_first (text ∷ tree) is lt = by_superior (is_root text) (IsLetIn-from_refusal [] text (is 0 (omega arith))).superior

pub some_object : (tree : List (List ℕ)) → list_any is_root tree ≡ true → 0 < length tree
some_object [] e = cc
some_object (text ∷ tree) e = omega arith
