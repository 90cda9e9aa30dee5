-- The objects of a tree, seen as the texts of their names.
use Rattle.std.proofs.Common.{◌≡◌, ◌∙◌, ℕ, ◌<◌, List, [], ◌∷◌, ◌++◌, None, length, get_or, map, sym, ap, subst}
use Rattle.std.proofs.lemmas.List.{length-map, get_or-map, map-append}
use Rattle.pm_dn.specs.Tree.{IsTree, StandsAt, add_refusal}
use Rattle.pm_dn.specs.declared.object.Object.{Object}
use Rattle.pm_dn.proofs.TreeLemmas.{IsTree-push}

abbrev pub texts_of : List Object → List (List ℕ)
texts_of objects = map (λ (o : Object). o.text) objects

-- an object that is read at a place stands there in the tree
pub StandsAt-object : (objects : List Object) (tree : List (List ℕ)) (name : List ℕ) (i : ℕ) (object : Object) → texts_of objects ≡ tree → i < length objects → object ≡ get_or objects i object → object.text ≡ name → StandsAt tree name i
StandsAt-object objects tree name i object view lt read is =
    let text : get_or (texts_of objects) i [] ≡ object.text = get_or-map (λ (o : Object). o.text) objects i object [] lt ∙ ap (λ (o : Object). o.text) (sym read) in
    subst (λ t. StandsAt t name i) view (rw length-map lt, text ∙ is)

-- one more object that nothing refuses
pub IsTree-object : (objects new : List Object) (tree : List (List ℕ)) (name : List ℕ) (object : Object) → texts_of objects ≡ tree → IsTree (texts_of objects) → add_refusal tree name ≡ None → object.text ≡ name → new ≡ objects ++ object ∷ [] → IsTree (texts_of new)
IsTree-object objects new tree name object view is none text pushed =
    let more : texts_of new ≡ texts_of objects ++ name ∷ [] =
    ap texts_of pushed ∙ map-append (λ (o : Object). o.text) objects (object ∷ []) ∙ ap (λ t. texts_of objects ++ t ∷ []) text in
    subst IsTree (sym more) (IsTree-push (texts_of objects) name is (ap (λ t. add_refusal t name) view ∙ none))
