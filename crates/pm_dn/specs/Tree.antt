-- The tree of managed objects: the texts of their names, in the order in which they were added (this project's own).
use Rattle.std.specs.Prelude.{◌≡◌, ◌<◌, ◌&&◌, ℕ, Bool, not, nat_le, is_none, Option, Some, None, MatchOption, List, [], ◌∷◌, length, map, take, filter, slice_index_or}
use Rattle.std.specs.List.{list_any, starts_with, enumerate_from}
use Rattle.std.specs.Option.{option_map}
use Rattle.std.specs.Str.{bytes_eq}
use Rattle.pm_base.specs.declared.Class.{Class}
use Rattle.pm_base.specs.declared.Class.TheVariants.{ManagedElement}
use Rattle.pm_base.specs.declared.code.Code.{Code}
use Rattle.pm_base.specs.declared.code.Code.TheVariants as code
use Rattle.pm_dn.specs.Name.{Part, name_of}
use Rattle.pm_dn.specs.Refusal.{when_broken, first_code, name_refusal}
use Rattle.pm_dn.specs.Containment.{has_path_to, class_of, superior_text}
use Rattle.pm_dn.specs.declared.tree.TheConstants.{MAX_OBJECTS}
use Rattle.pm_dn.specs.declared.error.DnError.{DnError}
use Rattle.pm_dn.specs.declared.error.TreeError.{TreeError}
use Rattle.pm_dn.specs.declared.error.DnError.TheVariants as dn
use Rattle.pm_dn.specs.declared.error.TreeError.TheVariants.{N1, N2, N3, N4, N5, N6, N7, N8, N9, N10, Memory}

-- A name is refused by the same code here.
abbrev pub tree_error : DnError → TreeError
tree_error dn.N4 = N4
tree_error dn.N1 = N1
tree_error dn.N2 = N2
tree_error dn.N3 = N3
tree_error dn.N5 = N5
tree_error dn.Memory = Memory

-- The code of an answer.
abbrev pub tree_code : TreeError → Code
tree_code N1 = code.N1
tree_code N2 = code.N2
tree_code N3 = code.N3
tree_code N4 = code.N4
tree_code N5 = code.N5
tree_code N6 = code.N6
tree_code N7 = code.N7
tree_code N8 = code.N8
tree_code N9 = code.N9
tree_code N10 = code.N10
tree_code Memory = code.MEM

-- Whether an object of this name stands.
abbrev pub stands : List (List ℕ) → List ℕ → Bool
stands tree text = list_any (λ other. bytes_eq other text) tree

-- The object of this number has this name.
abbrev pub StandsAt : List (List ℕ) → List ℕ → ℕ → Type 0
StandsAt tree text object = (object < length tree) × (slice_index_or tree object [] ≡ text)

-- The answer is the number of the object of this name; none where no object has it.
abbrev pub FindsObject : List (List ℕ) → List ℕ → Option ℕ → Type 0
FindsObject tree text answer = MatchOption answer ((object : ℕ) → StandsAt tree text object → ⊥) (StandsAt tree text)

-- Whether the name is that of a root.
abbrev pub is_root : List ℕ → Bool
is_root text = has_path_to ManagedElement text

-- The rules for a further object, in their order.
abbrev pub add_refusal : List (List ℕ) → List ℕ → Option TreeError
add_refusal tree text =
    first_code
    (option_map tree_error (name_refusal text)
    ∷ when_broken (is_none (class_of text)) N6
    ∷ when_broken (stands tree text) N8
    ∷ when_broken (is_root text && list_any is_root tree) N10
    ∷ when_broken (not (is_root text) && not (stands tree (superior_text text))) N7
    ∷ when_broken (nat_le MAX_OBJECTS (length tree)) N9
    ∷ [])

-- The rule that an answer names; out of memory names none.
abbrev pub rule_of : TreeError → Option TreeError
rule_of Memory = None
rule_of e = Some e

-- Each object was one that the objects before it let in.
abbrev pub IsTree : List (List ℕ) → Type 0
IsTree tree =
    (object : ℕ) → object < length tree → add_refusal (take object tree) (slice_index_or tree object []) ≡ None

-- The numbers of the objects that pass a test, in tree order.
abbrev pub numbers_where : (List ℕ → Bool) → List (List ℕ) → List ℕ
numbers_where passes tree =
    map (λ (object : ℕ × List ℕ). object.0) (filter (λ object. passes object.1) (enumerate_from 0 tree))

-- Whether two parts are the same.
abbrev pub part_eq : Part → Part → Bool
part_eq a b = bytes_eq a.class b.class && bytes_eq a.id b.id

-- Whether the parts of the name begin with all those of the root's name.
abbrev pub is_under : List ℕ → List ℕ → Bool
is_under root text = starts_with part_eq (name_of text) (name_of root)

-- The root and all objects below it, in tree order.
abbrev pub subtree_of : List (List ℕ) → ℕ → List ℕ
subtree_of tree root = numbers_where (is_under (slice_index_or tree root [])) tree

-- The objects of a class, in tree order.
abbrev pub objects_of : List (List ℕ) → Class → List ℕ
objects_of tree class = numbers_where (has_path_to class) tree
