-- Which object contains which (TS 28.541).
use Rattle.std.specs.Prelude.{◌-◌, ℕ, Bool, Option, List, [], ◌∷◌, length, map, take}
use Rattle.std.specs.List.{find}
use Rattle.std.specs.Str.{bytes_eq}
use Rattle.std.specs.Cmp.Lexicographic.{pointwise}
use Rattle.pm_base.specs.declared.Class.{Class}
use Rattle.pm_base.specs.declared.Class.TheVariants.{ManagedElement, GnbCuCp, NrCellCu, GnbDu, NrCellDu}
use Rattle.pm_base.specs.declared.class.TheConstants.{CLASSES}
use Rattle.pm_base.specs.Class.{class_name}
use Rattle.pm_dn.specs.Name.{Part, name_of, name_text}

-- The classes from the root down to a class.
abbrev pub path_to : Class → List Class
path_to ManagedElement = ManagedElement ∷ []
path_to GnbCuCp = ManagedElement ∷ GnbCuCp ∷ []
path_to NrCellCu = ManagedElement ∷ GnbCuCp ∷ NrCellCu ∷ []
path_to GnbDu = ManagedElement ∷ GnbDu ∷ []
path_to NrCellDu = ManagedElement ∷ GnbDu ∷ NrCellDu ∷ []

-- The classes that stand in the parts of a text.
abbrev pub classes_of : List ℕ → List (List ℕ)
classes_of text = map (λ (part : Part). part.class) (name_of text)

-- Whether they are the path to the class.
abbrev pub has_path_to : Class → List ℕ → Bool
has_path_to class text = pointwise bytes_eq (classes_of text) (map class_name (path_to class))

-- The class to which the parts of a text are the path.
abbrev pub class_of : List ℕ → Option Class
class_of text = find (λ class. has_path_to class text) CLASSES

-- The text of the name without its last part: that of the object which contains this one.
abbrev pub superior_text : List ℕ → List ℕ
superior_text text = name_text (take (length (name_of text) - 1) (name_of text))
