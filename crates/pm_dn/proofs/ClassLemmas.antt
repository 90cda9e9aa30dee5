-- The class of a name is the one to which its parts are the path.
use Rattle.std.proofs.Common.{◌≡◌, ◌∙◌, ℕ, Bool, true, false, cond, List, [], ◌∷◌, Option, Some, map, refl, sym, ap}
use Rattle.std.specs.List.{find}
use Rattle.std.specs.Str.{bytes_eq}
use Rattle.std.specs.Cmp.Lexicographic.{pointwise}
use Rattle.std.proofs.lemmas.Bool.{false_from_ne_true}
use Rattle.std.proofs.lemmas.Slice.Eq.{bytes_eq-Decides, slice_eq-Decides}
use Rattle.pm_base.specs.declared.Class.{Class}
use Rattle.pm_base.specs.declared.Class.TheVariants.{ManagedElement, GnbCuCp, NrCellCu, GnbDu, NrCellDu}
use Rattle.pm_base.specs.declared.class.TheConstants.{CLASSES}
use Rattle.pm_base.specs.Class.{class_name}
use Rattle.pm_dn.specs.Containment.{path_to, classes_of, has_path_to, class_of}

find-step : {X : Type 0} (here : Bool) (x y : X) (later : Option X) (p : X → Bool) → p x ≡ here → cond here (Some x) later ≡ Some y → (later ≡ Some y → p y ≡ true) → p y ≡ true
find-step true x y later p passes is rest = let same : x ≡ y = cc in ap p (sym same) ∙ passes
find-step false x y later p passes is rest = rest is

find-passes : {X : Type 0} (p : X → Bool) (xs : List X) (y : X) → find p xs ≡ Some y → p y ≡ true
find-passes p [] y is = cc
find-passes p (x ∷ xs) y is = find-step (p x) x y (find p xs) p refl is (find-passes p xs y)

-- the parts are the path to the class
pub has_path_to-class_of : (text : List ℕ) (class : Class) → class_of text ≡ Some class → has_path_to class text ≡ true
has_path_to-class_of text class is = find-passes (λ class. has_path_to class text) CLASSES class is

-- no two classes have one path
paths-apart : (c d : Class) → pointwise bytes_eq (map class_name (path_to c)) (map class_name (path_to d)) ≡ true → c ≡ d
paths-apart ManagedElement ManagedElement is = refl
paths-apart GnbCuCp GnbCuCp is = refl
paths-apart NrCellCu NrCellCu is = refl
paths-apart GnbDu GnbDu is = refl
paths-apart NrCellDu NrCellDu is = refl
paths-apart ManagedElement _ is = cc
paths-apart GnbCuCp _ is = cc
paths-apart NrCellCu _ is = cc
paths-apart GnbDu _ is = cc
paths-apart NrCellDu _ is = cc

path-of-text : (text : List ℕ) (class : Class) → has_path_to class text ≡ true → classes_of text ≡ map class_name (path_to class)
path-of-text text class is = (slice_eq-Decides bytes_eq-Decides (classes_of text) (map class_name (path_to class)) (has_path_to class text) refl).0 is

-- the parts are the path to one class alone
pub has_path_to-alone : (text : List ℕ) (c d : Class) → has_path_to c text ≡ true → has_path_to d text ≡ true → c ≡ d
has_path_to-alone text c d first second =
    let paths : map class_name (path_to c) ≡ map class_name (path_to d) = sym (path-of-text text c first) ∙ path-of-text text d second in
    paths-apart c d ((slice_eq-Decides bytes_eq-Decides (map class_name (path_to c)) (map class_name (path_to d)) _ refl).1 paths)

pub has_path_to-same : (text : List ℕ) (c d : Class) → class_of text ≡ Some c → c ≡ d → has_path_to d text ≡ true
has_path_to-same text c d is same = ap (λ class. has_path_to class text) (sym same) ∙ has_path_to-class_of text c is

pub has_path_to-other : (text : List ℕ) (c d : Class) → class_of text ≡ Some c → (c ≡ d → ⊥) → has_path_to d text ≡ false
has_path_to-other text c d is other = false_from_ne_true (has_path_to d text) (λ passes. other (has_path_to-alone text c d (has_path_to-class_of text c is) passes))
