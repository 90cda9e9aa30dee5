-- The line of an inventory that defines a measurement, behind its first word (this project's own; the kinds are those of TS 32.404).
use Rattle.std.specs.Prelude.{◌≡◌, ◌≢◌, ◌≤◌, ◌⊎◌, ℕ, List, [], ◌∷◌, length, codes, slice_index_or, drop}
use Rattle.std.specs.List.{join_with_byte}
use Rattle.std.specs.Fmt.{decimal}
use Rattle.pm_base.specs.declared.class.Class.{Class}
use Rattle.pm_base.specs.Class.{class_name}
use Rattle.pm_base.specs.Names.{IsMeasureName}
use Rattle.pm_meas.specs.declared.kind.Kind.{Kind}
use Rattle.pm_meas.specs.declared.kind.Kind.TheVariants.{Cc, Gauge, Der, Si}
use Rattle.pm_meas.specs.declared.kind.Reduce.{Reduce}
use Rattle.pm_meas.specs.declared.kind.Reduce.TheVariants.{Sum, Mean, Max, Min}
use Rattle.pm_meas.specs.declared.def.Def.{Def}

-- the word of a kind
abbrev pub kind_word : Kind → List ℕ
kind_word Cc = codes "CC"
kind_word Gauge = codes "GAUGE"
kind_word (Der n) = codes "DER"
kind_word Si = codes "SI"

-- the word of a reduction
abbrev pub reduce_word : Reduce → List ℕ
reduce_word Sum = codes "SUM"
reduce_word Mean = codes "MEAN"
reduce_word Max = codes "MAX"
reduce_word Min = codes "MIN"

-- the words behind the reduction: n of discrete event registration, with no leading zero
abbrev pub number_words : Kind → List (List ℕ)
number_words Cc = []
number_words Gauge = []
number_words (Der n) = decimal n ∷ []
number_words Si = []

-- the words of a kind and a reduction
abbrev pub method_words : Kind → Reduce → List (List ℕ)
method_words kind reduce = kind_word kind ∷ reduce_word reduce ∷ number_words kind

-- n of discrete event registration is 1 to 1,000
abbrev pub IsKind : Kind → Type 0
IsKind Cc = Unit {0}
IsKind Gauge = Unit {0}
IsKind (Der n) = (1 ≤ n) × (n ≤ 1000)
IsKind Si = Unit {0}

-- counters are summed, and nothing else is
abbrev pub GoTogether : Kind → Reduce → Type 0
GoTogether Cc reduce = reduce ≡ Sum
GoTogether Gauge reduce = reduce ≢ Sum
GoTogether (Der n) reduce = reduce ≢ Sum
GoTogether Si reduce = reduce ≢ Sum

-- a permitted kind with a reduction that goes with it
pub record IsMethod (kind : Kind) (reduce : Reduce) : Type 0 where
  pub kind_is : IsKind kind
  pub together : GoTogether kind reduce

-- a permitted definition
pub record IsDef (def : Def) : Type 0 where
  pub name_is : IsMeasureName def.name
  pub method_is : IsMethod def.kind def.reduce

-- the words of a definition, and its text: the words with a space between two
abbrev pub def_words : Def → List (List ℕ)
def_words def = def.name ∷ class_name def.class ∷ method_words def.kind def.reduce

abbrev pub def_text : Def → List ℕ
def_text def = join_with_byte 32 (def_words def)

-- there are four or five words
abbrev pub AreFourOrFive : List (List ℕ) → Type 0
AreFourOrFive words = (length words ≡ 4) ⊎ (length words ≡ 5)

-- the first word, which is to be a name
abbrev pub name_word : List (List ℕ) → List ℕ
name_word words = slice_index_or words 0 []

-- the first word is a name of a measurement, the second that of a class
pub record AreNamed (words : List (List ℕ)) : Type 0 where
  pub name_is : IsMeasureName (name_word words)
  pub class : Class
  pub class_is : class_name class ≡ slice_index_or words 1 []

-- the further words are those of a kind and a reduction that go together
pub record HaveMethod (words : List (List ℕ)) : Type 0 where
  pub kind : Kind
  pub reduce : Reduce
  pub method_is : IsMethod kind reduce
  pub words_are : method_words kind reduce ≡ drop 2 words

-- the words read as the definition
pub record ReadAs (words : List (List ℕ)) (def : Def) : Type 0 where
  pub words_are : def_words def ≡ words
  pub def_is : IsDef def
