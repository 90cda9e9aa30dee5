-- The catalogue: the definitions of the accepted lines, in their order (this project's own).
use Rattle.std.specs.Prelude.{◌≡◌, ◌≢◌, ◌==◌, ℕ, ◌<◌, ◌≤◌, ◌↔◌, List, [], ◌∷◌, ◌++◌, length, map, All, AllPairs, Contains, Some, slice_get}
use Rattle.std.specs.List.{before_first}
use Rattle.std.specs.List.Sorted.{IsStrictlyIncreasing}
use Rattle.pm_base.specs.Pieces.{words_of}
use Rattle.pm_base.specs.declared.code.Code.{Code}
use Rattle.pm_base.specs.declared.code.Code.TheVariants as code
use Rattle.pm_meas.specs.declared.def.Def.{Def}
use Rattle.pm_meas.specs.declared.catalogue.TheConstants.{MAX_MEASURES}
use Rattle.pm_meas.specs.declared.error.MeasError.{MeasError}
use Rattle.pm_meas.specs.declared.error.MeasError.TheVariants.{I1, M1, M2, M3, M4, Memory}
use Rattle.pm_meas.specs.Def.{IsDef, ReadAs, AreFourOrFive, AreNamed, HaveMethod, name_word}

-- the names of definitions, in order
abbrev pub names_of : List Def → List (List ℕ)
names_of defs = map (λ (d : Def). d.name) defs

-- a measurement of the name stands
abbrev pub Stands : List Def → List ℕ → Type 0
Stands defs name = Contains (names_of defs) name

-- what a catalogue is: at most `MAX_MEASURES` permitted definitions of different names
pub record IsCatalogue (defs : List Def) : Type 0 where
  pub few : length defs ≤ MAX_MEASURES
  pub permitted : All IsDef defs
  pub distinct : AllPairs (λ a b. a ≢ b) (names_of defs)

-- the first rule that the words of a line break; for want of memory, that they break none
abbrev pub Breaks : List Def → List (List ℕ) → MeasError → Type 0
Breaks defs words I1 = ¬ AreFourOrFive words
Breaks defs words M1 = AreFourOrFive words × ¬ AreNamed words
Breaks defs words M2 = AreFourOrFive words × AreNamed words × ¬ HaveMethod words
Breaks defs words M3 = AreFourOrFive words × AreNamed words × HaveMethod words × Stands defs (name_word words)
Breaks defs words M4 = AreFourOrFive words × AreNamed words × HaveMethod words × ¬ Stands defs (name_word words) × (MAX_MEASURES ≤ length defs)
Breaks defs words Memory = AreFourOrFive words × AreNamed words × HaveMethod words × ¬ Stands defs (name_word words) × (length defs < MAX_MEASURES)

-- the code of an answer
abbrev pub meas_code : MeasError → Code
meas_code I1 = code.I1
meas_code M1 = code.M1
meas_code M2 = code.M2
meas_code M3 = code.M3
meas_code M4 = code.M4
meas_code Memory = code.MEM

-- the line adds the definition that its words read as
pub record Adds (old : List Def) (line : List ℕ) (new : List Def) : Type 0 where
  pub def : Def
  pub read : ReadAs (words_of line) def
  pub fresh : ¬ Stands old def.name
  pub room : length old < MAX_MEASURES
  pub grown : new ≡ old ++ def ∷ []

-- the family of a name: the part before its first dot
abbrev pub family_of : List ℕ → List ℕ
family_of name = before_first (λ b. b == 46) name

-- the measurement of this number is of the family
pub record IsOfFamily (defs : List Def) (family : List ℕ) (metric : ℕ) : Type 0 where
  pub name : List ℕ
  pub name_is : slice_get (names_of defs) metric ≡ Some name
  pub family_is : family_of name ≡ family

-- the numbers of the measurements of a family, in order
pub record AreOfFamily (defs : List Def) (family metrics : List ℕ) : Type 0 where
  pub ordered : IsStrictlyIncreasing metrics
  pub all : (m : ℕ) → Contains metrics m ↔ IsOfFamily defs family m
