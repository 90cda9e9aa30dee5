-- What the lines of an input say, and the first that is refused (this project's own).
use Rattle.std.specs.Prelude.{◌≡◌, ◌⊎◌, ◌+◌, ◌<◌, ℕ, Bool, true, false, List, [], ◌∷◌, ◌++◌, length, Some, None, Result, Ok, Err}
use Rattle.pm_base.specs.Lines.{lines_of}
use Rattle.pm_base.specs.declared.code.Code.{Code}
use Rattle.pm_base.specs.declared.code.Code.TheVariants as code
use Rattle.pm_kpi.specs.Ratio.{RatioContent, ratio_of, is_named}
use Rattle.pm_kpi.specs.Ratios.{Reads}
use Rattle.pm_kpi.specs.declared.kpi_end.KpiEnd.{KpiEnd}
use Rattle.pm_kpi.specs.declared.kpi_end.KpiEnd.TheVariants.{BadInput, ReadFault, Memory}

-- The line adds a ratio.
pub record AddsLine (old : List RatioContent) (line : List ℕ) (new : List RatioContent) : Type 0 where
  pub ratio : RatioContent
  pub reads : Reads old line ratio
  pub room : length old < 64
  pub grown : new ≡ old ++ ratio ∷ []

-- Each of these lines adds a ratio.
abbrev pub AddsLines : List RatioContent → List (List ℕ) → List RatioContent → Type 0
AddsLines old [] new = new ≡ old
AddsLines old (line ∷ lines) new = (middle : List RatioContent) × AddsLine old line middle × AddsLines middle lines new

-- The first rule that a line breaks, behind these ratios.
abbrev pub Breaks : List RatioContent → List ℕ → Code → Type 0
Breaks ratios line code.K1 = ratio_of line ≡ None
Breaks ratios line code.K2 = (ratio : RatioContent) × (ratio_of line ≡ Some ratio) × (is_named ratios ratio.name ≡ true)
Breaks ratios line code.K3 = (ratio : RatioContent) × Reads ratios line ratio × (length ratios ≡ 64)
Breaks ratios line _ = ⊥

-- The first of the lines that is refused. Its number is its place, from 1.
pub record IsRefused (lines : List (List ℕ)) (place : ℕ) (code : Code) : Type 0 where
  pub good : List (List ℕ)
  pub line : List ℕ
  pub rest : List (List ℕ)
  pub split : lines ≡ good ++ line ∷ rest
  pub ratios : List RatioContent
  pub adds : AddsLines [] good ratios
  pub breaks : Breaks ratios line code
  pub numbered : place ≡ length good + 1

-- How far the reading has come: the ratios are those of the lines before the one of this number.
pub record IsReadSoFar (before left : List ℕ) (ratios : List RatioContent) (place : ℕ) : Type 0 where
  pub good : List (List ℕ)
  pub lines : lines_of before ≡ good ++ lines_of left
  pub adds : AddsLines [] good ratios
  pub numbered : place ≡ length good + 1

-- The ratios of the bytes, or why they weren't read: a line is refused, or with Z1 the input is longer than may be read.
abbrev pub ReadsRatios : List ℕ → Result (Unit {0}) KpiEnd → List RatioContent → Type 0
ReadsRatios bytes (Ok done) ratios = AddsLines [] (lines_of bytes) ratios
ReadsRatios bytes (Err (BadInput place e)) ratios = IsRefused (lines_of bytes) place e ⊎ (e ≡ code.Z1)
ReadsRatios bytes (Err ReadFault) ratios = Unit {0}
ReadsRatios bytes (Err Memory) ratios = Unit {0}
ReadsRatios bytes (Err end) ratios = ⊥
