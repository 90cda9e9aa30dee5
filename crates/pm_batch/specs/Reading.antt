-- What the lines of a batch say together (this project's own).
use Rattle.std.specs.Prelude.{◌≡◌, ◌+◌, ◌<◌, ◌≤◌, ◌++◌, ℕ, List, [], ◌∷◌, length, map, All, Result, Ok, Err, MatchResult}
use Rattle.pm_base.specs.Lines.{lines_of}
use Rattle.pm_base.specs.declared.code.Code.{Code}
use Rattle.pm_meas.specs.declared.cell.TheConstants.{MAX_VALUE}
use Rattle.pm_inventory.specs.Slot.{Slot}
use Rattle.pm_events.specs.BatchLine.{read_hit}
use Rattle.pm_events.specs.declared.hit.Hit.{Hit}
use Rattle.pm_batch.specs.declared.batch_error.BatchError.{BatchError}
use Rattle.pm_batch.specs.declared.batch_error.BatchError.TheVariants.{Refused, Memory}

-- The number of the line that is refused, from 1, and why. The number is 0 where no one line is at fault.
pub record Refusal : Type 0 where
  pub line : ℕ
  pub code : Code

-- One more line in front of others: its hit in front of theirs, or the refusal of the first that is refused.
abbrev pub with_hit : Hit → Result (List Hit) Refusal → Result (List Hit) Refusal
with_hit hit (Ok hits) = Ok (hit ∷ hits)
with_hit hit (Err refusal) = Err refusal

abbrev pub with_line : ℕ → Result Hit Code → Result (List Hit) Refusal → Result (List Hit) Refusal
with_line number (Ok hit) others = with_hit hit others
with_line number (Err code) others = Err (record { line = number; code = code })

-- The hits of lines, in order, or the first line that is refused. So many lines come before them.
abbrev pub read_lines : List Slot → ℕ → List (List ℕ) → Result (List Hit) Refusal
read_lines slots before [] = Ok []
read_lines slots before (line ∷ lines) = with_line (before + 1) (read_hit slots line) (read_lines slots (before + 1) lines)

-- The hits of a body. An empty one has none, and the last line may lack its line feed.
abbrev pub read_batch : List Slot → List ℕ → Result (List Hit) Refusal
read_batch slots body = read_lines slots 0 (lines_of body)

-- An error is that of what was read. Want of memory says nothing.
abbrev pub Tells : BatchError → Result (List Hit) Refusal → Type 0
Tells (Refused line code) read = read ≡ Err (record { line = line; code = code })
Tells Memory read = Unit {0}

-- The hits are of so many slots, and their values are in range.
abbrev pub AreOfSlots : ℕ → List Hit → Type 0
AreOfSlots slots hits = All (λ hit. (hit.slot < slots) × (hit.value ≤ MAX_VALUE)) hits

-- A line is read, and its hit comes behind the others.
pub record AddsHit (slots : List Slot) (line : List ℕ) (old new : List Hit) : Type 0 where
  pub hit : Hit
  pub reads : read_hit slots line ≡ Ok hit
  pub added : new ≡ old ++ hit ∷ []
  pub slot : hit.slot < length slots
  pub value : hit.value ≤ MAX_VALUE

-- The first line that is refused: each line before it has its hit.
pub record IsFirstRefused (slots : List Slot) (lines : List (List ℕ)) (refusal : Refusal) : Type 0 where
  pub good : List (List ℕ)
  pub line : List ℕ
  pub more : List (List ℕ)
  pub hits : List Hit
  pub lines_are : lines ≡ good ++ line ∷ more
  pub good_are : map (read_hit slots) good ≡ map Ok hits
  pub refused : read_hit slots line ≡ Err refusal.code
  pub number : refusal.line ≡ length good + 1

-- A batch that is read has the hits of all its lines; of one that is refused, the refusal is that of the first line that is.
abbrev pub IsWholeOrRefused : List Slot → List ℕ → Type 0
IsWholeOrRefused slots body =
    MatchResult (read_batch slots body) (λ hits. map (read_hit slots) (lines_of body) ≡ map Ok hits) (IsFirstRefused slots (lines_of body))
