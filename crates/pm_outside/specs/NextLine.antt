-- What the lines of a source go on with (this project's own).
use Rattle.std.specs.Prelude.{◌≡◌, ◌+◌, ◌-◌, ◌<◌, ◌≤◌, ℕ, List, [], ◌∷◌, ◌++◌, length, take, Result, Ok, Err}
use Rattle.pm_base.specs.Lines.{MOST_LINE, HasNoLineFeed, HasNoLine}
use Rattle.pm_outside.specs.Feed.{FeedState}
use Rattle.pm_outside.specs.declared.feed.TheConstants.{MOST_READ}
use Rattle.pm_outside.specs.declared.feed.FeedError.{FeedError}
use Rattle.pm_outside.specs.declared.feed.FeedError.TheVariants.{Failed, Limit}
use Rattle.pm_outside.specs.declared.lines.NextLine.{NextLine}
use Rattle.pm_outside.specs.declared.lines.NextLine.TheVariants.{Line, Last, Long, None}

-- A line that is not too long, and no byte of it is a line feed.
pub record IsOneLine (line : List ℕ) : Type 0 where
  pub short : length line ≤ MOST_LINE
  pub one : HasNoLineFeed line

-- The last line, before the limit.
pub record IsLastLine (given : ℕ) (before line after : List ℕ) : Type 0 where
  pub one : IsOneLine line
  pub all : before ≡ line
  pub none_left : after ≡ []
  pub some : 0 < length line
  pub before_limit : given + length before < MOST_READ

-- As many bytes as may be read stand before the end of the next line.
pub record IsAtLimit (given : ℕ) (before : List ℕ) : Type 0 where
  pub within : given ≤ MOST_READ
  pub reached : MOST_READ ≤ given + length before
  pub open_line : HasNoLine (take (MOST_READ - given) before)

-- What was left before, the answer, the line that is lent then, and what is left after the call. After an error the same is
-- left, and what was read of it tells no line.
abbrev pub GivesNextLine : FeedState → List ℕ → Result NextLine FeedError → FeedState → List ℕ → Type 0
GivesNextLine old before (Ok Line) new after = IsOneLine new.line × (before ≡ new.line ++ 10 ∷ after)
GivesNextLine old before (Ok Last) new after = IsLastLine old.given before new.line after
GivesNextLine old before (Ok Long) new after = (MOST_LINE < length before) × HasNoLineFeed (take (MOST_LINE + 1) before) × (after ≡ before)
GivesNextLine old before (Ok None) new after = (before ≡ []) × (after ≡ []) × (old.given < MOST_READ)
GivesNextLine old before (Err Limit) new after = IsAtLimit old.given before × (after ≡ before)
GivesNextLine old before (Err Failed) new after = (after ≡ before) × HasNoLine new.buffered

-- A line of this length was taken whole, by how many bytes were taken before and after it.
abbrev pub EndsLine : ℕ → ℕ → ℕ → NextLine → Type 0
EndsLine before after many Line = before + many < after
EndsLine before after many Last = after ≤ before + many
EndsLine before after many Long = ⊥
EndsLine before after many None = ⊥
