-- What a feed holds, and what its calls take of what is left to it and its source (this project's own).
use Rattle.std.specs.Prelude.{Result, Ok, Err, ◌≡◌, ◌⊎◌, ◌+◌, ◌-◌, ◌<◌, ◌≤◌, ℕ, Bool, true, false, List, [], ◌∷◌, ◌++◌, length, take}
use Rattle.pm_outside.specs.declared.feed.TheConstants.{MOST_READ}
use Rattle.pm_outside.specs.declared.feed.FeedError.{FeedError}
use Rattle.pm_outside.specs.declared.feed.FeedError.TheVariants.{Failed, Limit}
use Rattle.pm_outside.specs.declared.line.Line.{Line}
use Rattle.pm_outside.specs.declared.line.Line.TheVariants.{Whole, Long, End}
use Rattle.pm_base.specs.Lines.{MOST_LINE, HasNoLineFeed, HasNoLine}

-- What a feed holds.
pub record FeedState : Type 0 where
  pub given : ℕ  -- how many bytes were taken out of it
  pub buffered : List ℕ  -- the bytes that were read and not taken
  pub line : List ℕ  -- the line that it lends
  pub ended : Bool  -- a read found the end of the source

-- What is left to a feed and its source: the bytes in the buffer, then those that the source has left.
abbrev pub left_to : FeedState → List ℕ → List ℕ
left_to feed left = feed.buffered ++ left

-- Where a read of the feed found the end, the source has no byte left.
abbrev pub KnowsEnd : FeedState → List ℕ → Type 0
KnowsEnd feed left = feed.ended ≡ true → left ≡ []

-- The first line of the bytes, and what is left after it. The last line may lack its line feed.
pub record IsFirstLine (before line after : List ℕ) : Type 0 where
  pub short : length line ≤ MOST_LINE
  pub one : HasNoLineFeed line
  pub split : (before ≡ line ++ 10 ∷ after) ⊎ ((before ≡ line) × (after ≡ []) × (0 < length line))

-- The answer on what is left, the line that is lent then, and what is left after the call. It is `Whole` exactly where
-- there is a line of at most `MOST_LINE` bytes, `Long` where there is a longer one, and `End` where nothing is left.
abbrev pub IsNextLine : List ℕ → Line → List ℕ → List ℕ → Type 0
IsNextLine before (Whole n) line after = IsFirstLine before line after × (n ≡ length line)
IsNextLine before Long line after = (MOST_LINE < length before) × HasNoLineFeed (take (MOST_LINE + 1) before) × (line ≡ []) × (after ≡ before)
IsNextLine before End line after = (before ≡ []) × (line ≡ []) × (after ≡ [])

-- As many bytes as may be read stand before the end of the next line, and before the end of the source is found.
pub record MeetsLimit (feed : FeedState) (left : List ℕ) : Type 0 where
  pub unended : feed.ended ≡ false
  pub reached : MOST_READ ≤ feed.given + length (left_to feed left)
  pub unanswered : HasNoLine (take (MOST_READ - feed.given) (left_to feed left))

-- All bytes that may be read were read and taken, and the end of the source was not found.
pub record IsSpent (feed : FeedState) : Type 0 where
  pub unended : feed.ended ≡ false
  pub empty : feed.buffered ≡ []
  pub reached : feed.given ≡ MOST_READ

-- The answer is that the source failed.
abbrev pub is_failed : {T : Type 0} → Result T FeedError → Bool
is_failed (Ok value) = false
is_failed (Err Failed) = true
is_failed (Err Limit) = false

-- How many bytes a feed holds that weren't taken, at the most.
abbrev pub MOST_AHEAD : ℕ
MOST_AHEAD = 65536

-- What a call that reads through a feed keeps, whatever it answers: bytes are taken from what was left, a known end stays
-- one, all that is taken is within the limit, and little is read ahead.
pub record ReadsOn (IsTold : Type 0) (old new : FeedState) (left rest : List ℕ) : Type 0 where
  pub given : IsTold → new.given + length (left_to new rest) ≡ old.given + length (left_to old left)
  pub knows_end : IsTold → KnowsEnd new rest
  pub most : new.given ≤ MOST_READ
  pub ahead : length new.buffered ≤ MOST_AHEAD
