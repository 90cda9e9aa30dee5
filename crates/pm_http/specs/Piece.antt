-- What a head is gathered from: lines, and parts of long ones.
use Rattle.std.specs.Prelude.{◌≡◌, ◌≢◌, ◌+◌, ◌<◌, ◌≤◌, ◌⊎◌, ℕ, Bool, true, false, List, [], ◌∷◌, ◌++◌, length, take, All, Option, Some, None}
use Rattle.httparse.specs.Grammar.{RequestHead, print_request, ReadsRequest, HasNoRequest, NeverHasRequest, MayBecomeRequest}
use Rattle.httparse.specs.Spans.{IsRequestWithin, IsRequestAt}
use Rattle.httparse.specs.declared.spans.HeaderSpan.{HeaderSpan}
use Rattle.httparse.specs.declared.spans.RequestSpans.{RequestSpans}
use Rattle.pm_outside.specs.declared.feed.TheConstants.{MOST_READ}
use Rattle.pm_base.specs.Lines.{HasNoLineFeed}
use Rattle.pm_http.specs.declared.piece.Piece.{Piece}
use Rattle.pm_http.specs.declared.piece.Piece.TheVariants.{Line, Part, End, Limit}
use Rattle.pm_http.specs.declared.sight.Sight.{Sight}
use Rattle.pm_http.specs.declared.sight.Sight.TheVariants as sight
use Rattle.pm_http.specs.declared.head_end.HeadEnd.{HeadEnd}
use Rattle.pm_http.specs.declared.head_end.HeadEnd.TheVariants as ends
use Rattle.pm_http.specs.declared.error.HttpError.{HttpError}
use Rattle.pm_http.specs.declared.error.HttpError.TheVariants as http
use Rattle.pm_http.specs.Stream.{MOST_HEAD, looked_at, HasHead, IsUnfinished, EndsInHead, HoldsNoHead, EndsInRequest, StopsAtFault, StopsForMemory}

-- The most bytes of a piece: a line and its line feed.
abbrev pub MOST_PIECE : ℕ
MOST_PIECE = 2049

-- The bytes are a line with its line feed, a part of a line without its end, or nothing.
abbrev pub IsPiece : Piece → List ℕ → Type 0
IsPiece Line bytes = (line : List ℕ) × (bytes ≡ line ++ 10 ∷ []) × HasNoLineFeed line
IsPiece Part bytes = HasNoLineFeed bytes
IsPiece End bytes = bytes ≡ []
IsPiece Limit bytes = bytes ≡ []

-- The bytes end with a line feed, or not.
abbrev pub EndsAs : List ℕ → Piece → Type 0
EndsAs bytes Line = (before : List ℕ) × (bytes ≡ before ++ 10 ∷ [])
EndsAs bytes Part = (before : List ℕ) → bytes ≡ before ++ 10 ∷ [] → ⊥
EndsAs bytes End = ⊥
EndsAs bytes Limit = ⊥

-- The bytes end in an empty line that follows another one. An empty line may have a carriage return.
abbrev pub EndsBlank : List ℕ → Type 0
EndsBlank bytes = (lines : List ℕ) × ((bytes ≡ lines ++ 10 ∷ 10 ∷ []) ⊎ (bytes ≡ lines ++ 10 ∷ 13 ∷ 10 ∷ []))

-- No byte is a space, so none of the bytes ends the method of a head.
abbrev pub HasNoSpace : List ℕ → Type 0
HasNoSpace bytes = All (λ b. b ≢ 32) bytes

-- Where the head isn't begun, no gathered byte is a space.
abbrev pub IsBegun : Bool → List ℕ → Type 0
IsBegun begun gathered = begun ≡ false → HasNoSpace gathered

-- The first bytes were looked at, and may begin a head.
pub record IsSeen (seen : ℕ) (bytes : List ℕ) : Type 0 where
  pub within : seen ≤ length bytes
  pub may : MayBecomeRequest (take seen bytes)

-- The piece is nothing, and none follows it.
abbrev pub IsLast : Piece → Type 0
IsLast Line = ⊥
IsLast Part = ⊥
IsLast End = Unit {0}
IsLast Limit = Unit {0}

-- How many bytes were taken after this piece: fewer than may be at the end, and all that may be at the limit.
abbrev pub PieceStands : ℕ → Piece → Type 0
PieceStands given End = given < MOST_READ
PieceStands given Limit = given ≡ MOST_READ
PieceStands given _ = given ≤ MOST_READ

-- A piece was moved after what is gathered; none was at the end alone.
pub record Moves (old left_old new left_new : List ℕ) (piece : Piece) : Type 0 where
  pub bytes : List ℕ
  pub is : IsPiece piece bytes
  pub grown : new ≡ old ++ bytes
  pub split : left_old ≡ bytes ++ left_new
  pub ended : piece ≡ End → left_old ≡ []

-- What some bytes show of a head of more than 64 fields.
abbrev pub IsCrowded : List ℕ → Sight → Type 0
IsCrowded bytes (sight.Whole spans) = ⊥
IsCrowded bytes sight.Crowded =
    (head : RequestHead) × (rest : List ℕ) × ReadsRequest bytes head rest × (64 < length head.fields)
IsCrowded bytes sight.More = IsUnfinished bytes
IsCrowded bytes sight.Never = NeverHasRequest bytes

-- What some bytes show of the head at their start, with room for 64 fields.
abbrev pub IsSight : List ℕ → List HeaderSpan → Sight → Type 0
IsSight bytes headers (sight.Whole spans) =
    IsRequestWithin bytes headers spans × (spans.headers ≤ 64) × ((head : RequestHead) × IsRequestAt bytes headers spans head)
IsSight bytes headers sight.Crowded = IsCrowded bytes sight.Crowded
IsSight bytes headers sight.More = IsUnfinished bytes
IsSight bytes headers sight.Never = NeverHasRequest bytes

-- The spans are those of a head at the start of the bytes, which has at most 64 fields and 16,384 bytes.
pub record IsParsed (bytes : List ℕ) (headers : List HeaderSpan) (spans : RequestSpans) : Type 0 where
  pub within : IsRequestWithin bytes headers spans
  pub few : spans.headers ≤ 64
  pub short : spans.len ≤ MOST_HEAD

-- As many bytes as may be read stand before the limit, and are fewer than a body of this size.
pub record BodyStops (given : ℕ) (left : List ℕ) (size : ℕ) : Type 0 where
  pub within : given ≤ MOST_READ
  pub reached : MOST_READ ≤ given + length left
  pub fewer : MOST_READ < given + size

-- Of all bytes some are gathered, and no head stands there yet.
pub record Gathers (all gathered left : List ℕ) : Type 0 where
  pub split : all ≡ gathered ++ left
  pub none : HasNoRequest gathered

-- Of all bytes some are gathered, the last of them as this piece, and no head stood there before it.
pub record Grows (all gathered left : List ℕ) (piece : Piece) : Type 0 where
  pub old : List ℕ
  pub bytes : List ℕ
  pub none : HasNoRequest old
  pub few : length old < MOST_HEAD
  pub is : IsPiece piece bytes
  pub grown : gathered ≡ old ++ bytes
  pub split : all ≡ gathered ++ left
  pub ended : piece ≡ End → left ≡ []

-- A whole head with few enough fields is gathered, and nothing else.
pub record IsGathered (all gathered left : List ℕ) (headers : List HeaderSpan) (spans : RequestSpans) : Type 0 where
  pub head : RequestHead
  pub split : all ≡ gathered ++ left
  pub at : IsRequestAt gathered headers spans head
  pub whole : gathered ≡ print_request head
  pub short : length gathered ≤ MOST_HEAD

-- How the reading of a head ends.
abbrev pub EndsHead : List ℕ → List ℕ → List ℕ → List HeaderSpan → HeadEnd → Type 0
EndsHead all gathered left headers (ends.Whole spans) = IsGathered all gathered left headers spans
EndsHead all gathered left headers ends.Crowded = (head : RequestHead) × HasHead all head × (64 < length head.fields)
EndsHead all gathered left headers ends.Never = NeverHasRequest (looked_at all)
EndsHead all gathered left headers ends.Long = (MOST_HEAD ≤ length all) × IsUnfinished (looked_at all)
EndsHead all gathered left headers ends.Short = (0 < length all) × EndsInHead all × (left ≡ [])
EndsHead all gathered left headers ends.Nothing = (all ≡ []) × (left ≡ [])
EndsHead all gathered left headers ends.Limit = EndsInHead gathered

-- What one piece more gives: the reading goes on, or it ends.
abbrev pub StepsHead : List ℕ → List ℕ → List ℕ → List HeaderSpan → Option HeadEnd → Type 0
StepsHead all gathered left headers None = Gathers all gathered left
StepsHead all gathered left headers (Some end) = (all ≡ gathered ++ left) × EndsHead all gathered left headers end

-- How many bytes were taken where the reading of a head ends.
abbrev pub HeadStands : ℕ → HeadEnd → Type 0
HeadStands given ends.Short = given < MOST_READ
HeadStands given ends.Nothing = given < MOST_READ
HeadStands given ends.Limit = given ≡ MOST_READ
HeadStands given _ = given ≤ MOST_READ

-- The bytes answer by themselves: whatever follows, they don't end inside a request.
abbrev pub IsAnswered : List ℕ → Type 0
IsAnswered bytes = (rest : List ℕ) → EndsInRequest (bytes ++ rest) → ⊥

-- What the gathered bytes show by themselves.
abbrev pub ShowsEnd : List ℕ → List HeaderSpan → HeadEnd → Type 0
ShowsEnd bytes headers (ends.Whole spans) = IsParsed bytes headers spans
ShowsEnd bytes headers ends.Crowded = IsAnswered bytes
ShowsEnd bytes headers ends.Never = NeverHasRequest (looked_at bytes)
ShowsEnd bytes headers ends.Long = IsAnswered bytes
ShowsEnd bytes headers _ = Unit {0}

-- Whether more bytes may make a head of these, which are too few and hold none.
abbrev pub MayGrow : List ℕ → Bool → Type 0
MayGrow bytes true = HasNoRequest bytes → length bytes < MOST_HEAD → EndsInHead bytes
MayGrow bytes false = NeverHasRequest (looked_at bytes)

-- The body is filled with the bytes that are left, or they end before.
abbrev pub Fills : List ℕ → List ℕ → List ℕ → Bool → Type 0
Fills old new body true = old ≡ body ++ new
Fills old new body false = (n : ℕ) × (n < length body) × (old ≡ take n body) × (new ≡ [])

-- The source failed inside a body of this size: fewer bytes were taken.
pub record FailsInBody (old new : List ℕ) (size : ℕ) : Type 0 where
  pub taken : List ℕ
  pub split : old ≡ taken ++ new
  pub fewer : length taken < size

-- Why the reading of a head stops: at a fault the bytes that were taken hold no head, and out of memory they end inside one.
abbrev pub StopsInHead : List ℕ → List ℕ → HttpError → Type 0
StopsInHead all left http.ReadFault = (taken : List ℕ) × (all ≡ taken ++ left) × HoldsNoHead taken
StopsInHead all left http.Memory = (taken : List ℕ) × (all ≡ taken ++ left) × EndsInHead taken
StopsInHead all left http.Limit = ⊥

-- Why the reading after a whole head stops.
abbrev pub StopsAfterHead : List ℕ → List ℕ → HttpError → Type 0
StopsAfterHead all left http.ReadFault = StopsAtFault all left
StopsAfterHead all left http.Memory = StopsForMemory all left
StopsAfterHead all left http.Limit = Unit {0}
