-- The requests of a stream of bytes, from its start (RFC 9112; the codes and the limits are this project's own).
use Rattle.std.specs.Prelude.{◌≡◌, ◌+◌, ◌-◌, ◌*◌, ◌<◌, ◌≤◌, ◌⊎◌, ℕ, Bool, true, false, List, [], ◌++◌, length, take, Result, Ok, Err}
use Rattle.httparse.specs.Grammar.{RequestHead, print_request, ReadsRequest, HasNoRequest, NeverHasRequest, MayBecomeRequest, EndsInTarget}
use Rattle.pm_base.specs.declared.code.Code.{Code}
use Rattle.pm_base.specs.declared.code.Code.TheVariants.{H1, H2}
use Rattle.pm_outside.specs.declared.feed.TheConstants.{MOST_READ}
use Rattle.pm_http.specs.declared.size.BodySize.TheVariants.{Refused, Bytes}
use Rattle.pm_http.specs.declared.request.Request.{Request}
use Rattle.pm_http.specs.declared.error.HttpError.{HttpError}
use Rattle.pm_http.specs.declared.error.HttpError.TheVariants.{ReadFault, Limit, Memory}
use Rattle.pm_http.specs.declared.next.Next.{Next}
use Rattle.pm_http.specs.declared.next.Next.TheVariants as next
use Rattle.pm_http.specs.Head.{MOST_BODY, fields_of, body_size, moment_of, closes}

-- How many bytes a head has at the most.
abbrev pub MOST_HEAD : ℕ
MOST_HEAD = 16384

-- The bytes in which a head has to end.
abbrev pub looked_at : List ℕ → List ℕ
looked_at bytes = take MOST_HEAD bytes

-- A whole head is at the start. There is at most one.
abbrev pub HasHead : List ℕ → RequestHead → Type 0
HasHead bytes head = (rest : List ℕ) × ReadsRequest (looked_at bytes) head rest

-- The parts of a request but its body are those of the head.
pub record IsOf (head : RequestHead) (request : Request) : Type 0 where
  pub method : request.method ≡ head.method
  pub target : request.target ≡ head.target
  pub moment : request.moment ≡ moment_of (fields_of head)
  pub close : request.close ≡ closes head.minor (fields_of head)

-- The request is the one at the start of the bytes, and this is left after it.
pub record IsFirst (bytes : List ℕ) (request : Request) (after : List ℕ) : Type 0 where
  pub head : RequestHead
  pub reads : ReadsRequest bytes head (request.body ++ after)
  pub short : length (print_request head) ≤ MOST_HEAD
  pub size : body_size head ≡ Bytes (length request.body)
  pub parts : IsOf head request

-- No whole head is at the start, and more bytes may make one: some do, or the bytes end inside a target, whose test
-- for UTF-8 waits for its end.
pub record IsUnfinished (bytes : List ℕ) : Type 0 where
  pub none : HasNoRequest bytes
  pub may : MayBecomeRequest bytes

-- The bytes that are looked at hold no whole head: none that may follow give one, or there are enough of them.
abbrev pub HasNoHead : List ℕ → Code → Type 0
HasNoHead bytes H1 = NeverHasRequest (looked_at bytes)
HasNoHead bytes H2 = (MOST_HEAD ≤ length bytes) × IsUnfinished (looked_at bytes)
HasNoHead bytes _ = ⊥

-- The request at the start is refused by this code: it has no head, or its head breaks a rule.
abbrev pub IsRefused : List ℕ → Code → Type 0
IsRefused bytes code =
    HasNoHead bytes code ⊎ ((head : RequestHead) × HasHead bytes head × (body_size head ≡ Refused code))

-- The bytes end inside a head, or before its first byte.
pub record EndsInHead (bytes : List ℕ) : Type 0 where
  pub few : length bytes < MOST_HEAD
  pub unended : IsUnfinished bytes

-- The bytes end inside the body of a request.
pub record EndsInBody (bytes : List ℕ) : Type 0 where
  pub head : RequestHead
  pub body : List ℕ
  pub size : ℕ
  pub reads : ReadsRequest bytes head body
  pub short : length (print_request head) ≤ MOST_HEAD
  pub size_is : body_size head ≡ Bytes size
  pub less : length body < size

-- The bytes end inside a request, or before its first byte.
abbrev pub EndsInRequest : List ℕ → Type 0
EndsInRequest bytes = EndsInHead bytes ⊎ EndsInBody bytes

-- So many bytes are looked at again after each read.
abbrev pub MOST_SOON : ℕ
MOST_SOON = 1024

-- The first of the bytes may begin a head: all of them where there are at most 1,024, and else at least half of them.
pub record MayBegin (bytes : List ℕ) : Type 0 where
  pub seen : ℕ
  pub within : seen ≤ length bytes
  pub half : length bytes ≤ 2 * seen
  pub soon : length bytes ≤ MOST_SOON → seen ≡ length bytes
  pub may : MayBecomeRequest (take seen bytes)

-- The bytes hold no whole head, too few for H2, and H1 wasn't decided when they were looked at last.
pub record HoldsNoHead (bytes : List ℕ) : Type 0 where
  pub few : length bytes < MOST_HEAD
  pub none : HasNoRequest bytes
  pub begins : MayBegin bytes

-- The bytes hold no whole request, and a head that they hold breaks no rule.
abbrev pub HoldsNoRequest : List ℕ → Type 0
HoldsNoRequest bytes = HoldsNoHead bytes ⊎ EndsInBody bytes

-- The bytes are a whole request that breaks no rule.
pub record IsWhole (bytes : List ℕ) : Type 0 where
  pub head : RequestHead
  pub body : List ℕ
  pub reads : ReadsRequest bytes head body
  pub short : length (print_request head) ≤ MOST_HEAD
  pub size : body_size head ≡ Bytes (length body)

-- The source failed: of the bytes that were left some were taken, and they hold no whole request.
pub record StopsAtFault (before after : List ℕ) : Type 0 where
  pub taken : List ℕ
  pub split : before ≡ taken ++ after
  pub none : HoldsNoRequest taken

-- Out of memory: of the bytes that were left some were taken, and they break no rule. They end inside a request, or are one.
pub record StopsForMemory (before after : List ℕ) : Type 0 where
  pub taken : List ℕ
  pub split : before ≡ taken ++ after
  pub good : EndsInRequest taken ⊎ IsWhole taken

-- The answer is that the source failed.
abbrev pub is_read_fault : {T : Type 0} → Result T HttpError → Bool
is_read_fault (Ok value) = false
is_read_fault (Err ReadFault) = true
is_read_fault (Err Limit) = false
is_read_fault (Err Memory) = false

-- Of the bytes that are left, those that may still be read.
abbrev pub readable : ℕ → List ℕ → List ℕ
readable given left = take (MOST_READ - given) left

-- As many bytes as may be read stand before the limit, and those that may still be read end inside a request.
pub record StopsAtLimit (given : ℕ) (left : List ℕ) : Type 0 where
  pub reached : MOST_READ ≤ given + length left
  pub inside : EndsInRequest (readable given left)

-- What may be told all the same where those bytes end inside a request: H1, where they end inside a target.
abbrev pub MayBeTold : List ℕ → Next → Type 0
MayBeTold bytes (next.Framing H1 at) = EndsInTarget bytes
MayBeTold bytes _ = ⊥

-- What the bytes from this offset on begin with, and what is left after it: a request, the end, a refusal, or a request
-- that is cut short. The cases exclude each other, but that H1 may stand for H2 or a cut where the bytes that are looked at
-- end inside a target: that is a law, `one_next`.
abbrev pub IsNext : List ℕ → ℕ → Next → List ℕ → Type 0
IsNext bytes offset (next.Request request) after = IsFirst bytes request after
IsNext bytes offset next.End after = (bytes ≡ []) × (after ≡ [])
IsNext bytes offset (next.Framing code at) after = (at ≡ offset) × IsRefused bytes code
IsNext bytes offset (next.CutShort at) after = (at ≡ offset) × (0 < length bytes) × EndsInRequest bytes

-- Where an offset is told, it is that of the first byte.
abbrev pub IsPlaced : ℕ → Next → Type 0
IsPlaced offset (next.Framing code at) = at ≡ offset
IsPlaced offset (next.CutShort at) = at ≡ offset
IsPlaced offset _ = Unit {0}

-- The body of a request has at most 16,777,216 bytes.
abbrev pub IsSmall : Next → Type 0
IsSmall (next.Request request) = length request.body ≤ MOST_BODY
IsSmall _ = Unit {0}
