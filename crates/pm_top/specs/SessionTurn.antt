-- A turn of a session: a request that was read, its reply, and the rounds of notices after it (this project's own).
use Rattle.std.specs.Prelude.{ℕ, ◌≡◌, ◌+◌, false, List, [], ◌∷◌, ◌++◌, codes, if◌then◌else◌, Option, Some, None}
use Rattle.std.specs.Str.{bytes_eq}
use Rattle.pm_base.specs.Number.{is_moment, number_of}
use Rattle.pm_base.specs.declared.code.Code.TheVariants.{H8}
use Rattle.pm_outside.specs.Posts.{Post}
use Rattle.pm_inventory.specs.Inventory.{InventoryState}
use Rattle.pm_history.specs.History.{last_moment}
use Rattle.pm_http.specs.declared.reply.Reply.{Reply}
use Rattle.pm_http.specs.declared.request.Request.{Request}
use Rattle.pm_http.specs.Reply.{reply_text}
use Rattle.pm_http.specs.Stream.{IsFirst}
use Rattle.pm_state.specs.Given.{refused}
use Rattle.pm_engine.specs.Bears.{Run}
use Rattle.pm_engine.specs.Turn.{IsTurn}
use Rattle.pm_engine.specs.Round.{AreServed}

-- The moment at which a request is asked: that of its Pm-Moment field, or the last moment where it has none. None where the field isn't
-- 1 to 12 digits of a moment.
abbrev pub moment_asked : Option (List ℕ) → ℕ → Option ℕ
moment_asked None last = Some last
moment_asked (Some field) last = if is_moment field then Some (number_of field) else None

-- The reply to a request whose Pm-Moment field is no moment. HEAD has no body.
abbrev pub bad_moment : Request → Reply
bad_moment request = record (refused H8) { head = bytes_eq request.method (codes "HEAD") }

-- What a request at a moment makes of a run, and its reply. A moment that can't be read adds nothing.
abbrev pub IsAnswered : InventoryState → Option ℕ → Request → Run → Reply → Run → Type 0
IsAnswered inventory None request run reply next = (reply ≡ bad_moment request) × (next ≡ run)
IsAnswered inventory (Some moment) request run reply next = IsTurn inventory moment request run reply next

-- The same of a request over a run, with what holds of the next one.
abbrev pub IsAnsweredOver : InventoryState → Run → Request → Reply → (Run → Type 0) → Type 0
IsAnsweredOver inventory run request reply IsNext =
    (next : Run) × IsAnswered inventory (moment_asked request.moment (last_moment run.history)) request run reply next × IsNext next

-- A request that was read, its reply, and the last moment then; what was posted after it, and how many rounds stopped short.
pub record Turned : Type 0 where
  pub request : Request
  pub reply : Reply
  pub now : ℕ
  pub posts : List Post
  pub short : ℕ

-- The turn leads from the one run to the other, before its rounds.
pub record IsReplied (inventory : InventoryState) (run : Run) (turned : Turned) (next : Run) : Type 0 where
  pub answered : IsAnswered inventory (moment_asked turned.request.moment (last_moment run.history)) turned.request run turned.reply next
  pub now : turned.now ≡ last_moment next.history

-- The same with its rounds.
pub record IsTurned (inventory : InventoryState) (run : Run) (turned : Turned) (next : Run) : Type 0 where
  pub mid : Run
  pub replied : IsReplied inventory run turned mid
  pub served : AreServed inventory mid next turned.posts turned.short

-- The turns, the newest first, lead from the one run to the other.
abbrev pub Runs : InventoryState → Run → List Turned → Run → Type 0
Runs inventory old [] new = new ≡ old
Runs inventory old (turned ∷ turns) new = (mid : Run) × Runs inventory old turns mid × IsTurned inventory mid turned new

-- None of their requests closes.
abbrev pub AreOpen : List Turned → Type 0
AreOpen [] = Unit {0}
AreOpen (turned ∷ turns) = (turned.request.close ≡ false) × AreOpen turns

-- The text of its reply.
abbrev pub text_of : Turned → List ℕ
text_of turned = reply_text turned.reply turned.now turned.request.close

-- The texts of the replies, in the order of the turns.
abbrev pub texts : List Turned → List ℕ
texts [] = []
texts (turned ∷ turns) = texts turns ++ text_of turned

-- What was posted, in the order of the turns; and how many rounds stopped short.
abbrev pub posts_of : List Turned → List Post
posts_of [] = []
posts_of (turned ∷ turns) = posts_of turns ++ turned.posts

abbrev pub shorts_of : List Turned → ℕ
shorts_of [] = 0
shorts_of (turned ∷ turns) = turned.short + shorts_of turns

-- The requests of the turns stand one after the other at the start of the bytes, and this is left after them.
abbrev pub Asks : List ℕ → List Turned → List ℕ → Type 0
Asks bytes [] left = left ≡ bytes
Asks bytes (turned ∷ turns) left = (mid : List ℕ) × Asks bytes turns mid × IsFirst mid turned.request left
