-- A session: turns, and how it ends after them (this project's own).
use Rattle.std.specs.Prelude.{ℕ, ◌≡◌, ◌+◌, ◌⊎◌, Bool, true, false, List, [], ◌++◌, length, Some}
use Rattle.pm_base.specs.declared.code.Code.{Code}
use Rattle.pm_outside.specs.Posts.{Post}
use Rattle.pm_inventory.specs.Inventory.{InventoryState}
use Rattle.pm_history.specs.History.{History, last_moment}
use Rattle.pm_items.specs.Items.{kept}
use Rattle.pm_disk.specs.Moments.{DiskState, Told}
use Rattle.pm_ledger.specs.Between.{EachBetween}
use Rattle.pm_http.specs.declared.request.Request.{Request}
use Rattle.pm_http.specs.declared.next.Next.{Next}
use Rattle.pm_http.specs.declared.next.Next.TheVariants as next
use Rattle.pm_http.specs.Reply.{reply_text}
use Rattle.pm_http.specs.Stream.{IsNext, IsFirst, StopsAtLimit, StopsAtFault, StopsForMemory, MayBeTold, readable}
use Rattle.pm_state.specs.Given.{refused}
use Rattle.pm_notice.specs.Round.{faults_after_stops}
use Rattle.pm_tally.specs.Outcome.{Output, Gains, GainsPrefix}
use Rattle.pm_engine.specs.Bears.{Run}
use Rattle.pm_engine.specs.Turn.{IsMost}
use Rattle.pm_top.specs.SessionTurn.{Turned, IsReplied, IsTurned, Runs, AreOpen, Asks, text_of, texts, posts_of, shorts_of, moment_asked}
use Rattle.pm_top.specs.declared.session_end.SessionEnd.{SessionEnd}
use Rattle.pm_top.specs.declared.session_end.SessionEnd.TheVariants.{Ended, Closed, Framing, CutShort, Limit, ReadFault, WriteFault, StoreFault, StoreFull, Memory}

-- ---- the outside

-- An input, where it tells: how many bytes came before, those that were left, and those that are left after a call.
pub record Input : Type 1 where
  pub IsTold : Type 0
  pub given : ℕ
  pub before : List ℕ
  pub after : List ℕ

abbrev pub input_of : Type 0 → ℕ → List ℕ → List ℕ → Input
input_of IsTold given before after = record { IsTold = IsTold; given = given; before = before; after = after }

abbrev pub output_of : Type 0 → List ℕ → List ℕ → Output
output_of IsTold before after = record { IsTold = IsTold; before = before; after = after }

-- A courier before a call and after it: the posts that it made, where it tells them, and how often it has failed.
pub record Mail : Type 1 where
  pub IsTold : Type 0
  pub before : List Post
  pub after : List Post
  pub failed : ℕ
  pub failed_after : ℕ

abbrev pub mail_of : Type 0 → List Post → List Post → ℕ → ℕ → Mail
mail_of IsTold before after failed failed_after =
    record { IsTold = IsTold; before = before; after = after; failed = failed; failed_after = failed_after }

-- Exactly these posts were made, and so many rounds stopped short, each by one failure of the courier.
abbrev pub Sends : Mail → List Post → ℕ → Type 0
Sends mail posts short = (mail.IsTold → mail.after ≡ mail.before ++ posts) × (mail.failed_after ≡ faults_after_stops short mail.failed)

-- A disk after a call, where it tells.
pub record Store : Type 1 where
  pub IsTold : Type 0
  pub state : DiskState

abbrev pub store_of : Type 0 → Told → Store
store_of IsTold told = record { IsTold = IsTold; state = told.now }

-- The bytes that are left go on with this.
abbrev pub Tells : Input → Next → Type 0
Tells input next =
    input.IsTold → IsNext input.before input.given next input.after
    × (StopsAtLimit input.given input.before → MayBeTold (readable input.given input.before) next)

-- The next request was read.
abbrev pub Reads : Input → Request → Type 0
Reads input request = input.IsTold → IsFirst input.before request input.after

-- ---- the disk

-- Each image of the disk holds exactly what is kept of the settled history.
abbrev pub Rests : InventoryState → Store → Run → Type 0
Rests inventory store run = store.IsTold → EachBetween inventory (kept run.settled) (kept run.settled) store.state

-- Each image holds a history between what was settled and what the request in progress makes of it at most.
pub record IsCutOff (inventory : InventoryState) (request : Request) (run : Run) (disk : DiskState) : Type 0 where
  pub moment : ℕ
  pub asked : moment_asked request.moment (last_moment run.history) ≡ Some moment
  pub most : History
  pub is : IsMost inventory moment request run.history run.cursors most
  pub images : EachBetween inventory (kept run.settled) (kept most) disk

-- ---- a request that was read

-- It was answered: the turn that this is, and the run after it.
pub record IsAnsweredBy (inventory : InventoryState) (run : Run) (request : Request) : Type 0 where
  pub turned : Turned
  pub next : Run
  pub of : turned.request ≡ request
  pub turn : IsTurned inventory run turned next

-- It was the last one: its reply was written, and its rounds were made.
pub record IsLast (inventory : InventoryState) (output : Output) (mail : Mail) (store : Store) (run : Run) (request : Request) : Type 0 where
  pub by : IsAnsweredBy inventory run request
  pub gains : Gains output (text_of by.turned)
  pub sends : Sends mail by.turned.posts by.turned.short
  pub rests : Rests inventory store by.next

-- It was the last one: its reply could not be written whole, and has no rounds.
pub record IsUnwritten (inventory : InventoryState) (output : Output) (mail : Mail) (store : Store) (run : Run) (request : Request) : Type 0 where
  pub turned : Turned
  pub next : Run
  pub of : turned.request ≡ request
  pub replied : IsReplied inventory run turned next
  pub gains : GainsPrefix output (text_of turned)
  pub sends : Sends mail [] 0
  pub rests : Rests inventory store next

-- It has no reply and no turn, since the store failed.
pub record HasNoReply (inventory : InventoryState) (output : Output) (mail : Mail) (store : Store) (run : Run) (request : Request) : Type 0 where
  pub gains : Gains output []
  pub sends : Sends mail [] 0
  pub images : store.IsTold → IsCutOff inventory request run store.state

-- How the session ends with it.
abbrev pub EndsWith : InventoryState → Output → Mail → Store → Run → Request → SessionEnd → Type 0
EndsWith inventory output mail store run request Closed = (request.close ≡ true) × IsLast inventory output mail store run request
EndsWith inventory output mail store run request WriteFault = IsUnwritten inventory output mail store run request
EndsWith inventory output mail store run request StoreFault = HasNoReply inventory output mail store run request
EndsWith inventory output mail store run request (StoreFull length' need) = HasNoReply inventory output mail store run request
EndsWith inventory output mail store run request _ = ⊥

-- ---- the end

-- The session ends with the next request.
pub record EndsBy (inventory : InventoryState) (input : Input) (output : Output) (mail : Mail) (store : Store) (run : Run) (end : SessionEnd) : Type 0 where
  pub request : Request
  pub reads : Reads input request
  pub ends : EndsWith inventory output mail store run request end

-- No request is answered any more: of a text this is written, and nothing is posted or stored.
pub record Quits (inventory : InventoryState) (mail : Mail) (store : Store) (run : Run) (Told' Writes : Type 0) : Type 0 where
  pub told : Told'
  pub writes : Writes
  pub sends : Sends mail [] 0
  pub rests : Rests inventory store run

-- The text of the reply to a request that is refused by how it is framed. It closes, and its moment adds nothing.
abbrev pub framing_text : Code → Run → List ℕ
framing_text code run = reply_text (refused code) (last_moment run.history) true

-- The reply to a request that is refused by how it is framed could not be written whole.
pub record IsUnrefused (inventory : InventoryState) (input : Input) (output : Output) (mail : Mail) (store : Store) (run : Run) : Type 0 where
  pub code : Code
  pub at : ℕ
  pub quits : Quits inventory mail store run (Tells input (next.Framing code at)) (GainsPrefix output (framing_text code run))

-- How a session ends after its turns. Offsets are counted from where it started.
abbrev pub EndsSession : InventoryState → ℕ → Input → Output → Mail → Store → Run → SessionEnd → Type 0
EndsSession inventory start input output mail store run Ended = Quits inventory mail store run (Tells input next.End) (Gains output [])
EndsSession inventory start input output mail store run Closed = EndsBy inventory input output mail store run Closed
EndsSession inventory start input output mail store run (Framing code offset) =
    Quits inventory mail store run (Tells input (next.Framing code (start + offset))) (Gains output (framing_text code run))
EndsSession inventory start input output mail store run (CutShort offset) =
    Quits inventory mail store run (Tells input (next.CutShort (start + offset))) (Gains output [])
EndsSession inventory start input output mail store run Limit =
    Quits inventory mail store run (input.IsTold → StopsAtLimit input.given input.before) (Gains output [])
EndsSession inventory start input output mail store run ReadFault =
    Quits inventory mail store run (input.IsTold → StopsAtFault input.before input.after) (Gains output [])
EndsSession inventory start input output mail store run WriteFault =
    EndsBy inventory input output mail store run WriteFault ⊎ IsUnrefused inventory input output mail store run
EndsSession inventory start input output mail store run StoreFault = EndsBy inventory input output mail store run StoreFault
EndsSession inventory start input output mail store run (StoreFull length' need) =
    EndsBy inventory input output mail store run (StoreFull length' need)
EndsSession inventory start input output mail store run Memory =
    Quits inventory mail store run (input.IsTold → StopsForMemory input.before input.after) (Gains output [])

-- ---- the session

-- Turns that were made so far: they lead from the one run to the other, their requests stand at the start of the input, none of them
-- closes, the texts of their replies are written, and their rounds are made. So many bytes came before what is left.
pub record IsSoFar (inventory : InventoryState) (input : Input) (output : Output) (mail : Mail) (run : Run) (turns : List Turned) (now : Run) (given : ℕ)
    : Type 0 where
  pub runs : Runs inventory run turns now
  pub on : AreOpen turns
  pub asks : input.IsTold → Asks input.before turns input.after
  pub counted : input.IsTold → given + length input.after ≡ input.given + length input.before
  pub gains : Gains output (texts turns)
  pub sends : Sends mail (posts_of turns) (shorts_of turns)

-- What a session did, from the run that it began with: its turns, and its end after them.
pub record IsSession (inventory : InventoryState) (input : Input) (output : Output) (mail : Mail) (store : Store) (run : Run) (end : SessionEnd)
    : Type 0 where
  pub turns : List Turned
  pub now : Run
  pub given : ℕ
  pub left : List ℕ
  pub written : List ℕ
  pub posted : List Post
  pub failed : ℕ
  pub so_far : IsSoFar inventory (input_of input.IsTold input.given input.before left) (output_of output.IsTold output.before written)
      (mail_of mail.IsTold mail.before posted mail.failed failed) run turns now given
  pub ends : EndsSession inventory input.given (input_of input.IsTold given left input.after) (output_of output.IsTold written output.after)
      (mail_of mail.IsTold posted mail.after failed mail.failed_after) store now end

-- ---- faults

-- The input failed.
abbrev pub ends_by_read : SessionEnd → Bool
ends_by_read ReadFault = true
ends_by_read _ = false

-- The output failed.
abbrev pub ends_by_write : SessionEnd → Bool
ends_by_write WriteFault = true
ends_by_write _ = false

-- The disk failed.
abbrev pub ends_by_store : SessionEnd → Bool
ends_by_store StoreFault = true
ends_by_store _ = false
