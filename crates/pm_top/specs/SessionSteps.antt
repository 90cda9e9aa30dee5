-- A session, turn by turn.
use Rattle.std.specs.Prelude.{ℕ, ◌≡◌, Bool, false, List, Option, Some, None}
use Rattle.pm_base.specs.declared.code.Code.{Code}
use Rattle.pm_inventory.specs.Inventory.{InventoryState}
use Rattle.pm_http.specs.declared.request.Request.{Request}
use Rattle.pm_tally.specs.Outcome.{Output, Gains, GainsPrefix}
use Rattle.pm_engine.specs.Bears.{Run}
use Rattle.pm_top.specs.SessionTurn.{Turned, text_of}
use Rattle.pm_top.specs.Session.{Input, Mail, Sends, Store, Reads, IsAnsweredBy, EndsSession, IsSoFar}
use Rattle.pm_top.specs.declared.session_end.SessionEnd.{SessionEnd}
use Rattle.pm_top.specs.declared.session_end.SessionEnd.TheVariants.{Framing, WriteFault}

-- The session goes on after a request: its reply is written whole, its rounds are made, and the run after them is carried.
pub record GoesOn (inventory : InventoryState) (output : Output) (mail : Mail) (IsCarried : Run → Type 0) (run : Run) (request : Request) : Type 0 where
  pub by : IsAnsweredBy inventory run request
  pub on : request.close ≡ false
  pub gains : Gains output (text_of by.turned)
  pub sends : Sends mail by.turned.posts by.turned.short
  pub carried : IsCarried by.next

-- The next request was read, and the session goes on after it.
pub record GoesOnBy (inventory : InventoryState) (input : Input) (output : Output) (mail : Mail) (IsCarried : Run → Type 0) (run : Run) : Type 0 where
  pub request : Request
  pub reads : Reads input request
  pub on : GoesOn inventory output mail IsCarried run request

-- Turns were made from a run to one that is carried.
pub record HasTurned (inventory : InventoryState) (input : Input) (output : Output) (mail : Mail) (IsCarried : Run → Type 0) (run : Run) (given : ℕ)
    : Type 0 where
  pub turns : List Turned
  pub now : Run
  pub so_far : IsSoFar inventory input output mail run turns now given
  pub carried : IsCarried now

-- One turn more, or the end.
abbrev pub TakesTurn : InventoryState → ℕ → Input → Output → Mail → Store → (Run → Type 0) → Run → Option SessionEnd → Type 0
TakesTurn inventory start input output mail store IsCarried run None = GoesOnBy inventory input output mail IsCarried run
TakesTurn inventory start input output mail store IsCarried run (Some end) = EndsSession inventory start input output mail store run end

-- A request is refused by how it is framed: the reply is written whole, or not.
abbrev pub RefusesFraming : Output → Code → ℕ → List ℕ → SessionEnd → Type 0
RefusesFraming output code offset text (Framing code' offset') = (code' ≡ code) × (offset' ≡ offset) × Gains output text
RefusesFraming output code offset text WriteFault = GainsPrefix output text
RefusesFraming output code offset text _ = ⊥

-- A turn that is an end of this kind.
abbrev pub is_end : (SessionEnd → Bool) → Option SessionEnd → Bool
is_end kind None = false
is_end kind (Some end) = kind end
