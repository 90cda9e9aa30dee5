-- What holds of the turns of a session (this project's own).
use Rattle.std.specs.Prelude.{◌≡◌, ◌+◌, ◌-◌, ℕ, List, [], ◌∷◌, length, Option}
use Rattle.pm_inventory.specs.Inventory.{InventoryState}
use Rattle.pm_history.specs.History.{IsHistory}
use Rattle.pm_items.specs.Items.{kept}
use Rattle.pm_items.specs.Kept.{IsBeginning}
use Rattle.pm_http.specs.declared.request.Request.{Request}
use Rattle.pm_http.specs.declared.next.Next.{Next}
use Rattle.pm_http.specs.StreamLaw.{IsStream}
use Rattle.pm_engine.specs.Bears.{Run}
use Rattle.pm_top.specs.SessionTurn.{Turned, Runs, AreOpen, Asks}

-- Whatever turns follow a run without an owed part, what is kept of its settled history is a beginning of what is kept then.
abbrev pub TurnsStay : Type 0
TurnsStay =
    (inventory : InventoryState) (old new : Run) (turns : List Turned) → old.settled ≡ old.history → IsHistory new.history
    → Runs inventory old turns new → IsBeginning (kept old.settled) (kept new.settled)

-- The requests of the turns, in their order, before others.
abbrev pub requests_of : List Turned → List Request → List Request
requests_of [] others = others
requests_of (turned ∷ turns) others = requests_of turns (turned.request ∷ others)

-- The requests of turns, none of which closes, are the first of the stream of the bytes, which goes on with that of what is left.
abbrev pub TurnsAreStream : Type 0
TurnsAreStream =
    (bytes left : List ℕ) (offset : ℕ) (turns : List Turned) (others : List Request) (end : Option Next) → Asks bytes turns left → AreOpen turns
    → IsStream left (offset + (length bytes - length left)) others end → IsStream bytes offset (requests_of turns others) end
