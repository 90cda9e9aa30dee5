-- What an engine and its disk stand for.
use Rattle.std.specs.Prelude.{ℕ, ◌≡◌, List}
use Rattle.pm_disk.specs.Moments.{Told}
use Rattle.pm_inventory.specs.Inventory.{InventoryState}
use Rattle.pm_history.specs.History.{History}
use Rattle.pm_ledger.specs.Ledger.{IsLedgerOf, IsReady, IsTied}
use Rattle.pm_notice.specs.Planned.{subscriptions_of}
use Rattle.pm_notice.specs.StandFor.{cursors_of}
use Rattle.pm_state.specs.Stands.{StateStands}
use Rattle.pm_engine.specs.declared.engine.Engine.{Engine}

-- The inventory that an engine was opened with.
abbrev pub inventory_of : Engine → InventoryState
inventory_of engine = engine.state.inventory

-- The cursors of its subscriptions, in byte order of id.
abbrev pub cursors_in : Engine → List ℕ
cursors_in engine = cursors_of (subscriptions_of engine.state.subs)

-- The state stands for a history, with these cursors, and the disk, where it tells, has its items.
pub record Bears (IsTold : Type 0) (engine : Engine) (disk : Told) (h : History) (cursors : List ℕ) : Type 0 where
  pub stands : StateStands h engine.state
  pub served : cursors_in engine ≡ cursors
  pub store : IsTold → IsLedgerOf (inventory_of engine) engine.ledger disk.now h

-- A history; the settled part of it, whose entries with items are in each image of the disk; and the cursors of its subscriptions. Nothing is
-- owed: all of it is settled.
pub record Run : Type 0 where
  pub history : History
  pub settled : History
  pub cursors : List ℕ

abbrev pub settled_at : History → List ℕ → Run
settled_at h cursors = record { history = h; settled = h; cursors = cursors }

-- An engine and its disk stand for a run.
pub record Carries (IsTold : Type 0) (engine : Engine) (disk : Told) (run : Run) : Type 0 where
  pub bears : Bears IsTold engine disk run.history run.cursors
  pub settled : run.settled ≡ run.history

-- The store isn't spent, and its area, where the disk tells, is as its last call left it. This is all that a call asks, so that it can be
-- met over a disk that tells nothing.
pub record IsUsable (IsTold : Type 0) (engine : Engine) (disk : Told) : Type 0 where
  pub ready : IsReady engine.ledger
  pub tied : IsTold → IsTied engine.ledger disk.now
