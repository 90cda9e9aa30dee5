-- What contracts see of a bank, its keeper, a pass and a visit (this project's own).
use Rattle.std.specs.Prelude.{◌≡◌, ℕ, ◌+◌, ◌-◌, ◌≤◌, Option, Some, None, List, ◌∷◌, [], ◌++◌, length, All, min}
use Rattle.atomic_table.specs.Seated.{TableId}
use Rattle.pm_meas.specs.declared.cell.Cell.{Cell}
use Rattle.pm_bank.specs.declared.view.Hit.{Hit}
use Rattle.pm_bank.specs.declared.view.Entry.{Entry}
use Rattle.pm_bank.specs.declared.view.Taken.{Taken}
use Rattle.pm_bank.specs.Entries.{count_in, stamped, AreUpTo, IsFoldOf}

-- which bank it is, and how many slots it has
pub record BankView : Type 0 where
  pub id : TableId
  pub slots : ℕ

-- a pass of a bank: the epoch at its hiring, how many events it may count, and those that it counted, in order; how often it
-- looked at the open epoch without counting, and the epoch that its last look saw
pub record PassView : Type 0 where
  pub bank : TableId
  pub since : ℕ
  pub quota : ℕ
  pub entries : List Entry
  pub looks : ℕ
  pub seen : ℕ

-- a pass with one event that arrived in an epoch and hasn't left
pub record VisitView : Type 0 where
  pub pass : PassView
  pub epoch : ℕ

-- the keeper of a bank
pub record KeeperView : Type 0 where
  pub bank : TableId
  -- how many passes may be out
  pub workers : ℕ
  -- the epoch that is open
  pub epoch : ℕ
  -- of the passes that are out: how many, the sum of their quotas, and how many were hired in the ended epoch or earlier
  pub out : ℕ
  pub quotas : ℕ
  pub older : ℕ
  -- these quotas, and the numbers of entries of the passes that were met since the last flip
  pub granted : ℕ
  -- the entries of the passes that were met, in order
  pub met : List Entry
  -- the arrivals of the ended epoch, until it is taken
  pub pending : Option ℕ
  -- what was taken, in order
  pub taken : List Taken
  -- how often the leaves were looked at, and what the last look saw
  pub looks : ℕ
  pub seen : ℕ

-- the pass with the events of a run besides
abbrev pub with_hits : PassView → ℕ → List Hit → PassView
with_hits p e hs = record p { entries = p.entries ++ stamped e hs }

-- the pass after a run in this epoch: a run without an event only looks at the epoch
abbrev pub with_run : PassView → ℕ → List Hit → PassView
with_run p e [] = record p { looks = p.looks + 1; seen = e }
with_run p e (h ∷ hs) = with_hits p e (h ∷ hs)

-- an arrival in this epoch comes behind all that the pass did
pub record Follows (p : PassView) (e : ℕ) : Type 0 where
  pub hired : p.since ≤ e
  pub counted : AreUpTo e p.entries

-- a pass that is out was hired in the ended epoch or earlier: 1, else 0
abbrev pub is_older : KeeperView → PassView → ℕ
is_older k p = min 1 (k.epoch - p.since)

-- a pass is hired
abbrev pub with_pass : KeeperView → ℕ → KeeperView
with_pass k quota = record k { out = k.out + 1; quotas = k.quotas + quota; granted = k.granted + quota }

abbrev pub fresh_pass : KeeperView → ℕ → PassView
fresh_pass k quota = record { bank = k.bank; since = k.epoch; quota = quota; entries = []; looks = 0; seen = 0 }

-- a pass is met: its entries are the keeper's, and what is left of its quota is given back
pub record Meets (old : KeeperView) (p : PassView) (new : KeeperView) : Type 0 where
  pub out_less : new.out + 1 ≡ old.out
  pub quotas_less : new.quotas + p.quota ≡ old.quotas
  pub granted_less : new.granted + p.quota ≡ old.granted + length p.entries
  pub older_less : new.older + is_older old p ≡ old.older
  pub else_same : new ≡ record old { out = new.out; quotas = new.quotas; granted = new.granted; older = new.older; met = old.met ++ p.entries }
  -- no entry of the pass is of a later epoch than the keeper's
  pub up_to : AreUpTo old.epoch p.entries

-- the epoch ends, with these arrivals
abbrev pub flipped_keeper : KeeperView → ℕ → KeeperView
flipped_keeper k n = record k { epoch = k.epoch + 1; granted = k.quotas; older = k.out; pending = Some n }

-- the leaves were looked at once more, and n were seen
abbrev pub looking : KeeperView → ℕ → KeeperView
looking k n = record k { looks = k.looks + 1; seen = n }

-- the ended epoch is taken, with these arrivals and cells
abbrev pub with_taken : KeeperView → ℕ → List Cell → KeeperView
with_taken k n cells = record k { pending = None; taken = k.taken ++ record { epoch = k.epoch - 1; arrived = n; cells = cells } ∷ []; looks = k.looks + 1; seen = n }

-- the arrivals that are pending are the entries that were met of the ended epoch
abbrev pub IsCounted : Option ℕ → ℕ → List Entry → Type 0
IsCounted None e es = Unit {0}
IsCounted (Some n) e es = n ≡ count_in (e - 1) es

-- all that was taken is the fold of what was met, and as many arrived
pub record AreFolds (k : KeeperView) : Type 0 where
  pub taken_are : All (IsFoldOf k.met) k.taken
  pub pending_is : IsCounted k.pending k.epoch k.met

-- the keeper of a new bank
abbrev pub new_keeper_view : TableId → ℕ → KeeperView
new_keeper_view id workers = record { bank = id; workers = workers; epoch = 0; out = 0; quotas = 0; older = 0; granted = 0; met = []; pending = None; taken = []; looks = 0; seen = 0 }
