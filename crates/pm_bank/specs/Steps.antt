-- What each atomic step makes of the view of its seat, and what it tells.
use Rattle.std.specs.Prelude.{Option, Some, None, ◌≡◌, ℕ, suc, ◌+◌, ◌-◌, ◌/◌, ◌%◌, ◌<◌, ◌≤◌, List, [], ◌∷◌, ◌++◌, length, true, false, All, sum_by}
use Rattle.atomic_table.specs.Seated.{TableId}
use Rattle.atomic_table.specs.Table.{Me}
use Rattle.pm_meas.specs.declared.cell.Cell.{Cell}
use Rattle.pm_bank.specs.declared.view.View.{View}
use Rattle.pm_bank.specs.declared.view.Numbers.{Numbers}
use Rattle.pm_bank.specs.declared.view.Hit.{Hit}
use Rattle.pm_bank.specs.declared.view.Part.{Part}
use Rattle.pm_bank.specs.declared.view.Entry.{Entry}
use Rattle.pm_bank.specs.declared.view.Taken.{Taken}
use Rattle.pm_bank.specs.Entries.{when, stamped, count_in, AreSmall, AreUpTo, IsFoldOf}
use Rattle.pm_bank.specs.Words.{exact, fold_of}
use Rattle.pm_bank.specs.Views.{KeeperView}
use Rattle.pm_bank.specs.Rule.{aged}

abbrev pub zeros : Numbers
zeros = record { epoch = 0; out = 0; quotas = 0; older = 0; met = 0; late = 0; late_quota = 0; late_older = 0; untaken = 0; arrived = 0; sealed = 0; cleared = 0; looks = 0; seen = 0 }

-- a seat that is joined to another
abbrev pub spent : View
spent = record { keeps = false; lives = 0; since = 0; quota = 0; arrival = 0; count = 0; parts = []; entries = []; numbers = zeros; told = []; taken = [] }

-- a pass that is out, hired in the epoch h, with an open visit of m events of the epoch a; of its numbers those of its looks count
abbrev pub passing : Numbers → ℕ → ℕ → ℕ → ℕ → List Part → List Entry → View
passing x h q a m ps es = record { keeps = false; lives = 1; since = h; quota = q; arrival = a; count = m; parts = ps; entries = es; numbers = record zeros { looks = x.looks; seen = x.seen }; told = []; taken = [] }

-- the keeper, that met the entries es
abbrev pub keeping : Numbers → List Entry → List Part → List Taken → View
keeping x es told taken = record { keeps = true; lives = 0; since = 0; quota = 0; arrival = 0; count = 0; parts = []; entries = es; numbers = x; told = told; taken = taken }

abbrev pub new_keeper : View
new_keeper = keeping zeros [] [] []

-- arrive: m events of the gate's epoch, which is none before the pass was hired, nor before that of one of its entries
abbrev pub arrived : ℕ → ℕ → View → View
arrived e m v = passing v.numbers v.since v.quota e m [] v.entries

abbrev pub Arrives : ℕ → View → ℕ → View → Type 0
Arrives m v n w = (w ≡ arrived (n / 4294967296) m v) × (v.since ≤ n / 4294967296) × AreUpTo (n / 4294967296) v.entries

-- a glance, a load of the gate: the pass looked once more, and saw its epoch
abbrev pub glanced : ℕ → View → View
glanced e v = passing (record v.numbers { looks = v.numbers.looks + 1; seen = e }) v.since v.quota 0 0 [] v.entries

abbrev pub Glances : View → ℕ → View → Type 0
Glances v n w = (w ≡ glanced (n / 4294967296) v) × (v.since ≤ n / 4294967296) × AreUpTo (n / 4294967296) v.entries

-- add, raise and lower: the word k of the slot s has x of the open visit besides
abbrev pub lays : ℕ → ℕ → ℕ → View → View
lays k s x v = passing v.numbers v.since v.quota v.arrival v.count (record { word = k; slot = s; amount = x } ∷ v.parts) v.entries

-- leave: the open visit becomes entries
abbrev pub left : List Hit → View → View
left hs v = passing v.numbers v.since v.quota 0 0 [] (v.entries ++ stamped v.arrival hs)

-- flip: each pass that is out was hired in the ended epoch or earlier
abbrev pub flipped : ℕ → View → View
flipped n v = keeping (record v.numbers { epoch = suc v.numbers.epoch; older = v.numbers.out; met = 0; untaken = 1; arrived = n; sealed = 0; cleared = 0 }) v.entries [] v.taken

-- the arrivals are the entries that were met where no pass is out
abbrev pub Flips : View → ℕ → View → Type 0
Flips v n w = (w ≡ flipped (n % 4294967296) v) × (n / 4294967296 ≡ v.numbers.epoch) × (v.numbers.out ≡ 0 → n % 4294967296 ≡ count_in v.numbers.epoch v.entries)

-- look: as many leaves as arrivals say that no visit of the ended epoch is open
abbrev pub seen : ℕ → View → View
seen n v = keeping (record v.numbers { sealed = when v.numbers.arrived n 1; looks = v.numbers.looks + 1; seen = n }) v.entries v.told v.taken

abbrev pub Looks : View → ℕ → View → Type 0
Looks v n w = (w ≡ seen n v) × (n ≤ v.numbers.arrived) × (v.numbers.arrived ≤ 1073741824) × (v.numbers.older ≡ 0 → n ≡ v.numbers.arrived)

-- take: the word k of the slot s was n, which is the fold of what was met where no pass is out that was hired in the ended epoch or earlier
abbrev pub cleared : ℕ → ℕ → ℕ → View → View
cleared k s n v = keeping (record v.numbers { cleared = suc v.numbers.cleared }) v.entries (record { word = k; slot = s; amount = n } ∷ v.told) v.taken

abbrev pub TakesCell : ℕ → ℕ → View → ℕ → View → Type 0
TakesCell k s v n w = (w ≡ cleared k s n v) × (2 ≤ k → n ≤ 4294967295) × (v.numbers.older ≡ 0 → (e : ℕ) → suc e ≡ v.numbers.epoch → n ≡ exact k (fold_of k e s v.entries))

-- take of the leaves: all words of the epoch are empty, and these were its cells
abbrev pub emptied : List Cell → View → View
emptied cells v = keeping (record v.numbers { untaken = 0; sealed = 0; cleared = 0 }) v.entries [] (v.taken ++ record { epoch = v.numbers.epoch - 1; arrived = v.numbers.arrived; cells = cells } ∷ [])

abbrev pub TakesLeaves : List Cell → View → View → Type 0
TakesLeaves cells v w = (w ≡ emptied cells v) × (sum_by (λ (c : Cell). c.n) cells ≡ v.numbers.arrived)

-- split: a pass is hired
abbrev pub hires : ℕ → View → View
hires q v = keeping (record v.numbers { out = suc v.numbers.out; quotas = v.numbers.quotas + q }) v.entries v.told v.taken

abbrev pub hired : ℕ → View → View
hired q v = passing zeros v.numbers.epoch q 0 0 [] []

-- join: a pass is met. A join tells nothing, so the pass is counted until the next load
abbrev pub meets : View → View → View
meets v p = keeping (record v.numbers { met = v.numbers.met + length p.entries; late = 1; late_quota = p.quota; late_older = aged v.numbers.epoch p }) (v.entries ++ p.entries) v.told v.taken

-- settle, a load: the pass that was met is counted no more
abbrev pub settled : View → View
settled v = keeping (record v.numbers { out = v.numbers.out - v.numbers.late; quotas = v.numbers.quotas - v.numbers.late_quota; older = v.numbers.older - v.numbers.late_older; late = 0; late_quota = 0; late_older = 0 }) v.entries v.told v.taken

-- the arrivals of the ended epoch, and all that was taken, are the entries that were met
pub record IsWhole (v : View) : Type 0 where
  pub arrived_is : v.numbers.untaken ≡ 1 → (e : ℕ) → suc e ≡ v.numbers.epoch → v.numbers.arrived ≡ count_in e v.entries
  pub taken_are : All (IsFoldOf v.entries) v.taken

pub record Settles (v w : View) : Type 0 where
  pub view_is : w ≡ settled v
  pub out_less : v.numbers.late ≤ v.numbers.out
  pub quotas_less : v.numbers.late_quota ≤ v.numbers.quotas
  pub older_less : v.numbers.late_older ≤ v.numbers.older
  pub room : v.numbers.met + v.numbers.quotas ≤ 1073741824 + v.numbers.late_quota
  pub older_out : v.numbers.older + v.numbers.late ≤ v.numbers.out + v.numbers.late_older
  pub up_to : AreUpTo v.numbers.epoch v.entries
  pub small : AreSmall v.entries
  pub whole : v.numbers.out ≡ v.numbers.late → IsWhole v

-- no pass that was met is still counted
pub record IsSettled (x : Numbers) : Type 0 where
  pub late_none : x.late ≡ 0
  pub quota_none : x.late_quota ≡ 0
  pub older_none : x.late_older ≡ 0

-- a pass with no open visit, one with an open visit of an epoch, and the keeper
abbrev pub IsIdle : View → Type 0
IsIdle v = v ≡ passing v.numbers v.since v.quota 0 0 [] v.entries

abbrev pub IsVisiting : View → ℕ → Type 0
IsVisiting v e = (v ≡ passing v.numbers v.since v.quota e v.count v.parts v.entries) × (0 < v.count)

abbrev pub IsKeeper : View → Type 0
IsKeeper v = v ≡ keeping v.numbers v.entries v.told v.taken

-- the keeper while it takes the words of the epoch that ended
pub record IsTaking (v : View) (ended : ℕ) : Type 0 where
  pub keeper_is : IsKeeper v
  pub last : suc ended ≡ v.numbers.epoch
  pub untaken : v.numbers.untaken ≡ 1
  pub sealed : v.numbers.sealed ≡ 1

-- a pass between two calls: with no open visit, and so many events of its quota left
pub record IsPass (me : Me (Unit {0}) View) (since quota left : ℕ) : Type 0 where
  pub plain : me.1 ≡ []
  pub is : me.0 ≡ passing me.0.numbers since quota 0 0 [] me.0.entries
  pub left_is : length me.0.entries + left ≡ quota

-- a visit: one event arrived in an epoch
pub record IsVisit (me : Me (Unit {0}) View) (since quota left epoch : ℕ) : Type 0 where
  pub plain : me.1 ≡ []
  pub is : me.0 ≡ passing me.0.numbers since quota epoch 1 [] me.0.entries
  pub left_is : suc (length me.0.entries) + left ≡ quota
  pub hired : since ≤ epoch
  pub counted : AreUpTo epoch me.0.entries

-- the arrivals that are pending, in numbers
abbrev pub IsPending : Option ℕ → Numbers → Type 0
IsPending None x = x.untaken ≡ 0
IsPending (Some n) x = (x.untaken ≡ 1) × (x.arrived ≡ n) × (0 < x.epoch)

-- the keeper between two calls
pub record IsKeeping (me : Me (Unit {0}) View) (workers epoch out quotas older met : ℕ) (pending : Option ℕ) : Type 0 where
  pub plain : me.1 ≡ []
  pub keeper_is : IsKeeper me.0
  pub settled : IsSettled me.0.numbers
  pub epoch_is : me.0.numbers.epoch ≡ epoch
  pub out_is : me.0.numbers.out ≡ out
  pub quotas_is : me.0.numbers.quotas ≡ quotas
  pub older_is : me.0.numbers.older ≡ older
  pub met_is : me.0.numbers.met ≡ met
  pub pending_is : IsPending pending me.0.numbers
  pub none_cleared : me.0.numbers.cleared ≡ 0
  pub room : quotas + met ≤ 1073741824
  pub few : out ≤ workers
  pub workers_few : workers ≤ 64
  pub older_few : older ≤ out
  pub up_to : AreUpTo epoch me.0.entries
  pub small : AreSmall me.0.entries
  pub whole : out ≡ 0 → IsWhole me.0

-- what contracts see of it
abbrev pub keeper_view : TableId → Me (Unit {0}) View → ℕ → ℕ → ℕ → ℕ → ℕ → ℕ → Option ℕ → KeeperView
keeper_view id me workers epoch out quotas older met pending = record { bank = id; workers = workers; epoch = epoch; out = out; quotas = quotas; older = older; granted = quotas + met; met = me.0.entries; pending = pending; taken = me.0.taken; looks = me.0.numbers.looks; seen = me.0.numbers.seen }
