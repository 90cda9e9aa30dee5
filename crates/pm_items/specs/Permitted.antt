-- Which item a store may have after those of a history (this project's own). That no later Boot has another inventory text, and that
-- moments are in range, is said of the bytes.
use Rattle.std.specs.Prelude.{ℕ, ◌+◌, ◌*◌, ◌<◌, ◌≤◌, ◌≡◌, ◌⊎◌, Bool, true, not, IsSome, List, [], Option, Some, None}
use Rattle.std.specs.Option.{option_map}
use Rattle.pm_base.specs.Moment.{tick_of}
use Rattle.pm_meas.specs.declared.cell.Cell.{Cell}
use Rattle.pm_meas.specs.declared.cell.TheConstants.{MAX_VALUE}
use Rattle.pm_meas.specs.Cell.{cell_of}
use Rattle.pm_history.specs.declared.entry.Side.{Side}
use Rattle.pm_history.specs.declared.entry.Side.TheVariants.{Job, Monitor}
use Rattle.pm_history.specs.declared.entry.Entry.{Entry}
use Rattle.pm_history.specs.declared.entry.Entry.TheVariants.{JobMade, JobState, JobDeleted, MonitorMade, MonitorState, MonitorDeleted, Subscribed, Unsubscribed}
use Rattle.pm_history.specs.Entry.{moment_of, Change, Made, Moved, Deleted}
use Rattle.pm_history.specs.History.{History, Start, ◌▷◌, last_moment, IsHistory}
use Rattle.pm_history.specs.Terms.{Terms}
use Rattle.pm_history.specs.Standing.{Standing, standing_after}
use Rattle.pm_items.specs.Items.{Item, Opened, Booked, Changed, item_of, items_of, kept}
use Rattle.pm_items.specs.Alike.{is_begun}
use Rattle.pm_items.specs.Subscribed.{subscribed_after, subscribers_after}
use Rattle.pm_items.specs.Cursors.{cursors_taken, CursorsFit}

-- What an inventory and the rules of requests say: which objects and metrics are slots, which bodies may be made under an id after a
-- history, and which subscriptions.
pub record Rules : Type 0 where
  pub is_slot : ℕ → ℕ → Bool
  pub may_make : History → Side → List ℕ → List ℕ → Bool
  pub may_subscribe : History → List ℕ → ℕ → List ℕ → Bool

-- The most values of a slot in a tick.
abbrev pub MOST_VALUES : ℕ
MOST_VALUES = 1073741824

-- A cell has values, and its numbers are in range. It may still be the fold of no list of values.
pub record IsInRange (cell : Cell) : Type 0 where
  pub some : 0 < cell.n
  pub few : cell.n ≤ MOST_VALUES
  pub ordered : cell.min ≤ cell.max
  pub small : cell.max ≤ MAX_VALUE
  pub total : cell.sum ≤ cell.n * cell.max

-- The cells with values are those of slots, and in range.
abbrev pub CellsFit : Rules → (ℕ → ℕ → Cell) → Type 0
CellsFit rules cells =
    (object metric : ℕ) → (cells object metric ≡ cell_of []) ⊎ ((rules.is_slot object metric ≡ true) × IsInRange (cells object metric))

module _ (terms : Side → List ℕ → Terms) (rules : Rules) (taken : List (List ℕ)) where
  -- A change of a job or a monitor may come after h: what is made doesn't exist and passes the rules of its side, a state becomes the
  -- other one, and what is deleted exists.
  abbrev pub Suits : History → Side → List ℕ → Change → Type 0
  Suits h side id (Made body) = (standing_after terms side h id ≡ None) × (rules.may_make h side id body ≡ true)
  Suits h side id (Moved unlocked) =
      option_map (λ (s : Standing). s.unlocked) (standing_after terms side h id) ≡ Some (not unlocked)
  Suits h side id Deleted = IsSome (standing_after terms side h id)

  -- An entry is a change, and may come after h.
  abbrev pub MayChange : History → Entry → Type 0
  MayChange h (JobMade moment id body) = Suits h Job id (Made body)
  MayChange h (JobState moment id unlocked) = Suits h Job id (Moved unlocked)
  MayChange h (JobDeleted moment id) = Suits h Job id Deleted
  MayChange h (MonitorMade moment id body) = Suits h Monitor id (Made body)
  MayChange h (MonitorState moment id unlocked) = Suits h Monitor id (Moved unlocked)
  MayChange h (MonitorDeleted moment id) = Suits h Monitor id Deleted
  MayChange h (Subscribed moment id port path) = (subscribed_after h id ≡ None) × (rules.may_subscribe h id port path ≡ true)
  MayChange h (Unsubscribed moment id) = IsSome (subscribed_after h id)
  MayChange h _ = ⊥

  -- A Booked may come after h: in a later tick, not long after that of the last moment, which it takes. A Now without an item may have
  -- come as late as the last second of that tick, and a day after it no Now comes, but a Boot.
  pub record PermitsBooked (h : History) (moment tick : ℕ) (cells : ℕ → ℕ → Cell) : Type 0 where
    pub begun : is_begun h ≡ true
    pub later : tick_of (last_moment h) < tick_of moment
    pub soon : moment ≤ 60 * tick_of (last_moment h) + 86459
    pub takes : tick ≡ tick_of (last_moment h)
    pub cells_fit : CellsFit rules cells
    pub cursors_fit : CursorsFit terms taken h (subscribers_after h) (cursors_taken taken h)

  -- A change may come after h: in the tick of the last moment.
  pub record PermitsChange (h : History) (e : Entry) : Type 0 where
    pub begun : is_begun h ≡ true
    pub later : last_moment h ≤ moment_of e
    pub beside : tick_of (moment_of e) ≡ tick_of (last_moment h)
    pub may : MayChange h e

  -- An item may come after h, which ends with an item. The first one is a Boot.
  abbrev pub Permits : History → Item → Type 0
  Permits h (Opened moment) = last_moment h ≤ moment
  Permits h (Booked moment tick cells) = PermitsBooked h moment tick cells
  Permits h (Changed e) = PermitsChange h e

  -- The same of the item of an entry, where it has one.
  abbrev pub PermitsNext : History → Option Item → Type 0
  PermitsNext h None = Unit {0}
  PermitsNext h (Some item) = Permits h item

  -- Each item of a history is permitted by those before it.
  abbrev pub AllPermitted : History → Type 0
  AllPermitted Start = Unit {0}
  AllPermitted (h ▷ e) = AllPermitted h × PermitsNext (kept h) (item_of h e)

-- Rules say the same of histories with the same items.
abbrev pub FollowItems : Rules → Type 0
FollowItems rules =
    (g h : History) → IsHistory g → IsHistory h → items_of g ≡ items_of h
    → ((side : Side) (id body : List ℕ) → rules.may_make g side id body ≡ rules.may_make h side id body)
    × ((id : List ℕ) (port : ℕ) (path : List ℕ) → rules.may_subscribe g id port path ≡ rules.may_subscribe h id port path)

-- Histories that end with an item and have the same items permit the same items.
abbrev pub SamePermitted : Type 0
SamePermitted =
    (terms : Side → List ℕ → Terms) (rules : Rules) (taken : List (List ℕ)) (g h : History)
    → FollowItems rules → IsHistory g → IsHistory h → kept g ≡ g → kept h ≡ h → items_of g ≡ items_of h
    → (item : Item) → Permits terms rules taken g item → Permits terms rules taken h item

-- Where each item of a history is permitted, each item of one with the same items is.
abbrev pub SameAllPermitted : Type 0
SameAllPermitted =
    (terms : Side → List ℕ → Terms) (rules : Rules) (taken : List (List ℕ)) (g h : History)
    → FollowItems rules → IsHistory g → IsHistory h → items_of g ≡ items_of h
    → AllPermitted terms rules taken g → AllPermitted terms rules taken h
