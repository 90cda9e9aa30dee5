-- A history: the entries of a producer, in order (this project's own).
use Rattle.std.specs.Prelude.{ℕ, ◌+◌, ◌<◌, ◌≤◌, ◌≡◌, Bool, false, ◌&&◌, ◌||◌, List, [], ◌∷◌, Option, Some, None, if◌then◌else◌, nat_lt, nat_le}
use Rattle.pm_base.specs.Moment.{IsMoment, tick_of}
use Rattle.pm_meas.specs.declared.cell.TheConstants.{MAX_VALUE}
use Rattle.pm_history.specs.declared.entry.Entry.{Entry}
use Rattle.pm_history.specs.declared.entry.Entry.TheVariants.{Boot}
use Rattle.pm_history.specs.Entry.{moment_of, value_of, is_opening}

infixl 45 ◌▷◌
-- Nothing yet; or a history, and the entry that came next.
pub data History : Type 0 where
  Start : History
  ◌▷◌ : History → Entry → History

-- A history, and these entries after it.
abbrev pub grown : History → List Entry → History
grown h [] = h
grown h (e ∷ es) = grown (h ▷ e) es

-- The history of a list of entries.
abbrev pub history_of : List Entry → History
history_of entries = grown Start entries

-- How many entries it has: the place of the next one.
abbrev pub size : History → ℕ
size Start = 0
size (h ▷ e) = size h + 1

-- The moment of the last entry, and 0 of nothing.
abbrev pub last_moment : History → ℕ
last_moment Start = 0
last_moment (h ▷ e) = moment_of e

-- An entry may come next: its moment is one, moments never fall, what is no Boot and no Now has the moment of the entry before it,
-- and an event has a value that a cell takes.
pub record MayFollow (h : History) (e : Entry) : Type 0 where
  pub moment : IsMoment (moment_of e)
  pub value : value_of e ≤ MAX_VALUE
  pub later : last_moment h ≤ moment_of e
  pub beside : is_opening e ≡ false → (0 < size h) × (moment_of e ≡ last_moment h)

-- The moment of the last entry; none where there is no entry.
abbrev pub EndsAt : History → Option ℕ → Type 0
EndsAt h None = h ≡ Start
EndsAt h (Some moment) = (0 < size h) × (last_moment h ≡ moment)

-- Each entry was one that may come next.
abbrev pub IsHistory : History → Type 0
IsHistory Start = Unit {0}
IsHistory (h ▷ e) = IsHistory h × MayFollow h e

-- The entries with moments less than this one: since moments never fall, they are a beginning.
abbrev pub before : ℕ → History → History
before moment Start = Start
before moment (h ▷ e) = if nat_lt (moment_of e) moment then h ▷ e else before moment h

-- A tick is over where the last entry lies in a later one.
abbrev pub is_over : History → ℕ → Bool
is_over h tick = nat_lt tick (tick_of (last_moment h))

-- The first tick that a Boot after a history cuts: that of the moment before it, or its own where it is the first entry.
abbrev pub first_cut : History → ℕ → ℕ
first_cut Start moment = tick_of moment
first_cut (h ▷ e) moment = tick_of (moment_of e)

-- Whether the entry after h is a Boot that cuts the tick: it cuts from its first tick to its own, both included.
abbrev pub cuts : History → Entry → ℕ → Bool
cuts h (Boot moment) tick = nat_le (first_cut h moment) tick && nat_le tick (tick_of moment)
cuts h _ tick = false

-- Whether a Boot cuts the tick.
abbrev pub is_cut : History → ℕ → Bool
is_cut Start tick = false
is_cut (h ▷ e) tick = is_cut h tick || cuts h e tick
