-- Which job or monitor stands under an id. `terms` says what the body of a job or a monitor asks for.
use Rattle.std.specs.Prelude.{ℕ, Bool, true, false, ◌&&◌, ◌==◌, not, List, [], ◌∷◌, filter, Option, Some, None}
use Rattle.std.specs.Option.{option_map}
use Rattle.std.specs.Str.{bytes_eq}
use Rattle.std.specs.Ordering.{nat_cmp, match_ordering}
use Rattle.std.specs.Cmp.Lexicographic.{slice_cmp}
use Rattle.pm_history.specs.declared.entry.Side.{Side}
use Rattle.pm_history.specs.declared.entry.Side.TheVariants.{Job, Monitor}
use Rattle.pm_history.specs.declared.entry.Entry.{Entry}
use Rattle.pm_history.specs.declared.entry.Entry.TheVariants.{JobMade, JobDeleted, MonitorMade, MonitorDeleted}
use Rattle.pm_history.specs.Entry.{moment_of, Change, Made, Moved, Deleted, change_of}
use Rattle.pm_history.specs.History.{History, Start, ◌▷◌, size}
use Rattle.pm_history.specs.Terms.{Terms}

-- A job or a monitor is its making: its side, its id, and the place of the entry that made it, from 0. One that is deleted and
-- made again is another.
pub record Making : Type 0 where
  pub side : Side
  pub id : List ℕ
  pub place : ℕ

-- What stands: the place of its making, its body, whether it is UNLOCKED, the moment of the last entry on it, and the moment of its
-- making or, where it was set to UNLOCKED since, of the last time that it was.
pub record Standing : Type 0 where
  pub place : ℕ
  pub body : List ℕ
  pub unlocked : Bool
  pub changed : ℕ
  pub armed : ℕ

-- What stands, as a making.
abbrev pub making_of : Side → List ℕ → Standing → Making
making_of side id s = record { side = side; id = id; place = s.place }

-- What stands, once it is set to UNLOCKED or to LOCKED at a moment.
abbrev pub moved : ℕ → Bool → Standing → Standing
moved moment true s = record s { unlocked = true; changed = moment; armed = moment }
moved moment false s = record s { unlocked = false; changed = moment }

-- Whether the making of this place stands.
abbrev pub stands : ℕ → Option Standing → Bool
stands place None = false
stands place (Some s) = s.place == place

-- Whether it stands and is UNLOCKED.
abbrev pub runs : ℕ → Option Standing → Bool
runs place None = false
runs place (Some s) = s.place == place && s.unlocked

-- Ids in byte order, with one more.
abbrev pub with_id : List ℕ → List (List ℕ) → List (List ℕ)
with_id id [] = id ∷ []
with_id id (i ∷ is) = match_ordering (slice_cmp nat_cmp id i) (id ∷ (i ∷ is)) (i ∷ is) (i ∷ with_id id is)

-- Ids without one.
abbrev pub without_id : List ℕ → List (List ℕ) → List (List ℕ)
without_id id ids = filter (λ i. not (bytes_eq i id)) ids

-- The ids of a side, after an entry.
abbrev pub ids_next : Side → List (List ℕ) → Entry → List (List ℕ)
ids_next Job ids (JobMade moment id body) = with_id id ids
ids_next Job ids (JobDeleted moment id) = without_id id ids
ids_next Monitor ids (MonitorMade moment id body) = with_id id ids
ids_next Monitor ids (MonitorDeleted moment id) = without_id id ids
ids_next _ ids _ = ids

-- The ids under which jobs, or monitors, stand, in byte order.
abbrev pub ids_after : Side → History → List (List ℕ)
ids_after side Start = []
ids_after side (h ▷ e) = ids_next side (ids_after side h) e

module _ (terms : Side → List ℕ → Terms) where
  -- What stands under an id after a change at this place and moment, where this stood before it.
  abbrev pub changed_by : Side → ℕ → ℕ → Option Standing → Change → Option Standing
  changed_by side place moment old (Made body) =
      Some (record { place = place; body = body; unlocked = (terms side body).unlocked; changed = moment; armed = moment })
  changed_by side place moment old (Moved unlocked) = option_map (moved moment unlocked) old
  changed_by side place moment old Deleted = None

  -- The same, where there is a change at all.
  abbrev pub after_change : Side → ℕ → ℕ → Option Standing → Option Change → Option Standing
  after_change side place moment old None = old
  after_change side place moment old (Some change) = changed_by side place moment old change

  -- The same after an entry.
  abbrev pub standing_next : Side → List ℕ → ℕ → Option Standing → Entry → Option Standing
  standing_next side id place old e = after_change side place (moment_of e) old (change_of side id e)

  -- What stands under an id of a side.
  abbrev pub standing_after : Side → History → List ℕ → Option Standing
  standing_after side Start id = None
  standing_after side (h ▷ e) id = standing_next side id (size h) (standing_after side h id) e
