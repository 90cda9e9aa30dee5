-- What marks stand for: of the ticks of a granularity period, which are counted for a job or a monitor (this project's own).
use Rattle.std.specs.Prelude.{ℕ, ◌+◌, ◌*◌, ◌<◌, ◌≤◌, ◌≡◌, Bool, false, List, slice_index_or}
use Rattle.pm_history.specs.declared.entry.Side.{Side}
use Rattle.pm_history.specs.History.{History}
use Rattle.pm_history.specs.Terms.{Terms}
use Rattle.pm_history.specs.Standing.{Making}
use Rattle.pm_history.specs.Counted.{is_counted}
use Rattle.pm_close.specs.declared.marks.Marks.{Marks}

-- The mark of the k-th tick.
abbrev pub mark_at : Marks → ℕ → Bool
mark_at marks k = slice_index_or marks.marks k false

-- No tick before this one is marked.
abbrev pub NoneMarkedBefore : ℕ → Marks → Type 0
NoneMarkedBefore first marks = (k : ℕ) → k < marks.count → marks.begin + k < first → mark_at marks k ≡ false

module _ (terms : Side → List ℕ → Terms) where
  -- Each mark says whether its tick is counted.
  abbrev pub AreCounted : History → Making → Marks → Type 0
  AreCounted h w marks = (k : ℕ) → k < marks.count → mark_at marks k ≡ is_counted terms h w (marks.begin + k)

  -- No tick from one to another, which is left out, is counted.
  abbrev pub NoneCounted : History → Making → ℕ → ℕ → Type 0
  NoneCounted h w from tick = (t : ℕ) → from ≤ t → t < tick → is_counted terms h w t ≡ false

  -- Marks stand for the granularity period that holds a tick, up to that tick, which is left out.
  pub record MarksStand (h : History) (w : Making) (granularity tick : ℕ) (marks : Marks) : Type 0 where
    pub periods : ℕ
    pub begins : marks.begin ≡ periods * granularity
    pub reach : marks.begin + marks.count ≡ tick
    pub within : marks.count < granularity
    pub counted : AreCounted h w marks

  -- Marks stand for the whole granularity period that ends with a tick.
  pub record PeriodStands (h : History) (w : Making) (granularity end : ℕ) (marks : Marks) : Type 0 where
    pub periods : ℕ
    pub begins : marks.begin ≡ periods * granularity
    pub ends : marks.begin + granularity ≡ end
    pub whole : marks.count ≡ granularity
    pub counted : AreCounted h w marks

-- One more mark at the end.
pub record IsMarked (old : Marks) (mark : Bool) (new : Marks) : Type 0 where
  pub begin : new.begin ≡ old.begin
  pub count : new.count ≡ old.count + 1
  pub last : mark_at new old.count ≡ mark
  pub others : (k : ℕ) → k < old.count → mark_at new k ≡ mark_at old k
