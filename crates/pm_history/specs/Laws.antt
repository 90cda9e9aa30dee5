-- Laws over histories, whatever bodies ask for.
use Rattle.std.specs.Prelude.{ℕ, ◌*◌, ◌≡◌, ◌≤◌, ◌↔◌, Bool, List, [], ◌∷◌, true}
use Rattle.std.specs.List.{AllByRecursion}
use mathlib.Core.List.{IsPrefix}
use Rattle.pm_base.specs.Moment.{IsMoment}
use Rattle.pm_meas.specs.declared.cell.TheConstants.{MAX_VALUE}
use Rattle.pm_history.specs.declared.entry.Side.{Side}
use Rattle.pm_history.specs.declared.entry.Entry.{Entry}
use Rattle.pm_history.specs.History.{History, ◌▷◌, MayFollow, IsHistory}
use Rattle.pm_history.specs.Terms.{Terms}
use Rattle.pm_history.specs.Value.{values_where}
use Rattle.pm_history.specs.Files.{Report, files_of}
use Rattle.pm_history.specs.Notices.{notices_of}
use Rattle.pm_history.specs.Crossing.{CrossesUp, CrossesDown}
use Rattle.pm_history.specs.Crossed.{crosses_up, crosses_down}

-- Whatever comes next, files are only added after those that are there.
abbrev pub FilesGrow : Type 0
FilesGrow = (terms : Side → List ℕ → Terms) (h : History) (e : Entry) → MayFollow h e → IsPrefix (files_of terms h) (files_of terms (h ▷ e))

-- Whatever comes next, notices are only added after those that are there.
abbrev pub NoticesGrow : Type 0
NoticesGrow = (terms : Side → List ℕ → Terms) (h : History) (e : Entry) → MayFollow h e → IsPrefix (notices_of terms h) (notices_of terms (h ▷ e))

-- Two files are of different ends or of different ids.
abbrev pub AreApart : Report → Report → Type 0
AreApart one other = one.end ≡ other.end → one.job ≡ other.job → ⊥

-- Each file is apart from all later ones.
abbrev pub AreDistinct : List Report → Type 0
AreDistinct [] = Unit {0}
AreDistinct (f ∷ fs) = AllByRecursion (AreApart f) fs × AreDistinct fs

-- The files of a history are distinct by end and id.
abbrev pub FilesDistinct : Type 0
FilesDistinct = (terms : Side → List ℕ → Terms) (h : History) → AreDistinct (files_of terms h)

-- The ends of files are moments.
abbrev pub EndsInRange : Type 0
EndsInRange =
    (terms : Side → List ℕ → Terms) (h : History) → IsHistory h → AllByRecursion (λ (f : Report). IsMoment (60 * f.end)) (files_of terms h)

-- The values of events are ones that a cell takes.
abbrev pub ValuesInRange : Type 0
ValuesInRange =
    (h : History) (object metric : ℕ) (passes : ℕ → Bool)
    → IsHistory h
    → AllByRecursion (λ value. value ≤ MAX_VALUE) (values_where object metric passes h)

-- The tests of crossings hold exactly where the relations do.
abbrev pub CrossingsAgree : Type 0
CrossingsAgree =
    (high low : ℕ) (values : List ℕ) (place : ℕ)
    → ((crosses_up high low values place ≡ true) ↔ CrossesUp high low values place)
    × ((crosses_down high low values place ≡ true) ↔ CrossesDown high low values place)
