-- From when on something can follow from a history.
use Rattle.std.specs.Prelude.{ℕ, ◌≤◌}
use Rattle.pm_history.specs.Entry.{moment_of}
use Rattle.pm_history.specs.History.{History, Start, ◌▷◌}

-- Each entry has at least this moment.
abbrev pub IsFrom : ℕ → History → Type 0
IsFrom moment Start = Unit {0}
IsFrom moment (h ▷ e) = IsFrom moment h × (moment ≤ moment_of e)
