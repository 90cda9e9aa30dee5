-- Which ticks are counted for a job or a monitor (this project's own).
use Rattle.std.specs.Prelude.{ℕ, ◌+◌, ◌*◌, Bool, false, ◌&&◌, ◌||◌, ◌==◌, not, List}
use Rattle.std.specs.Option.{is_some}
use Rattle.pm_base.specs.Moment.{tick_of}
use Rattle.pm_history.specs.declared.entry.Side.{Side}
use Rattle.pm_history.specs.declared.entry.Entry.{Entry}
use Rattle.pm_history.specs.Entry.{moment_of, change_of}
use Rattle.pm_history.specs.History.{History, Start, ◌▷◌, before, is_over, is_cut}
use Rattle.pm_history.specs.Terms.{Terms}
use Rattle.pm_history.specs.Ticks.{at_some, at_each}
use Rattle.pm_history.specs.Standing.{Making, stands, runs, standing_after}

module _ (terms : Side → List ℕ → Terms) where
  -- Whether the entry after h makes, changes or deletes what was made here.
  abbrev pub is_on : Making → History → Entry → Bool
  is_on w h e =
      is_some (change_of w.side w.id e) && (stands w.place (standing_after terms w.side h w.id) || stands w.place (standing_after terms w.side (h ▷ e) w.id))

  -- Whether an entry on it has its moment in the tick.
  abbrev pub is_touched : History → Making → ℕ → Bool
  is_touched Start w tick = false
  is_touched (h ▷ e) w tick = is_touched h w tick || (tick_of (moment_of e) == tick && is_on w h e)

  -- Whether it stood and was UNLOCKED at the tick's first moment, by the entries with lesser moments.
  abbrev pub ran : History → Making → ℕ → Bool
  ran h w tick = runs w.place (standing_after terms w.side (before (60 * tick) h) w.id)

  -- A tick is counted where it is over, no Boot cuts it, the job or monitor ran at its first moment, and no entry on it is in the tick.
  abbrev pub is_counted : History → Making → ℕ → Bool
  is_counted h w tick = is_over h tick && not (is_cut h tick) && ran h w tick && not (is_touched h w tick)

  -- Whether some, or each, of n ticks from the first on is counted.
  abbrev pub some_counted : History → Making → ℕ → ℕ → Bool
  some_counted h w first n = at_some n (λ k. is_counted h w (first + k))

  abbrev pub all_counted : History → Making → ℕ → ℕ → Bool
  all_counted h w first n = at_each n (λ k. is_counted h w (first + k))
