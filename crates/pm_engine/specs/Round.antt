-- The rounds after a turn: the notices that are due are posted to each subscription, from its cursor on (TS 28.532).
use Rattle.std.specs.Prelude.{ℕ, ◌≡◌, ◌++◌, List, length}
use Rattle.pm_outside.specs.Posts.{Post}
use Rattle.pm_inventory.specs.Inventory.{InventoryState}
use Rattle.pm_history.specs.History.{last_moment}
use Rattle.pm_notice.specs.declared.notice.Notice.{Notice}
use Rattle.pm_notice.specs.declared.subscription.Subscription.{Subscription}
use Rattle.pm_notice.specs.Round.{AreRounds, rounds_posts, stops}
use Rattle.pm_notice.specs.StandFor.{StandFor, cursors_of}
use Rattle.pm_notify.specs.Kept.{notices_of}
use Rattle.pm_notify.specs.Notices.{AreNoticesFrom}
use Rattle.pm_state.specs.Stands.{StateStands}
use Rattle.pm_engine.specs.declared.engine.Engine.{Engine}
use Rattle.pm_engine.specs.Bears.{inventory_of, cursors_in, Run}

-- One round for each subscription over all notices of the settled history: these were posted, so many rounds stopped short at a post that
-- failed, and the cursors alone are new.
pub record AreServed (inventory : InventoryState) (run next : Run) (posts : List Post) (short : ℕ) : Type 0 where
  pub all : List Notice
  pub told : AreNoticesFrom inventory 0 (notices_of inventory run.settled) all
  pub olds : List Subscription
  pub news : List Subscription
  pub stand : StandFor olds run.history run.cursors
  pub rounds : AreRounds all (length (notices_of inventory run.settled)) (last_moment run.history) olds news
  pub posts_are : posts ≡ rounds_posts all (last_moment run.history) olds news
  pub short_is : short ≡ stops (length (notices_of inventory run.settled)) news
  pub next_is : next ≡ record { history = run.history; settled = run.settled; cursors = cursors_of news }

-- What an engine knows of a run, whatever its disk.
pub record Knows (engine : Engine) (run : Run) : Type 0 where
  pub stands : StateStands run.history engine.state
  pub served : cursors_in engine ≡ run.cursors
  pub settled : run.settled ≡ run.history

-- The rounds were made by a courier, which has made these posts before and after, if it tells.
pub record Delivers (IsTold : Type 0) (before after : List Post) (old new : Engine) (run : Run) (short : ℕ) : Type 0 where
  pub next : Run
  pub posts : List Post
  pub served : AreServed (inventory_of old) run next posts short
  pub posted : IsTold → after ≡ before ++ posts
  pub knows : Knows new next
