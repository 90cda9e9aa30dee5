-- Rounds over the notices that are handed in, and over all notices.
use Rattle.std.specs.Prelude.{ℕ, ◌≡◌, ◌↔◌, true, List, filter, nat_le}
use Rattle.std.specs.List.{list_all}
use Rattle.pm_notice.specs.declared.subscription.Subscription.{Subscription}
use Rattle.pm_notice.specs.declared.notice.Notice.{Notice}
use Rattle.pm_notice.specs.Round.{is_due, AreRounds, rounds_posts}

-- These have each notice of the others that is not expired and has at least this number, in order.
abbrev pub HaveDue : List Notice → List Notice → ℕ → ℕ → Type 0
HaveDue some all moment least = filter (is_due moment least) some ≡ filter (is_due moment least) all

-- No cursor is below this number.
abbrev pub are_from : ℕ → List Subscription → Type 0
are_from least subs = list_all (λ (s : Subscription). nat_le least s.cursor) subs ≡ true

-- The rounds over notices that have all that is due are the rounds over all notices, and their posts are the same.
pub record AreAllRounds : Type 0 where
  pub rounds : (some all : List Notice) (total moment least : ℕ) (old new : List Subscription) → HaveDue some all moment least → are_from least old
      → AreRounds some total moment old new ↔ AreRounds all total moment old new
  pub posts : (some all : List Notice) (moment least : ℕ) (old new : List Subscription) → HaveDue some all moment least → are_from least old
      → rounds_posts some moment old new ≡ rounds_posts all moment old new
