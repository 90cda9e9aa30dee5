-- The round of a subscription: which notices are posted, and where its cursor stands after it (this project's own).
use Rattle.std.specs.Prelude.{ℕ, zero, suc, ◌≡◌, ◌<◌, ◌≤◌, ◌+◌, ◌++◌, ◌&&◌, Bool, true, not, List, [], ◌∷◌, map, filter, count_by, nat_le, nat_lt, All, AllPairs, Any}
use Rattle.std.specs.List.{list_all}
use Rattle.pm_outside.specs.Causes.{faults_after}
use Rattle.pm_outside.specs.Posts.{Post}
use Rattle.pm_notice.specs.declared.subscription.Subscription.{Subscription}
use Rattle.pm_notice.specs.declared.notice.Notice.{Notice}

-- A notice expires a day after the end of its period.
abbrev pub is_expired : ℕ → Notice → Bool
is_expired moment n = nat_le (n.end + 86400) moment

-- A notice is due from a cursor on, unless it is expired.
abbrev pub is_due : ℕ → ℕ → Notice → Bool
is_due moment cursor n = nat_le cursor n.number && not (is_expired moment n)

-- The post of a notice to a subscription.
abbrev pub post_to : Subscription → Notice → Post
post_to s n = record { port = s.port; path = s.path; body = n.body }

-- The posts of a round that brings the cursor of s to this end: each notice that is due before it, in order.
abbrev pub round_posts : List Notice → ℕ → Subscription → ℕ → List Post
round_posts notices moment s end =
    map (post_to s) (filter (λ n. is_due moment s.cursor n && nat_lt n.number end) notices)

-- The round of s may bring its cursor to this end: to the number of notices, or to one that is due, whose post failed.
pub record EndsRound (notices : List Notice) (total moment : ℕ) (s : Subscription) (end : ℕ) : Type 0 where
  pub forward : s.cursor ≤ end
  pub within : end ≤ total
  pub stopped : end < total → Any (λ n. (n.number ≡ end) × (is_due moment s.cursor n ≡ true)) notices

-- A round changes the cursor alone.
pub record IsRound (notices : List Notice) (total moment : ℕ) (old new : Subscription) : Type 0 where
  pub id : new.id ≡ old.id
  pub port : new.port ≡ old.port
  pub path : new.path ≡ old.path
  pub ends : EndsRound notices total moment old new.cursor

-- One round for each subscription, whatever came of the others.
abbrev pub AreRounds : List Notice → ℕ → ℕ → List Subscription → List Subscription → Type 0
AreRounds notices total moment [] [] = Unit {0}
AreRounds notices total moment (o ∷ os) (n ∷ ns) = IsRound notices total moment o n × AreRounds notices total moment os ns
AreRounds notices total moment _ _ = ⊥

-- The posts of these rounds: all of the first subscription, then those of the next.
abbrev pub rounds_posts : List Notice → ℕ → List Subscription → List Subscription → List Post
rounds_posts notices moment (o ∷ os) (n ∷ ns) = round_posts notices moment o n.cursor ++ rounds_posts notices moment os ns
rounds_posts notices moment _ _ = []

-- Whether the round that left this subscription stopped short.
abbrev pub is_short : ℕ → Subscription → Bool
is_short total s = nat_lt s.cursor total

-- How many rounds stopped short.
abbrev pub stops : ℕ → List Subscription → ℕ
stops total news = count_by (is_short total) news

-- The count of faults after so many failed posts.
abbrev pub faults_after_stops : ℕ → ℕ → ℕ
faults_after_stops zero faults = faults
faults_after_stops (suc n) faults = faults_after true (faults_after_stops n faults)

-- Whether no cursor is past the number of notices.
abbrev pub are_within : ℕ → List Subscription → Bool
are_within total subs = list_all (λ s. nat_le s.cursor total) subs

-- Notices for rounds: their numbers rise and are below the number of notices, and no cursor is past it.
pub record IsServable (subs : List Subscription) (notices : List Notice) (total : ℕ) : Type 0 where
  pub rising : AllPairs (λ (m n : Notice). m.number < n.number) notices
  pub numbered : All (λ (n : Notice). n.number < total) notices
  pub cursors : are_within total subs ≡ true
