-- Reads through a feed, one after the other.
use Rattle.std.proofs.Common.{◌≤◌, ℕ, List, length, refl, ◌∙◌}
use Rattle.pm_outside.specs.Feed.{FeedState, KnowsEnd, MOST_AHEAD, ReadsOn}
use Rattle.pm_outside.specs.declared.feed.TheConstants.{MOST_READ}

-- Nothing is read.
pub reads_nothing : (IsTold : Type 0) (feed : FeedState) (left : List ℕ) → feed.given ≤ MOST_READ → length feed.buffered ≤ MOST_AHEAD → (IsTold → KnowsEnd feed left)
    → ReadsOn IsTold feed feed left left
reads_nothing IsTold feed left within ahead knows_end = record { given = λ told. refl; knows_end = knows_end; most = within; ahead = ahead }

-- A read follows another.
pub reads_then : (IsTold : Type 0) (old feed new : FeedState) (left rest end : List ℕ) → ReadsOn IsTold old feed left rest
    → ReadsOn IsTold feed new rest end → ReadsOn IsTold old new left end
reads_then IsTold old feed new left rest end first second = record {
  given = λ told. second.given told ∙ first.given told;
  knows_end = second.knows_end;
  most = second.most;
  ahead = second.ahead;
}
