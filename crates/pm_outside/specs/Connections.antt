-- What a call does to the connections of a listener (this project's own).
use Rattle.std.specs.Prelude.{◌≡◌, ℕ, Option, Some, List, [], ◌∷◌, ◌++◌}

-- A connection as it stands: the bytes that its input has left, those written to its output, and how often each has failed.
pub record Connection : Type 0 where
  pub left : List ℕ
  pub written : List ℕ
  pub read_faults : ℕ
  pub write_faults : ℕ

-- The port that a listener was bound to last, the connections that are left as they stand before they are given, and those
-- that are done as they stood then, first to last.
pub record DoorsState : Type 0 where
  pub port : Option ℕ
  pub left : List Connection
  pub ended : List Connection

-- A port is bound.
pub record IsBound (number : ℕ) (old new : DoorsState) : Type 0 where
  pub port : new.port ≡ Some number
  pub left : new.left ≡ old.left
  pub ended : new.ended ≡ old.ended

-- No connection is left.
pub record NoneIsLeft (old new : DoorsState) : Type 0 where
  pub none : old.left ≡ []
  pub stays : new ≡ old

-- The first connection that is left is taken.
pub record IsTaken (connection : Connection) (old new : DoorsState) : Type 0 where
  pub left : old.left ≡ connection ∷ new.left
  pub port : new.port ≡ old.port
  pub ended : new.ended ≡ old.ended

-- A connection is done, and is the last one then.
pub record IsEnded (connection : Connection) (old new : DoorsState) : Type 0 where
  pub ended : new.ended ≡ old.ended ++ connection ∷ []
  pub port : new.port ≡ old.port
  pub left : new.left ≡ old.left
