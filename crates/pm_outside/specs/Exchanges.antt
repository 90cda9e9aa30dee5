-- What a call does to the replies that a link has left and to the exchanges that it made (this project's own).
use Rattle.std.specs.Prelude.{◌≡◌, Bool, true, false, ℕ, List, [], ◌∷◌, ◌++◌, take, Result, Ok, Err, MatchResult}
use Rattle.pm_outside.specs.declared.link.Exchange.{Exchange}
use Rattle.pm_outside.specs.declared.link.LinkError.{LinkError}
use Rattle.pm_outside.specs.declared.link.LinkError.TheVariants.{Failed, Memory}

-- The replies that are left and the exchanges that were made, first to last.
pub record LinkState : Type 0 where
  pub left : List (List ℕ)
  pub made : List Exchange

-- An exchange is made and is the last one then. It gives the first reply that is left, cut after so many bytes.
pub record IsExchange (exchange : Exchange) (limit : ℕ) (reply : List ℕ) (old new : LinkState) : Type 0 where
  pub made : new.made ≡ old.made ++ exchange ∷ []
  pub taken : (whole : List ℕ) × (old.left ≡ whole ∷ new.left) × (reply ≡ take limit whole)

-- An exchange, or an error, at which none is made and no reply is taken.
abbrev pub Exchanges : LinkState → LinkState → Result (List ℕ) LinkError → Exchange → ℕ → Type 0
Exchanges old new result exchange limit =
    MatchResult result (λ reply. IsExchange exchange limit reply old new) (λ _. new ≡ old)

-- Whether the link failed. Want of memory is no failure of it.
abbrev pub has_link_failed : Result (List ℕ) LinkError → Bool
has_link_failed (Ok reply) = false
has_link_failed (Err Failed) = true
has_link_failed (Err Memory) = false
