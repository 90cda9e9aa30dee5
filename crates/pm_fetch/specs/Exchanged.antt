-- What an exchange gives a collector (this project's own).
use Rattle.std.specs.Prelude.{◌≡◌, ◌⊎◌, ℕ, List, Result, Ok, Err}
use Rattle.pm_outside.specs.Exchanges.{LinkState, IsExchange}
use Rattle.pm_fetch.specs.declared.fetch_end.FetchEnd.{FetchEnd}
use Rattle.pm_fetch.specs.declared.fetch_end.FetchEnd.TheVariants.{LinkFault, Memory}
use Rattle.pm_fetch.specs.declared.reply.Said.{Said}
use Rattle.pm_fetch.specs.declared.reply.TheConstants.{MOST_REPLY}
use Rattle.pm_fetch.specs.Replies.{Says}

-- What an exchange over the link gives: what its reply says; or no more than that it was made, where memory is out; or it
-- wasn't made.
abbrev pub Replies : ℕ → List ℕ → LinkState → LinkState → Result Said FetchEnd → Type 0
Replies port request link link' (Ok said) =
    (reply : List ℕ) × IsExchange (record { port = port; request = request }) MOST_REPLY reply link link' × Says reply said
Replies port request link link' (Err Memory) =
    (link' ≡ link) ⊎ ((reply : List ℕ) × IsExchange (record { port = port; request = request }) MOST_REPLY reply link link')
Replies port request link link' (Err end) = (link' ≡ link) × (end ≡ LinkFault)
