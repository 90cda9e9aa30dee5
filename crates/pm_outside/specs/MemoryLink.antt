-- What a link in memory holds, and which of its calls fail (this project's own).
use Rattle.std.specs.Prelude.{◌≡◌, ◌⊎◌, ℕ, List, [], Contains}
use Rattle.pm_outside.specs.declared.link.Exchange.{Exchange}
use Rattle.pm_outside.specs.declared.mem_link.MemLink.{MemLink}
use Rattle.pm_outside.specs.Exchanges.{LinkState}
use Rattle.pm_outside.specs.Memory.{next_call}

-- The replies that are left, first to last.
abbrev pub link_left : MemLink → List (List ℕ)
link_left l = l.replies.items

-- The exchanges that were made, first to last.
abbrev pub link_made : MemLink → List Exchange
link_made l = l.made.items

-- What it tells as a link.
abbrev pub link_state : MemLink → LinkState
link_state l = record { left = link_left l; made = link_made l }

-- How often it has failed.
abbrev pub link_faults : MemLink → ℕ
link_faults l = l.faults

-- The numbers of the calls that fail, counted from 1.
abbrev pub link_fails : MemLink → List ℕ
link_fails l = l.fails.items

-- How many calls were made.
abbrev pub link_calls : MemLink → ℕ
link_calls l = l.calls

-- An exchange fails as the call of this number: it is one that is to fail, or no reply is left.
abbrev pub ExchangeFailsAt : MemLink → ℕ → Type 0
ExchangeFailsAt l number = Contains (link_fails l) number ⊎ (link_left l ≡ [])

-- The next exchange fails.
abbrev pub IsExchangeToFail : MemLink → Type 0
IsExchangeToFail l = ExchangeFailsAt l (next_call (link_calls l))
