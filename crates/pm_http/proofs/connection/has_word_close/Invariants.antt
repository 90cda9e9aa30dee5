use Rattle.std.proofs.Common.{◌≡◌, length}
use Rattle.pm_base.specs.Pieces.{pieces_of}
use Rattle.pm_http.specs.Head.{has_close}
use Rattle.pm_http.proofs.connection.has_word_close.Given as goal

abbrev pub invariant-words : goal.invariant-words
invariant-words l = has_close l.fn.value ≡ has_close l.left

abbrev pub decreases-words : goal.decreases-words
decreases-words l = length (pieces_of 44 l.left)
