use Rattle.std.proofs.Common.{◌≡◌, map, take}
use Rattle.pm_history.specs.History.{history_of}
use Rattle.pm_items.specs.Items.{items_of}
use Rattle.pm_slow.specs.Items.{item_seen}
use Rattle.pm_slow.proofs.keeping.items.Given as goal

abbrev pub invariant-loop-place : goal.invariant-loop-place
invariant-loop-place l = map item_seen l.items.items ≡ items_of (history_of (take l.place l.history))
