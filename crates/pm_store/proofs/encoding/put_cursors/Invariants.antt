use Rattle.std.proofs.Common.{◌≡◌, ◌++◌, take}
use Rattle.std.specs.List.{flat_map}
use Rattle.std.specs.Int.{w64, to_be_bytes}
use Rattle.pm_store.proofs.encoding.put_cursors.Given as goal

abbrev pub invariant-loop-cursor : goal.invariant-loop-cursor
invariant-loop-cursor l = l.out.items ≡ l.fn.out.items ++ flat_map (to_be_bytes w64) (take l.cursor-index l.cursors)
