use Rattle.std.proofs.Common.{◌≡◌, ◌<◌, ℕ, true}
use Rattle.std.specs.Prelude.{slice_index_or}
use Rattle.pm_kpi.specs.Key.{key_content}
use Rattle.pm_kpi.specs.Maps.{has_key, HasSame}
use Rattle.pm_kpi.specs.declared.share.Share.{Share}
use Rattle.pm_kpi.proofs.sums.make_room.Given as goal

abbrev pub invariant-loop-share : goal.invariant-loop-share
invariant-loop-share l = record {
  same : HasSame l.initial.sums l.sums;
  room : (k : ℕ) (d : Share) → k < l.share-index → has_key l.sums (key_content (slice_index_or l.shares k d).key) ≡ true;
}
