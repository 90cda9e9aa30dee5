use Rattle.std.proofs.Common.{◌≡◌, ◌≤◌, ◌+◌, ◌++◌, List, take, length, map}
use Rattle.pm_kpi.specs.Key.{KeyContent}
use Rattle.pm_kpi.specs.Rows.{ShareContent}
use Rattle.pm_kpi.specs.Asked.{share_content}
use Rattle.pm_kpi.specs.Maps.{has_key, Holds}
use Rattle.pm_kpi.specs.declared.sums.TheConstants.{MOST_SHARES}
use Rattle.pm_kpi.proofs.sums.add_shares.Given as goal

abbrev pub invariant-loop-share : goal.invariant-loop-share
invariant-loop-share l = record {
  stays : (q : KeyContent) → has_key l.sums q ≡ has_key l.initial.sums q;
  added : (base : List ShareContent) → (length base + length l.shares ≤ MOST_SHARES) → Holds l.initial.sums base
      → Holds l.sums (base ++ map share_content (take l.share-index l.shares));
}
