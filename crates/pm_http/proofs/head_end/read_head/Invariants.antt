use Rattle.std.proofs.Common.{◌≡◌, ◌-◌, ◌<◌, vec_len}
use Rattle.pm_outside.specs.Feed.{left_to, ReadsOn}
use Rattle.pm_http.specs.Piece.{Gathers, IsBegun, IsSeen}
use Rattle.pm_http.proofs.head_end.read_head.Given as goal

abbrev pub invariant-pieces : goal.invariant-pieces
invariant-pieces g l = record {
  few : vec_len l.head < 16384;
  begun : g.S.Source.IsTold → IsBegun l.begun l.head.items;
  gathers : g.S.Source.IsTold → Gathers (left_to l.initial.feed (g.S.Source.left l.initial.source)) l.head.items (left_to l.feed (g.S.Source.left l.source));
  seen : g.S.Source.IsTold → IsSeen l.seen l.head.items;
  reads : ReadsOn g.S.Source.IsTold l.initial.feed l.feed (g.S.Source.left l.initial.source) (g.S.Source.left l.source);
  counted : g.S.Source.faults l.source ≡ g.S.Source.faults l.initial.source;
}

abbrev pub decreases-pieces : goal.decreases-pieces
decreases-pieces g l = 16384 - vec_len l.head
