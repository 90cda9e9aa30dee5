use Rattle.std.proofs.Common.{◌≡◌, ◌-◌, ◌≤◌, ◌++◌, vec_len, take}
use Rattle.pm_outside.specs.Feed.{left_to, ReadsOn}
use Rattle.pm_http.proofs.body.fill.Given as goal

abbrev pub invariant-bytes : goal.invariant-bytes
invariant-bytes g l = record {
  within : l.at ≤ vec_len l.body;
  room : vec_len l.body ≡ vec_len l.initial.body;
  taken : g.S.Source.IsTold → left_to l.initial.feed (g.S.Source.left l.initial.source) ≡ take l.at l.body.items ++ left_to l.feed (g.S.Source.left l.source);
  reads : ReadsOn g.S.Source.IsTold l.initial.feed l.feed (g.S.Source.left l.initial.source) (g.S.Source.left l.source);
  counted : g.S.Source.faults l.source ≡ g.S.Source.faults l.initial.source;
}

abbrev pub decreases-bytes : goal.decreases-bytes
decreases-bytes g l = vec_len l.body - l.at
