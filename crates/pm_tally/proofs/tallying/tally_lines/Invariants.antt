use Rattle.std.proofs.Common.{◌≡◌, ◌+◌, ◌-◌, ◌≤◌, ◌^◌, length}
use Rattle.pm_outside.specs.Feed.{left_to, KnowsEnd}
use Rattle.pm_tally.proofs.Progress.{Progress}
use Rattle.pm_tally.proofs.tallying.tally_lines.Given as goal

abbrev pub invariant-lines : goal.invariant-lines
invariant-lines g l = record {
  reads : g.S.Source.faults l.input ≡ g.S.Source.faults l.initial.input;
  writes : g.K.Sink.faults l.output ≡ g.K.Sink.faults l.initial.output;
  many : length l.counting.counts.items ≡ length l.slots;
  reader : l.reader.slots.now ≡ l.slots;
  knows_end : g.S.Source.IsTold → KnowsEnd l.feed (g.S.Source.left l.input);
  total : g.S.Source.IsTold → l.feed.given + length (left_to l.feed (g.S.Source.left l.input)) ≡ l.initial.feed.given + length (left_to l.initial.feed (g.S.Source.left l.initial.input));
  place : l.place ≤ l.feed.given + l.first;
  so_far : g.S.Source.IsTold → Progress l.slots l.first (left_to l.initial.feed (g.S.Source.left l.initial.input)) (left_to l.feed (g.S.Source.left l.input)) l.counting l.place g.K.Sink.IsTold (g.K.Sink.written l.initial.output) (g.K.Sink.written l.output);
}

abbrev pub decreases-lines : goal.decreases-lines
decreases-lines g l = 2 ^ 40 - l.feed.given
