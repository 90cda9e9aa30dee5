use Rattle.std.proofs.Common.{◌∙◌, refl, arith}
use Rattle.pm_http.proofs.PieceLemmas.{filled-more}
use Rattle.pm_http.proofs.ReadsLemmas.{reads_nothing, reads_then}
use Rattle.pm_http.proofs.body.fill.Goals as goal

pub bytes-init : goal.bytes-init
bytes-init g c = record {
  within = omega arith;
  room = refl;
  taken = λ told. refl;
  reads = reads_nothing g.S.Source.IsTold c.args.feed.now (g.S.Source.left c.args.source.now) c.requires.within c.requires.ahead c.requires.knows_end;
  counted = refl;
}

pub bytes-preserved : goal.bytes-preserved
bytes-preserved g c = record {
  within = omega (arith, c.in-Ok.ensures.bound, c.in-Ok.ensures.room);
  room = c.in-Ok.ensures.room ∙ c.bytes.invariant.room;
  taken = λ told. filled-more _ _ _ _ _ c.bytes.at c.in-Ok.count (c.bytes.invariant.taken told) (c.in-Ok.ensures.told told).0 c.in-Ok.ensures.front;
  reads = reads_then g.S.Source.IsTold _ _ _ _ _ _ c.bytes.invariant.reads c.in-Ok.ensures.reads;
  counted = c.in-Ok.ensures.counted ∙ c.bytes.invariant.counted;
}
