use Rattle.std.proofs.Common.{◌<◌, ◌^◌, ◌+◌, ℕ, List, length, Ok, Err, refl, sym, ◌∙◌, ap, subst, arith}
use Rattle.pm_outside.specs.Feed.{left_to}
use Rattle.pm_outside.specs.NextLine.{GivesNextLine}
use Rattle.pm_outside.specs.declared.feed.FeedError.{FeedError}
use Rattle.pm_outside.specs.declared.lines.NextLine.{NextLine}
use Rattle.pm_events.specs.Event.{events_of}
use Rattle.pm_tally.specs.Taking.{TakesLine, WritesLine}
use Rattle.pm_tally.specs.Finishing.{TakesLast, WritesLast}
use Rattle.pm_tally.specs.Outcome.{ran, IsTallied}
use Rattle.pm_tally.specs.declared.tally_end.TallyEnd.{TallyEnd}
use Rattle.pm_tally.proofs.Progress.{progress-first, progress-next}
use Rattle.pm_tally.proofs.EndLemmas.{end-long, end-limit, end-failed, end-stopped, end-finished, end-last}
use Rattle.pm_tally.proofs.tallying.tally_lines.Goals as goal

pub lines-init : goal.lines-init
lines-init g c = record {
  reads = refl;
  writes = refl;
  many = c.requires.many;
  reader = c.new-reader.ensures;
  knows_end = c.requires.knows_end;
  total = λ _. refl;
  place = omega arith;
  so_far = λ _. progress-first c.args.slots.now c.args.first (left_to c.args.feed.now (g.S.Source.left c.args.input.now)) c.args.counting.now g.K.Sink.IsTold (g.K.Sink.written c.args.output.now) c.requires.none;
}

pub returns-in-Ok-Long-clause-tallied : goal.returns-in-Ok-Long-clause-tallied
returns-in-Ok-Long-clause-tallied g c = λ told.
    let slots = c.args.slots.now in
    let given = c.args.feed.now.given in
    let all = left_to c.args.feed.now (g.S.Source.left c.args.input.now) in
    let left = left_to c.lines.feed (g.S.Source.left c.lines.input) in
    let after = left_to c.next_line.new.feed (g.S.Source.left c.next_line.new.source) in
    let rest = g.S.Source.left c.next_line.new.source in
    let old = g.K.Sink.written c.args.output.now in
    let new = g.K.Sink.written c.lines.output in
    let n = subst (λ (l : NextLine). GivesNextLine c.lines.feed left (Ok l) c.next_line.new.feed after) c.in-Ok-Long.field-0-is (c.in-Ok-Long.ensures.next told) in
    subst (λ (e : TallyEnd). IsTallied slots c.args.first (ran given all rest g.K.Sink.IsTold old new) e) (sym c.refused.ensures)
    (end-long slots c.args.first given all left c.lines.counting c.lines.place g.K.Sink.IsTold old new rest new (c.lines.invariant.so_far told) n.0 n.1 (λ _. refl))

pub returns-in-Ok-None-clause-tallied : goal.returns-in-Ok-None-clause-tallied
returns-in-Ok-None-clause-tallied g c = λ told.
    let slots = c.args.slots.now in
    let given = c.args.feed.now.given in
    let all = left_to c.args.feed.now (g.S.Source.left c.args.input.now) in
    let left = left_to c.lines.feed (g.S.Source.left c.lines.input) in
    let after = left_to c.next_line.new.feed (g.S.Source.left c.next_line.new.source) in
    let rest = g.S.Source.left c.next_line.new.source in
    let old = g.K.Sink.written c.args.output.now in
    let new = g.K.Sink.written c.lines.output in
    let n = subst (λ (l : NextLine). GivesNextLine c.lines.feed left (Ok l) c.next_line.new.feed after) c.in-Ok-None.field-0-is (c.in-Ok-None.ensures.next told) in
    let progress = c.lines.invariant.so_far told in
    let few : given + length all < 2 ^ 40 = omega (arith, c.lines.invariant.total told, ap length n.0, n.2) in
    end-finished slots c.args.first given all left c.lines.counting c.lines.place g.K.Sink.IsTold old new c.next_line.new.feed.buffered rest (g.K.Sink.written c.finish.new.output) c.finish.result progress n.0 n.1 c.next_line.ensures.reads.ahead few c.finish.ensures.known
    (c.finish.ensures.some (events_of slots progress.good) progress.counts)
    (λ tells. c.finish.ensures.finished tells (events_of slots progress.good) old progress.counts (progress.written tells))

pub returns-in-Ok-Last-clause-tallied : goal.returns-in-Ok-Last-clause-tallied
returns-in-Ok-Last-clause-tallied g c = λ told.
    let slots = c.args.slots.now in
    let given = c.args.feed.now.given in
    let all = left_to c.args.feed.now (g.S.Source.left c.args.input.now) in
    let left = left_to c.lines.feed (g.S.Source.left c.lines.input) in
    let after = left_to c.next_line.new.feed (g.S.Source.left c.next_line.new.source) in
    let rest = g.S.Source.left c.next_line.new.source in
    let old = g.K.Sink.written c.args.output.now in
    let new = g.K.Sink.written c.lines.output in
    let now = g.K.Sink.written c.finish_line.new.output in
    let line = c.next_line.new.feed.line in
    let n = subst (λ (l : NextLine). GivesNextLine c.lines.feed left (Ok l) c.next_line.new.feed after) c.in-Ok-Last.field-0-is (c.in-Ok-Last.ensures.next told) in
    let progress = c.lines.invariant.so_far told in
    let events = events_of slots progress.good in
    let few : given + length all < 2 ^ 40 = omega (arith, c.lines.invariant.total told, n.before_limit) in
    let taken = subst (λ (l : List ℕ). TakesLast slots events l c.lines.place c.finish_line.result) c.bytes.ensures (c.finish_line.ensures.taken events progress.counts) in
    end-last slots c.args.first given c.lines.feed.given all left c.lines.counting c.lines.place g.K.Sink.IsTold old new line c.next_line.new.feed.buffered rest now c.finish_line.result progress n c.next_line.ensures.reads.ahead few taken
    (λ tells. subst (λ (l : List ℕ). WritesLast slots events l old now c.finish_line.result) c.bytes.ensures (c.finish_line.ensures.finished tells events old progress.counts (progress.written tells)))

pub returns-in-Err-Limit-clause-tallied : goal.returns-in-Err-Limit-clause-tallied
returns-in-Err-Limit-clause-tallied g c = λ told.
    let slots = c.args.slots.now in
    let all = left_to c.args.feed.now (g.S.Source.left c.args.input.now) in
    let left = left_to c.lines.feed (g.S.Source.left c.lines.input) in
    let after = left_to c.next_line.new.feed (g.S.Source.left c.next_line.new.source) in
    let rest = g.S.Source.left c.next_line.new.source in
    let old = g.K.Sink.written c.args.output.now in
    let new = g.K.Sink.written c.lines.output in
    let n = subst (λ (e : FeedError). GivesNextLine c.lines.feed left (Err e) c.next_line.new.feed after) c.in-Err-Limit.field-0-is (c.in-Err-Limit.ensures.next told) in
    end-limit slots c.args.first c.args.feed.now.given c.lines.feed.given all left c.lines.counting c.lines.place g.K.Sink.IsTold old new rest new (c.lines.invariant.so_far told) (c.lines.invariant.total told) n.0 (λ _. refl)

pub returns-in-Err-Failed-clause-tallied : goal.returns-in-Err-Failed-clause-tallied
returns-in-Err-Failed-clause-tallied g c = λ told.
    let slots = c.args.slots.now in
    let all = left_to c.args.feed.now (g.S.Source.left c.args.input.now) in
    let left = left_to c.lines.feed (g.S.Source.left c.lines.input) in
    let after = left_to c.next_line.new.feed (g.S.Source.left c.next_line.new.source) in
    let rest = g.S.Source.left c.next_line.new.source in
    let old = g.K.Sink.written c.args.output.now in
    let new = g.K.Sink.written c.lines.output in
    let n = subst (λ (e : FeedError). GivesNextLine c.lines.feed left (Err e) c.next_line.new.feed after) c.in-Err-Failed.field-0-is (c.in-Err-Failed.ensures.next told) in
    end-failed slots c.args.first c.args.feed.now.given all left c.lines.counting c.lines.place g.K.Sink.IsTold old new c.next_line.new.feed.buffered rest new (c.lines.invariant.so_far told) (sym n.0) n.1 (λ _. refl)

pub lines-preserved : goal.lines-preserved
lines-preserved g c = record {
  reads = c.in-Ok-Line.ensures.counted ∙ c.lines.invariant.reads;
  writes = c.in-Ok.ensures.counted ∙ c.lines.invariant.writes;
  many = c.take_line.ensures.many;
  reader = c.take_line.ensures.reader;
  knows_end = c.next_line.ensures.reads.knows_end;
  total = λ told. c.next_line.ensures.reads.given told ∙ c.lines.invariant.total told;
  place = omega (arith, c.lines.invariant.place, c.next_line.ensures.takes (c.in-Ok-Line.is ∙ ap (λ (l : NextLine). Ok l) c.in-Ok-Line.field-0-is));
  so_far = λ told.
      let slots = c.args.slots.now in
      let all = left_to c.args.feed.now (g.S.Source.left c.args.input.now) in
      let left = left_to c.lines.feed (g.S.Source.left c.lines.input) in
      let after = left_to c.next_line.new.feed (g.S.Source.left c.next_line.new.source) in
      let old = g.K.Sink.written c.args.output.now in
      let new = g.K.Sink.written c.lines.output in
      let now = g.K.Sink.written c.take_line.new.output in
      let line = c.next_line.new.feed.line in
      let n = subst (λ (l : NextLine). GivesNextLine c.lines.feed left (Ok l) c.next_line.new.feed after) c.in-Ok-Line.field-0-is (c.in-Ok-Line.ensures.next told) in
      let progress = c.lines.invariant.so_far told in
      let events = events_of slots progress.good in
      let taken = subst (λ (l : List ℕ). TakesLine slots events l (Ok tt) c.take_line.new.counting) c.bytes-in-lines.ensures (c.in-Ok.ensures.taken events progress.counts) in
      let written = λ (tells : g.K.Sink.IsTold). subst (λ (l : List ℕ). WritesLine slots events l (Ok tt) old now) c.bytes-in-lines.ensures (c.in-Ok.ensures.written tells events old progress.counts (progress.written tells)) in
      progress-next slots c.args.first all left after line c.lines.counting c.take_line.new.counting c.lines.place g.K.Sink.IsTold old new now progress n.0 n.1 taken.0 taken.1 written;
}

pub returns-in-Err-clause-tallied : goal.returns-in-Err-clause-tallied
returns-in-Err-clause-tallied g c = λ told.
    let slots = c.args.slots.now in
    let given = c.args.feed.now.given in
    let all = left_to c.args.feed.now (g.S.Source.left c.args.input.now) in
    let left = left_to c.lines.feed (g.S.Source.left c.lines.input) in
    let after = left_to c.next_line.new.feed (g.S.Source.left c.next_line.new.source) in
    let rest = g.S.Source.left c.next_line.new.source in
    let old = g.K.Sink.written c.args.output.now in
    let new = g.K.Sink.written c.lines.output in
    let now = g.K.Sink.written c.take_line.new.output in
    let line = c.next_line.new.feed.line in
    let n = subst (λ (l : NextLine). GivesNextLine c.lines.feed left (Ok l) c.next_line.new.feed after) c.in-Ok-Line.field-0-is (c.in-Ok-Line.ensures.next told) in
    let progress = c.lines.invariant.so_far told in
    let events = events_of slots progress.good in
    let taken = subst (λ (l : List ℕ). TakesLine slots events l (Err c.in-Err.stop) c.take_line.new.counting) c.bytes-in-lines.ensures (c.in-Err.ensures.taken events progress.counts) in
    let written = λ (tells : g.K.Sink.IsTold). subst (λ (l : List ℕ). WritesLine slots events l (Err c.in-Err.stop) old now) c.bytes-in-lines.ensures (c.in-Err.ensures.written tells events old progress.counts (progress.written tells)) in
    subst (λ (e : TallyEnd). IsTallied slots c.args.first (ran given all rest g.K.Sink.IsTold old now) e) (sym c.end.ensures)
    (end-stopped slots c.args.first given all left c.lines.counting c.take_line.new.counting c.lines.place g.K.Sink.IsTold old new line after c.next_line.new.feed.buffered rest now c.in-Err.stop progress n.0 n.1 refl c.next_line.ensures.reads.ahead taken written)
