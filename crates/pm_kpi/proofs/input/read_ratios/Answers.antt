use Rattle.std.proofs.Common.{◌≡◌, List, ℕ, Err, inl, ◌∙◌, subst}
use Rattle.pm_outside.specs.Feed.{left_to, IsNextLine}
use Rattle.pm_outside.specs.declared.line.Line.{Line}
use Rattle.pm_kpi.specs.Ratios.{ratios_of}
use Rattle.pm_kpi.specs.Input.{AddsLine}
use Rattle.pm_kpi.specs.LineEnds.{TakesLine}
use Rattle.pm_kpi.proofs.InputLemmas.{read_long, read_next, read_stopped}
use Rattle.pm_kpi.proofs.input.read_ratios.Goals as goal

pub returns-in-Ok-Long-clause-read : goal.returns-in-Ok-Long-clause-read
returns-in-Ok-Long-clause-read g c = λ told.
    let before = left_to c.loop-place.feed (g.S.Source.left c.loop-place.input) in
    let long = subst (λ (l : Line). IsNextLine before l c.line.new.self.line (left_to c.line.new.self (g.S.Source.left c.line.new.source))) c.in-Ok-Long.field-0-is (c.in-Ok-Long.ensures.line told) in
    rw c.bad.ensures (inl (read_long _ before _ c.loop-place.place (c.loop-place.invariant.so_far told) long.0 long.1))

pub returns-in-Err-clause-read : goal.returns-in-Err-clause-read
returns-in-Err-clause-read g c = λ told.
    let before = left_to c.loop-place.feed (g.S.Source.left c.loop-place.input) in
    let after = left_to c.line.new.self (g.S.Source.left c.line.new.source) in
    let line = c.line.new.self.line in
    let next = subst (λ (l : Line). IsNextLine before l line after) c.in-Ok-Whole.field-0-is (c.in-Ok-Whole.ensures.line told) in
    read_stopped _ before after line (ratios_of c.loop-place.ratios) _ c.loop-place.place c.in-Err.end (c.loop-place.invariant.so_far told) next.0
    (subst (λ (l : List ℕ). TakesLine (ratios_of c.loop-place.ratios) l c.loop-place.place (Err c.in-Err.end) (ratios_of c.take_line.new.ratios)) c.bytes.ensures c.in-Err.ensures.takes)

pub loop-place-preserved : goal.loop-place-preserved
loop-place-preserved g c = record {
  knows_end = c.line.ensures.reads.knows_end;
  so_far = λ told.
      let before = left_to c.loop-place.feed (g.S.Source.left c.loop-place.input) in
      let after = left_to c.line.new.self (g.S.Source.left c.line.new.source) in
      let line = c.line.new.self.line in
      let next = subst (λ (l : Line). IsNextLine before l line after) c.in-Ok-Whole.field-0-is (c.in-Ok-Whole.ensures.line told) in
      read_next _ before after line (ratios_of c.loop-place.ratios) (ratios_of c.take_line.new.ratios) c.loop-place.place (c.loop-place.invariant.so_far told) next.0
      (subst (λ (l : List ℕ). AddsLine (ratios_of c.loop-place.ratios) l (ratios_of c.take_line.new.ratios)) c.bytes.ensures c.in-Ok-take_line.ensures.takes);
  faults = c.in-Ok-Whole.ensures.counted ∙ c.loop-place.invariant.faults;
}
