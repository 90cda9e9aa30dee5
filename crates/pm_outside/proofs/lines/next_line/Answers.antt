use Rattle.std.proofs.Common.{subst}
use Rattle.pm_outside.specs.Feed.{left_to, IsNextLine}
use Rattle.pm_outside.specs.declared.line.Line.{Line}
use Rattle.pm_outside.proofs.lines.next_line.Goals as goal

pub returns-in-Long-clause-next : goal.returns-in-Long-clause-next
returns-in-Long-clause-next g c = λ told.
    let before = left_to c.args.feed.now (g.S.Source.left c.args.source.now) in
    let after = left_to c.line.new.self (g.S.Source.left c.line.new.source) in
    let told_line = c.in_ok-length.ensures.line told in
    let long = subst (λ (l : Line). IsNextLine before l c.line.new.self.line after) c.in-Long.is told_line in
    (long.0, long.1, long.3)
