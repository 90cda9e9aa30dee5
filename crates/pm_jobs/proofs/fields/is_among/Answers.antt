use Rattle.std.proofs.Common.{sym, ◌∙◌}
use Rattle.pm_jobs.proofs.MemberLemmas.{among_here, among_later}
use Rattle.pm_jobs.proofs.fields.is_among.Goals as goal

pub returns-then-eq : goal.returns-then-eq
returns-then-eq c =
    sym (c.loop-key.invariant ∙ among_here c.args.name.now c.args.known.now c.loop-key.key-index _ c.loop-key-test.true c.if-eq.ensures)

pub loop-key-preserved : goal.loop-key-preserved
loop-key-preserved c =
    c.loop-key.invariant ∙ among_later c.args.name.now c.args.known.now c.loop-key.key-index _ c.loop-key-test.true c.if-eq.ensures
