use Rattle.pm_batch.proofs.ReadingLemmas.{has_read-none, has_read-more, has_read-all, has_read-refused}
use Rattle.pm_batch.proofs.batch.read_hits.Goals as goal

pub loop-line-init : goal.loop-line-init
loop-line-init c = has_read-none c.args.slots.now c.args.body.now c.args.hits.now.items c.requires.none

pub loop-line-preserved : goal.loop-line-preserved
loop-line-preserved c =
    has_read-more c.args.slots.now c.args.body.now c.loop-line.hits.items c.take_line.new.hits.items c.loop-line.rest.now c.in-Some.line.now c.in-Some.behind.now c.loop-line.invariant c.in-Some.ensures.line c.in-Some.ensures.shorter c.in_default-take_line.ensures.taken

pub returns-clause-read : goal.returns-clause-read
returns-clause-read c = (has_read-all c.args.slots.now c.args.body.now c.loop-line.hits.items c.loop-line.rest.now c.loop-line.invariant c.in_default.ensures.line).0

pub returns-in-Err-clause-refused : goal.returns-in-Err-clause-refused
returns-in-Err-clause-refused c = has_read-refused c.args.slots.now c.args.body.now c.loop-line.hits.items c.loop-line.rest.now c.in-Some.line.now c.in-Some.behind.now c.in-Err.error c.loop-line.invariant c.in-Some.ensures.line c.in-Err.ensures.refused
