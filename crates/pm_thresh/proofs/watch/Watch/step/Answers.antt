use Rattle.pm_thresh.proofs.WatchLemmas.{StandsAfter-with_value, IsCrossing-answer_by}
use Rattle.pm_thresh.proofs.watch.Watch.step.Goals as goal

pub returns-clause-crossing : goal.returns-clause-crossing
returns-clause-crossing c = λ values later seen. rw c.answer-answer.ensures (IsCrossing-answer_by c.args.self.now values later c.args.value seen)

pub returns-clause-sequence : goal.returns-clause-sequence
returns-clause-sequence c = λ values seen. rw c.after.ensures (StandsAfter-with_value c.args.self.now values c.args.value seen)
