use Rattle.pm_http.proofs.ReplyReadLemmas.{some_answer}
use Rattle.pm_http.proofs.answer.read_answer.Goals as goal

pub returns-in-Ok-Complete-clause-memory : goal.returns-in-Ok-Complete-clause-memory
returns-in-Ok-Complete-clause-memory c = λ is.
    some_answer c.args.bytes.now c.parse_response.new.headers c.in-Ok-Complete.spans c.parse_response.auto.headers
    (rw c.in-Ok-Complete.field-0-is at c.in-Ok-Complete.ensures.complete)
    (λ h at. c.answer_of.ensures.memory h at is)
