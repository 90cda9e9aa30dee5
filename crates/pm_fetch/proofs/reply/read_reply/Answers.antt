use Rattle.std.proofs.Common.{Err, ap, arith}
use Rattle.pm_http.specs.declared.error.AnswerError.{AnswerError}
use Rattle.pm_fetch.proofs.ReplyLemmas.{says_so}
use Rattle.pm_fetch.proofs.reply.read_reply.Goals as goal

pub returns-in-Ok : goal.returns-in-Ok
returns-in-Ok c =
    says_so c.args.bytes.now c.in-Ok.answer.status c.in-Ok.answer.body c.meaning_of.result c.in-Ok.ensures.answer (omega (arith, c.if-bytes.false)) c.meaning_of.ensures

pub returns-in-Err-X1 : goal.returns-in-Err-X1
returns-in-Err-X1 c =
    let none = c.in-Err-X1.ensures.refused (ap (λ (e : AnswerError). Err e) c.in-Err-X1.field-0-is) in
    (λ body reply. none 200 body reply.answer, λ body reply. none 404 body reply.answer)
