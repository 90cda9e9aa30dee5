-- A reply has one status.
use Rattle.std.proofs.Common.{◌≡◌, ◌<◌, ℕ, List, length, sym, ap, subst, ◌∙◌}
use Rattle.httparse.specs.Grammar.{status_code}
use Rattle.httparse.proofs.GrammarLemmas.{response_unique}
use Rattle.pm_http.specs.Answer.{IsAnswer}
use Rattle.pm_fetch.specs.declared.reply.Said.{Said}
use Rattle.pm_fetch.specs.declared.reply.Said.TheVariants.{Body, Absent, Nothing}
use Rattle.pm_fetch.specs.declared.reply.TheConstants.{MOST_REPLY}
use Rattle.pm_fetch.specs.Replies.{IsReply, IsSaid, Says}

pub one_status : (bytes : List ℕ) (s t : ℕ) (x y : List ℕ) → IsAnswer bytes s x → IsAnswer bytes t y → s ≡ t
one_status bytes s t x y a b = a.code ∙ ap status_code (response_unique bytes a.head b.head x y a.reads b.reads).0 ∙ sym b.code

pub says_so : (bytes : List ℕ) (status : ℕ) (body : List ℕ) (said : Said) → IsAnswer bytes status body → length bytes < MOST_REPLY → IsSaid status body said
    → Says bytes said
says_so bytes status body (Body text) answer few is = record {
  answer = subst (λ (t : List ℕ). IsAnswer bytes 200 t) (sym is.1) (subst (λ (s : ℕ). IsAnswer bytes s body) is.0 answer);
  few = few;
}
says_so bytes status body Absent answer few is =
    (body, record { answer = subst (λ (s : ℕ). IsAnswer bytes s body) is answer; few = few })
says_so bytes status body Nothing answer few is = (
  λ text reply. is.0 (one_status bytes status 200 body text answer reply.answer),
  λ text reply. is.1 (one_status bytes status 404 body text answer reply.answer),
)
