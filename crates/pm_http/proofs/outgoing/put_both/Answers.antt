use Rattle.pm_http.proofs.ReplyLemmas.{Writes-first, Writes-after}
use Rattle.pm_http.proofs.outgoing.put_both.Goals as goal

pub returns-in-Ok-clause-told : goal.returns-in-Ok-clause-told
returns-in-Ok-clause-told g c =
    λ told. Writes-after _ _ _ c.args.first.now c.args.second.now c.put-in-Ok.result (c.in-Ok.ensures.told told) (c.put-in-Ok.ensures.told told) c.put-in-Ok.ensures.no_memory

pub returns-in-Err-clause-told : goal.returns-in-Err-clause-told
returns-in-Err-clause-told g c =
    λ told. Writes-first _ _ c.args.first.now c.args.second.now c.in-Err.fault (c.in-Err.ensures.told told)
