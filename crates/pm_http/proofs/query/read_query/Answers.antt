use Rattle.std.proofs.Common.{sym, ◌∙◌}
use Rattle.pm_http.proofs.QueryLemmas.{read_nothing, read_pair, read_refused}
use Rattle.pm_http.proofs.query.read_query.Goals as goal

pub loop-pair-init : goal.loop-pair-init
loop-pair-init c = rw (c.into_iter-pair-iterator.ensures.into_iter_gives, c.parse-pair-items.ensures.value) (read_nothing c.args.query.now)

pub loop-pair-preserved : goal.loop-pair-preserved
loop-pair-preserved c =
    let step = c.in-Some.ensures.steps.0 in
    let texts = rw c.in-Ok.is at step.3 in
    read_pair _ _ _ _ _ _ _ (step.0, step.1) c.loop-pair.invariant step.2
    (c.as_bytes.ensures.value ∙ c.deref.ensures.value ∙ texts.0.2) (c.as_bytes-in-loop-pair.ensures.value ∙ c.deref-in-loop-pair.ensures.value ∙ texts.1.2)
    (sym c.with_pair.ensures ∙ c.in-Some-with_pair.is)

pub loop-pair-preserved-in-Some-with_pair : goal.loop-pair-preserved-in-Some-with_pair
loop-pair-preserved-in-Some-with_pair c =
    let step = c.in-Some.ensures.steps.0 in
    let texts = rw c.in-Ok.is at step.3 in
    read_pair _ _ _ _ _ _ _ (step.0, step.1) c.loop-pair.invariant step.2
    (c.as_bytes.ensures.value ∙ c.deref.ensures.value ∙ texts.0.2) (c.as_bytes-in-loop-pair.ensures.value ∙ c.deref-in-loop-pair.ensures.value ∙ texts.1.2)
    (sym c.with_pair.ensures ∙ c.in-Some-with_pair.is)

pub returns-in_default-with_pair : goal.returns-in_default-with_pair
returns-in_default-with_pair c =
    let step = c.in-Some.ensures.steps.0 in
    let texts = rw c.in-Ok.is at step.3 in
    read_refused _ _ _ _ _ _ (step.0, step.1) c.loop-pair.invariant step.2
    (c.as_bytes.ensures.value ∙ c.deref.ensures.value ∙ texts.0.2) (c.as_bytes-in-loop-pair.ensures.value ∙ c.deref-in-loop-pair.ensures.value ∙ texts.1.2)
    (sym c.with_pair.ensures ∙ c.in_default-with_pair.is)
