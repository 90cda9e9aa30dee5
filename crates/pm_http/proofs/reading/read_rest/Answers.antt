use Rattle.std.proofs.Common.{◌≡◌, ℕ, [], ◌++◌, length, sym, ap, ◌∙◌, arith}
use Rattle.std.proofs.lemmas.Result.{err_from_is_err_and}
use Rattle.pm_outside.specs.Feed.{left_to}
use Rattle.pm_http.specs.declared.size.BodySize.TheVariants.{Bytes}
use Rattle.pm_http.proofs.AnswerLemmas.{gathered-Refused, gathered-Request}
use Rattle.pm_http.proofs.LimitLemmas.{stops-in_body, front_on, answered_before}
use Rattle.pm_http.proofs.ReadLemmas.{next-refused}
use Rattle.pm_http.proofs.StopsLemmas.{memory_at_body, memory_at_end, stops_in_body}
use Rattle.pm_http.proofs.reading.read_rest.Goals as goal

pub returns-in-Refused-clause-next : goal.returns-in-Refused-clause-next
returns-in-Refused-clause-next g c =
    λ told all g1. next-refused all c.args.head.now (left_to c.args.feed.now (g.S.Source.left c.args.source.now)) [] c.args.fields.now c.args.spans c.args.offset c.in-Refused.code g1 (sym (c.size_by_head.ensures.size g1.head g1.at) ∙ c.in-Refused.is)

pub returns-in_err-fill-in-Bytes-clause-limit : goal.returns-in_err-fill-in-Bytes-clause-limit
returns-in_err-fill-in-Bytes-clause-limit g c =
    let p = err_from_is_err_and c.from_residual.result c.from_residual.ensures.1 in
    λ told all g1 given is.
    let stops = c.in_err-fill-in-Bytes.ensures.limit told (cc (p.1, p.2, is)) in
    stops-in_body all c.args.head.now (left_to c.args.feed.now (g.S.Source.left c.args.source.now)) c.args.fields.now c.args.spans c.args.offset c.args.feed.now.given c.in-Bytes.size
    g1 (sym (c.size_by_head.ensures.size g1.head g1.at) ∙ c.in-Bytes.is) given (rw c.in-Ok.ensures at stops)

pub returns-in-Refused-clause-within : goal.returns-in-Refused-clause-within
returns-in-Refused-clause-within g c =
    λ told all g1 given stops.
    let left = left_to c.args.feed.now (g.S.Source.left c.args.source.now) in
    let answered = gathered-Refused all c.args.head.now left c.args.fields.now c.args.spans c.in-Refused.code g1 (sym (c.size_by_head.ensures.size g1.head g1.at) ∙ c.in-Refused.is) in
    absurd (answered_before c.args.offset c.args.feed.now.given all c.args.head.now left g1.split given c.requires.within answered stops)

pub returns-in-Ok-request_of-clause-within : goal.returns-in-Ok-request_of-clause-within
returns-in-Ok-request_of-clause-within g c =
    λ told all g1 given stops.
    let left = left_to c.args.feed.now (g.S.Source.left c.args.source.now) in
    let rest = left_to c.fill.new.feed (g.S.Source.left c.fill.new.source) in
    let body = c.fill.new.body.items in
    let filled = rw c.if-not-branch.false at c.in_ok-fill-in-Bytes.ensures.fills told in
    let split = front_on all c.args.head.now left body rest g1.split filled in
    let size : c.in-Bytes.size ≡ length body = omega (arith, c.in_ok-fill-in-Bytes.ensures.room, c.in-Ok.ensures, c.fill.new.body.ok.0) in
    let is = sym (c.size_by_head.ensures.size g1.head g1.at) ∙ c.in-Bytes.is ∙ ap (λ (n : ℕ). Bytes n) size in
    let answered = gathered-Request all c.args.head.now left body c.args.fields.now c.args.spans g1 is in
    absurd (answered_before c.args.offset c.fill.new.feed.given all (c.args.head.now ++ body) rest split (c.in_ok-fill-in-Bytes.ensures.reads.given told ∙ given) c.in_ok-fill-in-Bytes.ensures.reads.most answered stops)

pub returns-in_err-fill-in-Bytes-clause-stops : goal.returns-in_err-fill-in-Bytes-clause-stops
returns-in_err-fill-in-Bytes-clause-stops g c =
    let p = err_from_is_err_and c.from_residual.result c.from_residual.ensures.1 in
    λ told all g1.
    let left = left_to c.args.feed.now (g.S.Source.left c.args.source.now) in
    let rest = left_to c.fill.new.feed (g.S.Source.left c.fill.new.source) in
    let size = sym (c.size_by_head.ensures.size g1.head g1.at) ∙ c.in-Bytes.is in
    rw p.1 (stops_in_body all c.args.head.now left rest c.args.fields.now c.args.spans c.in-Bytes.size p.0 g1 size (λ is. rw c.in-Ok.ensures at (c.in_err-fill-in-Bytes.ensures.fault told (cc (p.2, is)))) (λ is. c.in_err-fill-in-Bytes.ensures.no_memory (cc (p.2, is))))

pub returns-in_default-clause-stops : goal.returns-in_default-clause-stops
returns-in_default-clause-stops g c =
    λ told all g1.
    let left = left_to c.args.feed.now (g.S.Source.left c.args.source.now) in
    memory_at_body all c.args.head.now left c.args.fields.now c.args.spans c.in-Bytes.size g1 (sym (c.size_by_head.ensures.size g1.head g1.at) ∙ c.in-Bytes.is)

pub returns-in-Err-clause-stops : goal.returns-in-Err-clause-stops
returns-in-Err-clause-stops g c =
    λ told all g1.
    let left = left_to c.args.feed.now (g.S.Source.left c.args.source.now) in
    let rest = left_to c.fill.new.feed (g.S.Source.left c.fill.new.source) in
    let body = c.fill.new.body.items in
    let filled = rw c.if-not-branch.false at c.in_ok-fill-in-Bytes.ensures.fills told in
    let size : c.in-Bytes.size ≡ length body = omega (arith, c.in_ok-fill-in-Bytes.ensures.room, c.in-Ok.ensures, c.fill.new.body.ok.0) in
    memory_at_end all c.args.head.now left body rest c.args.fields.now c.args.spans g1 (sym (c.size_by_head.ensures.size g1.head g1.at) ∙ c.in-Bytes.is ∙ ap (λ (n : ℕ). Bytes n) size) filled
