use Rattle.std.proofs.Common.{inl, inr, refl, ◌+◌, ◌∙◌, ℕ, List, length, subst, sym, ap}
use Rattle.std.proofs.lemmas.Result.{err_from_is_err_and}
use Rattle.httparse.specs.declared.spans.HeaderSpan.{HeaderSpan}
use Rattle.pm_outside.specs.Feed.{left_to}
use Rattle.pm_http.specs.Piece.{IsGathered}
use Rattle.pm_http.proofs.LimitLemmas.{stops-in_head, written_back, answered_before, never_before}
use Rattle.pm_http.proofs.ReadLemmas.{next-crowded}
use Rattle.pm_http.proofs.StopsLemmas.{memory_first, fault_in_head, memory_in_head, no_limit_in_head}
use Rattle.pm_http.proofs.reading.read_request.Goals as goal

pub returns-in-Whole-clause-limit : goal.returns-in-Whole-clause-limit
returns-in-Whole-clause-limit g c =
    λ told is.
    let all = left_to c.args.feed.now (g.S.Source.left c.args.source.now) in
    let left = left_to c.read_head.new.feed (g.S.Source.left c.read_head.new.source) in
    let long = c.read_head.auto.fields ∙ ap length c.deref_mut.ensures.value in
    let fields = c.deref-in-Whole.ensures.value ∙ written_back c.in-Ok.fields.len c.read_head.new.fields c.in-Ok.fields.items c.in-Ok.fields.ok.0 long in
    let whole = rw (c.in-Whole.is, ← c.deref.ensures.value) at (c.in_ok-spans.ensures.ends told) in
    let gathered = subst (λ (t : List HeaderSpan). IsGathered all c.deref.result.now left t c.in-Whole.spans) (sym fields) whole in
    let given = c.in_ok-spans.ensures.reads.given told ∙ ap (λ (n : ℕ). n + length all) (sym (c.requires.begins told)) in
    c.read_rest.ensures.limit told all gathered given is

pub returns-in-Whole-clause-within : goal.returns-in-Whole-clause-within
returns-in-Whole-clause-within g c =
    λ told.
    let all = left_to c.args.feed.now (g.S.Source.left c.args.source.now) in
    let left = left_to c.read_head.new.feed (g.S.Source.left c.read_head.new.source) in
    let long = c.read_head.auto.fields ∙ ap length c.deref_mut.ensures.value in
    let fields = c.deref-in-Whole.ensures.value ∙ written_back c.in-Ok.fields.len c.read_head.new.fields c.in-Ok.fields.items c.in-Ok.fields.ok.0 long in
    let whole = rw (c.in-Whole.is, ← c.deref.ensures.value) at (c.in_ok-spans.ensures.ends told) in
    let gathered = subst (λ (t : List HeaderSpan). IsGathered all c.deref.result.now left t c.in-Whole.spans) (sym fields) whole in
    let given = c.in_ok-spans.ensures.reads.given told ∙ ap (λ (n : ℕ). n + length all) (sym (c.requires.begins told)) in
    c.read_rest.ensures.within told all gathered given

pub returns-in-Whole-clause-fault : goal.returns-in-Whole-clause-fault
returns-in-Whole-clause-fault g c =
    λ told is.
    let all = left_to c.args.feed.now (g.S.Source.left c.args.source.now) in
    let left = left_to c.read_head.new.feed (g.S.Source.left c.read_head.new.source) in
    let long = c.read_head.auto.fields ∙ ap length c.deref_mut.ensures.value in
    let fields = c.deref-in-Whole.ensures.value ∙ written_back c.in-Ok.fields.len c.read_head.new.fields c.in-Ok.fields.items c.in-Ok.fields.ok.0 long in
    let whole = rw (c.in-Whole.is, ← c.deref.ensures.value) at (c.in_ok-spans.ensures.ends told) in
    let gathered = subst (λ (t : List HeaderSpan). IsGathered all c.deref.result.now left t c.in-Whole.spans) (sym fields) whole in
    rw is at (c.read_rest.ensures.stops told all gathered)

pub returns-in-Whole-clause-memory : goal.returns-in-Whole-clause-memory
returns-in-Whole-clause-memory g c =
    λ told is.
    let all = left_to c.args.feed.now (g.S.Source.left c.args.source.now) in
    let left = left_to c.read_head.new.feed (g.S.Source.left c.read_head.new.source) in
    let long = c.read_head.auto.fields ∙ ap length c.deref_mut.ensures.value in
    let fields = c.deref-in-Whole.ensures.value ∙ written_back c.in-Ok.fields.len c.read_head.new.fields c.in-Ok.fields.items c.in-Ok.fields.ok.0 long in
    let whole = rw (c.in-Whole.is, ← c.deref.ensures.value) at (c.in_ok-spans.ensures.ends told) in
    let gathered = subst (λ (t : List HeaderSpan). IsGathered all c.deref.result.now left t c.in-Whole.spans) (sym fields) whole in
    rw is at (c.read_rest.ensures.stops told all gathered)

pub returns-in_err-spans-clause-fault : goal.returns-in_err-spans-clause-fault
returns-in_err-spans-clause-fault g c =
    let p = err_from_is_err_and c.from_residual.result c.from_residual.ensures.1 in
    λ told is. fault_in_head _ _ _ (cc (p.1, p.2, is)) (c.in_err-spans.ensures.stops told)

pub returns-in_err-spans-clause-memory : goal.returns-in_err-spans-clause-memory
returns-in_err-spans-clause-memory g c =
    let p = err_from_is_err_and c.from_residual.result c.from_residual.ensures.1 in
    λ told is. memory_in_head _ _ _ (cc (p.1, p.2, is)) (c.in_err-spans.ensures.stops told)

pub returns-in_err-spans-clause-limit : goal.returns-in_err-spans-clause-limit
returns-in_err-spans-clause-limit g c =
    let p = err_from_is_err_and c.from_residual.result c.from_residual.ensures.1 in
    λ told is. absurd (no_limit_in_head _ _ _ (cc (p.1, p.2, is)) (c.in_err-spans.ensures.stops told))

pub returns-in-Crowded-clause-next : goal.returns-in-Crowded-clause-next
returns-in-Crowded-clause-next g c =
    λ told.
    let all = left_to c.args.feed.now (g.S.Source.left c.args.source.now) in
    let ends = c.in_ok-spans.ensures.ends told in
    elim c.in-Crowded.is [
      | inl crowded ↦ (
          let head = rw crowded at ends in
          (refl, next-crowded all head.0 head.1 head.2)
          )
      | inr long ↦ (refl, inl (rw long at ends))
    ]

pub returns-in-Crowded-clause-within : goal.returns-in-Crowded-clause-within
returns-in-Crowded-clause-within g c =
    λ told stops.
    let all = left_to c.args.feed.now (g.S.Source.left c.args.source.now) in
    let left = left_to c.read_head.new.feed (g.S.Source.left c.read_head.new.source) in
    let stands = c.in_ok-spans.ensures.stands told in
    let shows = c.in_ok-spans.ensures.shows in
    let split = c.in_ok-spans.ensures.split told in
    let given = c.in_ok-spans.ensures.reads.given told ∙ ap (λ (n : ℕ). n + length all) (sym (c.requires.begins told)) in
    elim c.in-Crowded.is [
      | inl crowded ↦ answered_before c.args.offset c.read_head.new.feed.given all c.read_head.new.head.items left split given (rw crowded at stands) (rw crowded at shows) stops
      | inr long ↦ answered_before c.args.offset c.read_head.new.feed.given all c.read_head.new.head.items left split given (rw long at stands) (rw long at shows) stops
    ]

pub returns-in-Never-clause-within : goal.returns-in-Never-clause-within
returns-in-Never-clause-within g c =
    λ told stops.
    let all = left_to c.args.feed.now (g.S.Source.left c.args.source.now) in
    let left = left_to c.read_head.new.feed (g.S.Source.left c.read_head.new.source) in
    let never = rw c.in-Never.is at c.in_ok-spans.ensures.shows in
    let stands = rw c.in-Never.is at (c.in_ok-spans.ensures.stands told) in
    let given = c.in_ok-spans.ensures.reads.given told ∙ ap (λ (n : ℕ). n + length all) (sym (c.requires.begins told)) in
    never_before c.args.offset c.read_head.new.feed.given all c.read_head.new.head.items left (c.in_ok-spans.ensures.split told) given stands never stops

pub returns-clause-limit : goal.returns-clause-limit
returns-clause-limit g c =
    λ told is.
    let all = left_to c.args.feed.now (g.S.Source.left c.args.source.now) in
    let left = left_to c.read_head.new.feed (g.S.Source.left c.read_head.new.source) in
    let in_head = rw c.in-Limit.is at (c.in_ok-spans.ensures.ends told) in
    let spent = rw c.in-Limit.is at (c.in_ok-spans.ensures.stands told) in
    let given = c.in_ok-spans.ensures.reads.given told ∙ ap (λ (n : ℕ). n + length all) (sym (c.requires.begins told)) in
    stops-in_head all c.read_head.new.head.items left c.args.offset c.read_head.new.feed.given
    (c.in_ok-spans.ensures.split told) given spent in_head

pub returns-in_default-clause-memory : goal.returns-in_default-clause-memory
returns-in_default-clause-memory g c = λ told is. memory_first _

pub returns-in_default-with_capacity-clause-memory : goal.returns-in_default-with_capacity-clause-memory
returns-in_default-with_capacity-clause-memory g c = λ told is. memory_first _
