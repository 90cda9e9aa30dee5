use Rattle.std.proofs.Common.{◌++◌, ◌≤◌, length, sym, ap, ◌∙◌, arith}
use Rattle.pm_notice.specs.declared.notice.Notice.{Notice}
use Rattle.pm_notice.specs.Round.{round_posts}
use Rattle.pm_notice.proofs.RoundLemmas.{sent_stop, sent_all, post_failed}
use Rattle.pm_notice.proofs.rounds.serve.Goals as goal

pub returns-then-is_err-clause-posted : goal.returns-then-is_err-clause-posted
returns-then-is_err-clause-posted g c told =
    let s = c.args.subscription.now in
    let notices = c.args.notices.now in
    let n = c.notice-item.result in
    let i = c.loop-notice.notice-index in
    post_failed c.post.result (g.P.Courier.posts c.loop-notice.courier) (g.P.Courier.posts c.post.new.self) _
    (sym c.is_err.ensures.value ∙ c.if-is_err.true) (c.post.ensures.told told)
    ∙ c.loop-notice.invariant.0 told
    ∙ ap (λ ps. g.P.Courier.posts c.args.courier.now ++ ps)
    (sent_stop s c.args.moment notices i n c.requires.rising c.loop-notice-test.true
    ∙ ap (λ (m : Notice). round_posts notices c.args.moment s m.number) (sym c.notice-item.is))

pub returns-clause-posted : goal.returns-clause-posted
returns-clause-posted g c told =
    let past : length c.args.notices.now ≤ c.loop-notice.notice-index = omega arith in
    c.loop-notice.invariant.0 told
    ∙ ap (λ ps. g.P.Courier.posts c.args.courier.now ++ ps)
    (sent_all c.args.subscription.now c.args.moment c.args.notices.now c.loop-notice.notice-index c.args.total c.requires.numbered past)
