use Rattle.std.proofs.Common.{◌≡◌, ◌<◌, ◌++◌, length, nat_lt, sym, ap, ◌∙◌, arith, add-one, append_assoc}
use Rattle.pm_outside.specs.Causes.{faults_after}
use Rattle.pm_notice.specs.Round.{faults_after_stops, round_posts}
use Rattle.pm_notice.specs.Planned.{subscriptions_of}
use Rattle.pm_notice.proofs.StandLemmas.{stand-same}
use Rattle.pm_notice.proofs.DeliverLemmas.{posts_to, served-length, served-le, served-next, served-more, posts-more, stops-more, served-all, posts-all, stops-all, rounds-same, cursor-at}
use Rattle.pm_notice.proofs.subscriptions.Subscriptions.deliver.Goals as goal

pub at-requires : goal.at-requires
at-requires g c =
    let same = served-length c.args.notices.now c.args.total c.args.moment c.loop-place.place _ _ c.loop-place.invariant.served in
    let end = c.count-place-end.ensures in
    let lt = c.loop-place-test.true in
    omega (arith, same, end, lt)

pub serve-end-requires-clause-cursor : goal.serve-end-requires-clause-cursor
serve-end-requires-clause-cursor g c =
    let xs = subscriptions_of c.args.self.now in
    let i = c.loop-place.place in
    let end = c.count-place-end.ensures in
    let lt = c.loop-place-test.true in
    let some : 0 < length xs = omega (arith, end, lt) in
    cursor-at c.args.total xs i c.at.result.now (c.requires some).cursors
    (served-next c.args.notices.now c.args.total c.args.moment i xs _ c.at.result.now c.loop-place.invariant.served c.at.ensures)

pub set_cursor-requires : goal.set_cursor-requires
set_cursor-requires g c =
    let same = served-length c.args.notices.now c.args.total c.args.moment c.loop-place.place _ _ c.loop-place.invariant.served in
    let end = c.count-place-end.ensures in
    let lt = c.loop-place-test.true in
    omega (arith, same, end, lt)

pub loop-place-preserved : goal.loop-place-preserved
loop-place-preserved g c =
    let notices = c.args.notices.now in
    let total = c.args.total in
    let moment = c.args.moment in
    let xs = subscriptions_of c.args.self.now in
    let ys = subscriptions_of c.loop-place.self in
    let i = c.loop-place.place in
    let s = c.at.result.now in
    let end = c.serve-end.result in
    let served = c.loop-place.invariant.served in
    let at = served-next notices total moment i xs ys s served c.at.ensures in
    let same = served-length notices total moment i xs ys served in
    let most = c.count-place-end.ensures in
    let lt = c.loop-place-test.true in
    let in_ys : i < length ys = omega (arith, same, most, lt) in
    let P = g.P.Courier.posts c.args.courier.now in
    let R = round_posts notices moment s end in
    rw (add-one i, c.set_cursor.ensures.set)
    (record {
      served = served-more notices total moment i end xs ys s at c.serve-end.ensures.ends served;
      posted = λ told.
          c.serve-end.ensures.posted told ∙ ap (λ ps. ps ++ R) (c.loop-place.invariant.posted told)
          ∙ append_assoc P (posts_to notices total moment i xs ys) R
          ∙ ap (λ ps. P ++ ps) (sym (posts-more notices total moment i end xs ys s at served));
      counted = c.serve-end.ensures.counted ∙ ap (faults_after (nat_lt end total)) c.loop-place.invariant.counted
          ∙ stops-more notices total moment i end ys (g.P.Courier.faults c.args.courier.now) in_ys;
    })

pub returns-clause-rounds : goal.returns-clause-rounds
returns-clause-rounds g c =
    let xs = subscriptions_of c.args.self.now in
    let ys = subscriptions_of c.loop-place.self in
    let served = c.loop-place.invariant.served in
    let le = served-le c.args.notices.now c.args.total c.args.moment c.loop-place.place xs ys served in
    let most = c.count-place-end.ensures in
    let past = c.loop-place-test.false in
    let all : c.loop-place.place ≡ length xs = omega (arith, le, most, past) in
    served-all c.args.notices.now c.args.total c.args.moment c.loop-place.place xs ys all served

pub returns-clause-posted : goal.returns-clause-posted
returns-clause-posted g c told =
    let xs = subscriptions_of c.args.self.now in
    let ys = subscriptions_of c.loop-place.self in
    let served = c.loop-place.invariant.served in
    let le = served-le c.args.notices.now c.args.total c.args.moment c.loop-place.place xs ys served in
    let most = c.count-place-end.ensures in
    let past = c.loop-place-test.false in
    let all : c.loop-place.place ≡ length xs = omega (arith, le, most, past) in
    c.loop-place.invariant.posted told
    ∙ ap (λ ps. g.P.Courier.posts c.args.courier.now ++ ps) (posts-all c.args.notices.now c.args.total c.args.moment c.loop-place.place xs ys all served)

pub returns-clause-counted : goal.returns-clause-counted
returns-clause-counted g c =
    let xs = subscriptions_of c.args.self.now in
    let ys = subscriptions_of c.loop-place.self in
    let served = c.loop-place.invariant.served in
    let le = served-le c.args.notices.now c.args.total c.args.moment c.loop-place.place xs ys served in
    let same = served-length c.args.notices.now c.args.total c.args.moment c.loop-place.place xs ys served in
    let most = c.count-place-end.ensures in
    let past = c.loop-place-test.false in
    let all : c.loop-place.place ≡ length ys = omega (arith, le, same, most, past) in
    c.loop-place.invariant.counted
    ∙ ap (λ n. faults_after_stops n (g.P.Courier.faults c.args.courier.now)) (stops-all c.args.notices.now c.args.total c.args.moment c.loop-place.place ys all)

pub returns-clause-stand : goal.returns-clause-stand
returns-clause-stand g c h cursors stand =
    stand-same (subscriptions_of c.args.self.now) (subscriptions_of c.loop-place.self) h cursors
    (rounds-same c.args.notices.now c.args.total c.args.moment _ _ (returns-clause-rounds g c)) stand
