use Rattle.std.proofs.Common.{◌≡◌, ◌≤◌, ◌+◌, ◌∙◌, ap, sym, take, cond, ltb, arith, ℕ, subst}
use Rattle.pm_history.specs.Entry.{moment_of}
use Rattle.pm_history.specs.History.{history_of, before}
use Rattle.pm_history.proofs.HistoryLemmas.{history_of-more}
use Rattle.pm_slow.proofs.LoopLemmas.{cond_at, cond-le}
use Rattle.pm_slow.proofs.history.before.Goals as goal

pub loop-place-preserved : goal.loop-place-preserved
loop-place-preserved c =
    let xs = c.args.history.now in
    let n = c.loop-place.place in
    let m = c.args.moment in
    let h = history_of (take n xs) in
    let e = c.index-history-place.result in
    let more = history_of-more xs n e c.loop-place-test.true c.index-history-place.is in
    let test = ltb (moment_of e) m in
    let picked : c.pick-count.result ≡ cond test (n + 1) c.loop-place.count = c.pick-count.ensures ∙ (λ i. cond (ltb (c.moment.ensures i) m) (n + 1) c.loop-place.count) in
    let old = c.loop-place.invariant.prefix in
    let AtMost : ℕ → Type 0 = λ k. k ≤ n + 1 in
    record {
      prefix = ap (λ k. history_of (take k xs)) picked ∙ (cond_at (λ k. history_of (take k xs)) test (n + 1) c.loop-place.count ∙ ((λ i. cond test (more i) (old i)) ∙ sym (ap (before m) more)));
      within = subst AtMost (sym picked) (cond-le test (n + 1) c.loop-place.count (n + 1) (omega arith) (omega (arith, c.loop-place.invariant.within)));
    }
