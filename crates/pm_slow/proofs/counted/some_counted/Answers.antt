use Rattle.std.proofs.Common.{◌+◌, ◌||◌, ◌∙◌, sym}
use Rattle.pm_history.specs.History.{history_of}
use Rattle.pm_history.specs.Counted.{is_counted}
use Rattle.pm_slow.specs.Book.{terms_in}
use Rattle.pm_slow.proofs.LoopLemmas.{at_some-more}
use Rattle.pm_slow.proofs.counted.some_counted.Goals as goal

pub loop-k-preserved : goal.loop-k-preserved
loop-k-preserved c =
    let old = c.loop-k.invariant in
    let this = c.is_counted-counted.ensures in
    c.or-some.ensures ∙ ((λ i. old i || this i) ∙ sym (at_some-more c.loop-k.k (λ k. is_counted (terms_in c.args.book.now) (history_of c.args.history.now) c.args.w.now (c.args.first + k))))
