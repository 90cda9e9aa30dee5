use Rattle.std.proofs.Common.{◌≡◌, ◌-◌, ◌∙◌, ap, sym, arith}
use Rattle.pm_base.specs.Moment.{tick_of}
use Rattle.pm_history.specs.History.{history_of, last_moment}
use Rattle.pm_history.specs.Ticks.{behind}
use Rattle.pm_history.specs.Files.{files_at}
use Rattle.pm_slow.specs.Book.{terms_in}
use Rattle.pm_slow.proofs.FirstLemmas.{files_of-from}
use Rattle.pm_slow.proofs.file.files.Goals as goal

pub returns : goal.returns
returns c =
    let h = history_of c.args.history.now in
    let T = terms_in c.args.book.now in
    let m = c.least_moment.result in
    let first : c.tick-first.result ≡ tick_of m = c.tick-first.ensures in
    let last : c.tick-last.result ≡ tick_of (last_moment h) = c.tick-last.ensures ∙ ap tick_of c.last_moment.ensures in
    let count : c.loop-k.k ≡ tick_of (last_moment h) - tick_of m = omega (arith, first, last, c.loop-k-test.false, c.loop-k.auto.k-end) in
    c.loop-k.invariant ∙ ((λ i. behind (files_at T h) (first i) (count i)) ∙ sym (files_of-from T m h c.least_moment.ensures.least c.least_moment.ensures.within))
