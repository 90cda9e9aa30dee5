use Rattle.std.proofs.Common.{◌∙◌, ◌||◌, ap, sym, take}
use Rattle.pm_base.specs.Moment.{tick_of}
use Rattle.pm_history.specs.History.{history_of, first_cut, is_cut}
use Rattle.pm_history.proofs.HistoryLemmas.{history_of-more}
use Rattle.pm_slow.proofs.history.is_cut.Goals as goal

pub loop-entry-preserved : goal.loop-entry-preserved
loop-entry-preserved c =
    let h = history_of (take c.loop-entry.entry-index c.args.history.now) in
    let more = history_of-more c.args.history.now c.loop-entry.entry-index c.entry-item.result c.loop-entry-test.true c.entry-item.is in
    let old = c.loop-entry.invariant.cut in
    let cuts = c.cuts-cuts.ensures h c.loop-entry.invariant.first in
    record {
      cut = c.or-cut.ensures ∙ ((λ i. old i || cuts i) ∙ sym (ap (λ g. is_cut g c.args.at) more));
      first = λ m. ap (λ g. first_cut g m) more ∙ ap tick_of (sym c.moment-last.ensures);
    }
