use Rattle.std.proofs.Common.{◌∙◌, ap, sym}
use Rattle.pm_history.specs.History.{last_moment}
use Rattle.pm_history.proofs.HistoryLemmas.{history_of-more}
use Rattle.pm_slow.proofs.history.last_moment.Goals as goal

pub loop-entry-preserved : goal.loop-entry-preserved
loop-entry-preserved c =
    c.moment-last.ensures ∙ sym (ap last_moment (history_of-more c.args.history.now c.loop-entry.entry-index c.entry-item.result c.loop-entry-test.true c.entry-item.is))
