use Rattle.pm_kpi.proofs.RatioLemmas.{five_words}
use Rattle.pm_kpi.proofs.words.ratio_words.Goals as goal

pub returns-in-Some : goal.returns-in-Some
returns-in-Some c =
    five_words c.args.line.now c.in_ok-word.word.now c.in_ok-word.rest.now c.in_ok-name.name.now c.in_ok-name.rest.now c.in_ok-above.above.now
    c.in_ok-above.below.now c.in-Some.field-0.0.now c.in-Some.field-0.1.now c.in_ok-word.ensures c.in_ok-name.ensures c.in_ok-above.ensures c.in-Some.ensures
