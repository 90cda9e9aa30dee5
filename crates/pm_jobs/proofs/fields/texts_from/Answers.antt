use Rattle.std.proofs.Common.{◌∙◌, arith, length, ◌<◌, ◌≤◌}
use Rattle.std.proofs.lemmas.Result.{IfOk-weaker}
use Rattle.pm_jobs.proofs.EachLemmas.{texts_each, list_in, list_short, list_long}
use Rattle.pm_jobs.proofs.fields.texts_from.Goals as goal
use Rattle.pm_jobs.proofs.fields.texts_from.Goals.{then-items-least-via-then-items-least, then-items-least-via-else-items-least+then-most-items}

pub returns-then-items-least : goal.returns-then-items-least
returns-then-items-least c =
    let items = c.in-Some.items.now in
    let is = c.in-Some.ensures in
    elim c.then-items-least.branch [
      | then-items-least-via-then-items-least w ↦ let lt : length items < c.args.least = omega arith in list_short texts_each _ items c.args.least c.args.most is lt
      | then-items-least-via-else-items-least+then-most-items w ↦ let lt : c.args.most < length items = omega arith in list_long texts_each _ items c.args.least c.args.most is lt
    ]

pub returns : goal.returns
returns c =
    let items = c.in-Some.items.now in
    let ge : c.args.least ≤ length items = omega arith in
    let le : length items ≤ c.args.most = omega arith in
    IfOk-weaker c.copied_texts.result _ _ (λ o e. e ∙ list_in texts_each _ items c.args.least c.args.most c.in-Some.ensures ge le) c.copied_texts.ensures
