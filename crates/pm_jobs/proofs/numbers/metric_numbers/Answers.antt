use Rattle.std.proofs.Common.{◌∙◌, ◌<◌, ◌≤◌, ◌≡◌, Bool, length, get_or, map, string_bytes, sym, ap, arith}
use Rattle.std.specs.List.{list_any}
use Rattle.std.proofs.lemmas.List.{take_all}
use Rattle.std.proofs.lemmas.Option.{get_or_from_slice_get}
use Rattle.pm_meas.specs.declared.def.Def.{Def}
use Rattle.pm_asked.specs.Asked.{asks_for}
use Rattle.pm_jobs.proofs.PlaceLemmas.{places_where_yes, places_where_no}
use Rattle.pm_jobs.proofs.PlacesWithinLemmas.{places_below, places_few}
use Rattle.pm_jobs.proofs.StepLemmas.{any-map}
use Rattle.pm_jobs.proofs.numbers.metric_numbers.Goals as goal
use Rattle.pm_jobs.proofs.numbers.metric_numbers.Goals.{then-is_wanted+in_ok-push, else-is_wanted}

pub loop-metric-preserved : goal.loop-metric-preserved
loop-metric-preserved c =
    let measures = c.args.inventory.now.measures in
    let i = c.loop-metric.metric in
    let d = c.def.result.now in
    let p : Def → Bool = λ def. list_any (asks_for def) (map string_bytes c.args.texts.now) in
    let within : i < length measures = omega (arith, c.len-metric-end.ensures.value, ap length c.catalogue-catalogue.ensures, c.loop-metric-test.true) in
    let at : get_or measures i d ≡ d = get_or_from_slice_get measures i d d (rw c.catalogue-catalogue.ensures at c.def.ensures) in
    let is : p (get_or measures i d) ≡ c.is_wanted.result = ap p at ∙ any-map (asks_for d) string_bytes c.args.texts.now ∙ sym c.is_wanted.ensures in
    elim c.if-is_wanted.branch [
      | then-is_wanted+in_ok-push w ↦
          ap (λ v. v.items) w.metrics-is ∙ w.in_ok-push.ensures.items
          ∙ places_where_yes p measures i d c.loop-metric.metrics.items within (is ∙ w.if-is_wanted.true) c.loop-metric.invariant
      | else-is_wanted w ↦
          ap (λ v. v.items) w.metrics-is
          ∙ places_where_no p measures i d c.loop-metric.metrics.items within (is ∙ w.if-is_wanted.false) c.loop-metric.invariant
    ]

pub returns-clause-below : goal.returns-clause-below
returns-clause-below c =
    let measures = c.args.inventory.now.measures in
    let p : Def → Bool = λ def. list_any (asks_for def) (map string_bytes c.args.texts.now) in
    let le : length measures ≤ c.loop-metric.metric = omega (arith, c.len-metric-end.ensures.value, ap length c.catalogue-catalogue.ensures, c.loop-metric-test.false) in
    rw (c.loop-metric.invariant, take_all c.loop-metric.metric measures le) (places_below p measures)

pub returns-clause-few : goal.returns-clause-few
returns-clause-few c =
    let measures = c.args.inventory.now.measures in
    let p : Def → Bool = λ def. list_any (asks_for def) (map string_bytes c.args.texts.now) in
    let le : length measures ≤ c.loop-metric.metric = omega (arith, c.len-metric-end.ensures.value, ap length c.catalogue-catalogue.ensures, c.loop-metric-test.false) in
    let within = places_few p measures in
    rw (c.loop-metric.invariant, take_all c.loop-metric.metric measures le)
    (omega (arith, within, c.len-metric-end.ensures.catalogue.few, ap length c.catalogue-catalogue.ensures))
