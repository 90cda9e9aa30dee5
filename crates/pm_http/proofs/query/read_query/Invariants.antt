use Rattle.form_urlencoded.specs.Parse.{pairs_left}
use Rattle.pm_http.specs.QuerySteps.{HasRead}
use Rattle.pm_http.proofs.query.read_query.Given as goal

abbrev pub invariant-loop-pair : goal.invariant-loop-pair
invariant-loop-pair l = HasRead l.query (pairs_left l.pair-iterator) l.asked
