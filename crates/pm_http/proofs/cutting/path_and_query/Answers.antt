use Rattle.std.proofs.Common.{sym, ◌∙◌}
use Rattle.pm_http.proofs.TargetLemmas.{path_of-found, query_of-found, path_of-missing, query_of-missing}
use Rattle.pm_http.proofs.cutting.path_and_query.Goals as goal

pub returns-in-Some : goal.returns-in-Some
returns-in-Some c =
    let found = sym c.question_mark.ensures ∙ c.in-Some.is in record {
      path = path_of-found c.args.target.now c.in-Some.at found;
      query = query_of-found c.args.target.now c.in-Some.at found;
    }

pub returns-in-None : goal.returns-in-None
returns-in-None c =
    let missing = sym c.question_mark.ensures ∙ c.in-None.is in record {
      path = path_of-missing c.args.target.now missing;
      query = query_of-missing c.args.target.now missing;
    }
