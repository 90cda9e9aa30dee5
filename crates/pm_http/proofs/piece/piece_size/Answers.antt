use Rattle.pm_http.proofs.PieceLemmas.{plain_to_found, plain_first}
use Rattle.pm_http.proofs.piece.piece_size.Goals as goal

pub returns-in-Some-clause-plain : goal.returns-in-Some-clause-plain
returns-in-Some-clause-plain c =
    let found = c.in-Some.ensures.0 in
    plain_to_found c.args.held.now c.first_of-first.result.now c.in-Some.at c.first_of-first.ensures.value found.high found.before

pub returns-in-None-clause-plain : goal.returns-in-None-clause-plain
returns-in-None-clause-plain c = plain_first c.args.held.now c.first_of-first.result.now c.first_of-first.ensures.value c.in-None.ensures
