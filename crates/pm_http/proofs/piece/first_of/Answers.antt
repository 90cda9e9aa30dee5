use Rattle.std.proofs.Common.{sym, arith, take_all, ◌≤◌, length}
use Rattle.pm_http.proofs.piece.first_of.Goals as goal

pub returns-then-held-lt-MOST_PIECE-clause-value : goal.returns-then-held-lt-MOST_PIECE-clause-value
returns-then-held-lt-MOST_PIECE-clause-value c =
    let few : length c.args.held.now ≤ 2049 = omega arith in
    sym (take_all 2049 c.args.held.now few)
