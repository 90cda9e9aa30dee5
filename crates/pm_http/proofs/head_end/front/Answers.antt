use Rattle.std.proofs.Common.{sym, arith, take_all, ◌≤◌, length}
use Rattle.pm_http.proofs.head_end.front.Goals as goal

pub returns-then-head-lt-MOST_HEAD-clause-value : goal.returns-then-head-lt-MOST_HEAD-clause-value
returns-then-head-lt-MOST_HEAD-clause-value c =
    let few : length c.args.head.now ≤ 16384 = omega arith in
    sym (take_all 16384 c.args.head.now few)
