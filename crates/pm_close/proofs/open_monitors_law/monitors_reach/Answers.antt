use Rattle.std.proofs.Common.{arith}
use Rattle.pm_close.proofs.open_monitors_law.monitors_reach.Goals as goal

pub returns : goal.returns
returns c = λ cells from tick monitors le on k d lt.
    let was = on k d lt in
    let reach = was.reach in
    record { few = was.few; marks = was.marks; reach = omega (arith, reach, le) }
