use Rattle.std.proofs.Common.{rules, ◌≤◌, length}
use Rattle.pm_bank.proofs.PassedLemmas.{pass_after}
use Rattle.pm_bank.proofs.pass.Pass.count_run.Goals as goal

pub invariant_of-self-2 : goal.invariant_of-self-2
invariant_of-self-2 c =
    let p = c.self.inside in
    let few : length c.args.hits.now ≤ p.left = search rules in
    pass_after p.seat.me c.count_hits-epoch.new.seat.me p.since p.quota p.left c.count_hits-epoch.result c.args.hits.now c.self.invariant c.count_hits-epoch.ensures.seat few
