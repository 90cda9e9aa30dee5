use Rattle.std.proofs.Common.{◌≤◌, length}
use Rattle.pm_link.proofs.link.TcpLink.take.Given as goal

abbrev pub invariant-loop : goal.invariant-loop
invariant-loop g l = length l.reply.items ≤ l.limit
