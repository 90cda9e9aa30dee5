use Rattle.std.proofs.Common.{refl, arith}
use Rattle.pm_batch.proofs.PhaseLemmas.{registered_by-few}
use Rattle.pm_batch.proofs.open_tick.OpenTick.has_room.Goals as goal

pub returns-then-from-hits-clause-room : goal.returns-then-from-hits-clause-room
returns-then-from-hits-clause-room c = (λ is. omega (arith, registered_by-few c.args.self.now.phases.items c.args.hits.now), λ room. refl)
