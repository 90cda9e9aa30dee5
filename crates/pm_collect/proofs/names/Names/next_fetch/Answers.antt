use Rattle.std.proofs.Common.{ap}
use Rattle.std.specs.Prelude.{is_some}
use Rattle.pm_collect.proofs.MapLemmas.{first_in}
use Rattle.pm_collect.proofs.names.Names.next_fetch.Goals as goal

pub returns-in-Some : goal.returns-in-Some
returns-in-Some c = rw c.as_slice.ensures.value (record {
  wanted = ap is_some c.in-Some.ensures.value;
  least = first_in c.args.self.now.wanted c.in-Some.name.now c.in-Some.ensures.all_from;
})
