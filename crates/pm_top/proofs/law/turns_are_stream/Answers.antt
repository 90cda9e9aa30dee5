use Rattle.pm_top.proofs.StreamLemmas.{turns-are-stream}
use Rattle.pm_top.proofs.law.turns_are_stream.Goals as goal

pub returns : goal.returns
returns c = turns-are-stream
