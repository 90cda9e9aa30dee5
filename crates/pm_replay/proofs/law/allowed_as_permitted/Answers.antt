use Rattle.pm_replay.proofs.LawLemmas as lemmas
use Rattle.pm_replay.proofs.law.allowed_as_permitted.Goals as goal

pub returns : goal.returns
returns c = lemmas.allowed_as_permitted
