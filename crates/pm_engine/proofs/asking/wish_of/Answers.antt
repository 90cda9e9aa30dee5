use Rattle.std.proofs.Common.{subst}
use Rattle.pm_state.specs.FilesGiven.{IsFileGiven}
use Rattle.pm_engine.proofs.asking.wish_of.Goals as goal

pub returns-in-File-clause-given : goal.returns-in-File-clause-given
returns-in-File-clause-given c = λ inventory g cursors given next is.
    rw c.in-File.is (subst (λ n. IsFileGiven inventory g n given) c.as_bytes-in-File.ensures.value is.0, is.1)
