use Rattle.std.proofs.Common.{◌∙◌, sym, ap}
use Rattle.pm_name.specs.FileName.{FileNameParts}
use Rattle.pm_ready.proofs.files.end_of.Goals as goal

pub returns-in-Ok-read : goal.returns-in-Ok-read
returns-in-Ok-read c = λ n is. ap (λ (p : FileNameParts). p.end) (c.in-Ok-read.ensures.only n is) ∙ sym c.end.ensures
