use Rattle.std.proofs.Common.{subst, sym, map, List, ap}
use Rattle.pm_history.specs.History.{Start, ◌▷◌}
use Rattle.pm_ready.specs.Files.{File, file_of}
use Rattle.pm_ready.specs.Kept.{FilesStand}
use Rattle.pm_ready.proofs.KeptLemmas.{stand-first}
use Rattle.pm_ready.proofs.files.ReadyFiles.new.Goals as goal

pub returns-clause-first : goal.returns-clause-first
returns-clause-first c =
    λ inventory e. subst (λ (fs : List File). FilesStand inventory (Start ▷ e) fs) (ap (map file_of) (sym c.new.ensures.items)) (stand-first inventory e)
