use Rattle.std.proofs.Common.{◌∙◌, ◌++◌, ◌≤◌, List, map, sym, ap, subst}
use Rattle.std.specs.List.{filter}
use Rattle.pm_history.specs.History.{◌▷◌, last_moment}
use Rattle.pm_ready.specs.Files.{File, file_of}
use Rattle.pm_ready.specs.Kept.{lasts, FilesStand}
use Rattle.pm_ready.proofs.KeptLemmas.{stand-next}
use Rattle.pm_ready.proofs.files.ReadyFiles.step.Goals as goal

pub returns-clause-stands : goal.returns-clause-stands
returns-clause-stands c =
    λ inventory h e added le at grows are stand.
    let old = c.args.self.now.files in
    let new : List File = map file_of c.args.new.items in
    let next = stand-next inventory h e added old new (subst (λ n. last_moment h ≤ n) (sym at) le) grows are stand in
    subst (λ (fs : List File). FilesStand inventory (h ▷ e) fs) (ap (λ m. filter (λ (f : File). lasts m f.ready) (old ++ new)) at ∙ sym c.renew.ensures) next
