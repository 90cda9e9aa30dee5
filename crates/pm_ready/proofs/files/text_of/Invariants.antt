use Rattle.std.proofs.Common.{◌≡◌, drop, bytes_eq}
use Rattle.std.specs.List.{find}
use Rattle.pm_ready.specs.declared.ready.ReadyFile.{ReadyFile}
use Rattle.pm_ready.proofs.files.text_of.Given as goal

abbrev pub invariant-loop-file : goal.invariant-loop-file
invariant-loop-file l =
    find (λ (f : ReadyFile). bytes_eq f.info.name l.name) (drop l.file-index l.files) ≡ find (λ (f : ReadyFile). bytes_eq f.info.name l.name) l.files
