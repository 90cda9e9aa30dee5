use Rattle.std.proofs.Common.{◌∙◌, List, map, sym, ap, subst}
use Rattle.std.specs.List.{find}
use Rattle.std.specs.Option.{option_map}
use Rattle.std.specs.Str.{bytes_eq}
use Rattle.pm_ready.specs.declared.ready.ReadyFile.{ReadyFile}
use Rattle.pm_ready.specs.Files.{File, file_of}
use Rattle.pm_ready.specs.Kept.{FilesState, FilesStand}
use Rattle.pm_ready.proofs.OrderLemmas.{in_order}
use Rattle.pm_ready.proofs.ServeLemmas.{serves, serves_none}
use Rattle.pm_ready.proofs.files.ReadyFiles.find.Goals as goal

pub returns-in_default : goal.returns-in_default
returns-in_default c = record {
  serves = λ inventory h stand text served. serves_none inventory h c.args.name.now (rw c.in_default.is at c.in_ok-end.ensures) text served;
}

pub returns : goal.returns
returns c = record {
  serves = λ inventory h stand.
      let items : List ReadyFile = c.self.inside.files.items in
      let own : FilesStand inventory h (map file_of items) = subst (λ (fs : List File). FilesStand inventory h fs) (ap (λ (s : FilesState). s.files) (sym c.self.view_is)) stand in
      let says = rw c.in-Some.is at c.in_ok-end.ensures in
      let within = rw c.deref.ensures.value at c.between.ensures in
      let is = within (in_order inventory h items own) in
      serves inventory h c.args.name.now c.in-Some.end items _ own says
      (c.text_of.ensures ∙ ap (λ (l : List ReadyFile). option_map (λ (f : ReadyFile). f.text) (find (λ (f : ReadyFile). bytes_eq f.info.name c.args.name.now) l)) is);
}
