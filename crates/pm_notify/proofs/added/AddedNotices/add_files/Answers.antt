use Rattle.std.proofs.Common.{◌≡◌, ◌≤◌, ◌+◌, suc, ◌∷◌, [], ◌++◌, List, map, take, take_all, length, sym, ap, subst, ◌∙◌, arith}
use Rattle.std.proofs.lemmas.List.{length-map}
use Rattle.pm_history.specs.Files.{Report}
use Rattle.pm_history.specs.Notices as history
use Rattle.pm_ready.specs.declared.ready.ReadyFile.{ReadyFile}
use Rattle.pm_ready.specs.Files.{IsFileOf, file_of}
use Rattle.pm_notify.specs.Notices.{AreNoticesFrom}
use Rattle.pm_notify.proofs.ToldLemmas.{files-many, files-step, told_more}
use Rattle.pm_notify.proofs.added.AddedNotices.add_files.Goals as goal

pub loop-file-preserved : goal.loop-file-preserved
loop-file-preserved c =
    let inventory = c.args.inventory.now in
    let files = c.args.files.now in
    let i = c.loop-file.file-index in
    let was = c.loop-file.invariant in
    let old = c.loop-file.self in
    let new = c.add_file.new.self in
    record {
      first = c.in_ok-add_file.ensures.first ∙ was.first;
      told = λ before reports are of.
          let next = files-step inventory reports files i c.file-item.result of c.loop-file-test.true in
          let at : i + 1 ≡ suc i = omega arith in
          let more : take (i + 1) reports ≡ take i reports ++ next.0 ∷ [] = ap (λ n. take n reports) at ∙ next.1 in
          let told = before ++ map history.FileReady (take i reports) in
          let done = subst (λ n. AreNoticesFrom inventory n told old.notices.items) (sym was.first) (was.told before reports are of) in
          let one = c.in_ok-add_file.ensures.told inventory told next.0 c.managed_element-element.ensures.value done
          (subst (λ (f : ReadyFile). IsFileOf inventory next.0 (file_of f)) (sym c.file-item.is) next.2) in
          subst (λ n. AreNoticesFrom inventory n (before ++ map history.FileReady (take (i + 1) reports)) new.notices.items) was.first
          (subst (λ ns. AreNoticesFrom inventory old.first ns new.notices.items)
          (told_more history.FileReady before (take i reports) (take (i + 1) reports) next.0 more) one);
    }

pub returns-clause-told : goal.returns-clause-told
returns-clause-told c =
    λ before reports are of.
    let inventory = c.args.inventory.now in
    let files = c.args.files.now in
    let many = files-many inventory reports (map file_of files) of in
    let long = length-map files file_of in
    let all : length reports ≤ c.loop-file.file-index = omega (arith, c.loop-file-test.false, many, long) in
    subst (λ (rs : List Report). AreNoticesFrom inventory c.args.self.now.first (before ++ map history.FileReady rs) c.loop-file.self.notices.items)
    (take_all c.loop-file.file-index reports all) (c.loop-file.invariant.told before reports are of)
