use Rattle.std.proofs.Common.{◌≡◌, ◌≤◌, ◌*◌, ℕ, ◌++◌, List, map, take, drop, length, eqb, sym, ap, subst, ◌∙◌, append_assoc}
use Rattle.std.specs.List.{AllByRecursion}
use Rattle.std.proofs.lemmas.List.{drop-map, take-map}
use Rattle.std.proofs.lemmas.List.Sums.{prefix_len-le-length}
use Rattle.pm_history.specs.Files.{files_at}
use Rattle.pm_history.specs.Notices as history
use Rattle.pm_asked.specs.Asked.{terms_of}
use Rattle.pm_jobs.specs.State.{ids}
use Rattle.pm_close.specs.MonitorPlans.{all_told}
use Rattle.pm_ready.specs.declared.ready.ReadyFile.{ReadyFile}
use Rattle.pm_ready.specs.Files.{AreFilesOf, file_of}
use Rattle.pm_notify.specs.Notices.{AreNoticesFrom}
use Rattle.pm_notify.specs.Tellable.{IsTellable}
use Rattle.pm_notify.proofs.ToldLemmas.{files-front, files-back}
use Rattle.pm_notify.proofs.EndLemmas.{files-end, front-count}
use Rattle.pm_notify.proofs.ends.add_end.Goals as goal

pub returns-clause-within : goal.returns-clause-within
returns-clause-within c =
    subst (λ (n : ℕ). n ≤ length c.args.files.now) (sym c.count_ready-count.ensures)
    (prefix_len-le-length (λ (f : ReadyFile). eqb f.info.ready (60 * c.args.end)) c.args.files.now)

pub returns-clause-left : goal.returns-clause-left
returns-clause-left c =
    λ h later is.
    let inventory = c.args.inventory.now in
    let here = files_at (terms_of inventory) h c.args.end in
    let files = c.args.files.now in
    let count : c.count_ready-count.result ≡ length here =
    c.count_ready-count.ensures ∙ front-count inventory c.args.end here later files (files-end (terms_of inventory) h c.args.end) is.others is.front in
    let back = files-back inventory here later (map file_of files) is.front in
    subst (AreFilesOf inventory later) (ap (λ (n : ℕ). drop n (map file_of files)) (sym count) ∙ drop-map file_of c.count_ready-count.result files) back

pub returns-clause-told : goal.returns-clause-told
returns-clause-told c =
    λ h later before is are.
    let inventory = c.args.inventory.now in
    let end = c.args.end in
    let here = files_at (terms_of inventory) h end in
    let crossed = history.crossings_at (terms_of inventory) h end in
    let files = c.args.files.now in
    let count : c.count_ready-count.result ≡ length here =
    c.count_ready-count.ensures ∙ front-count inventory end here later files (files-end (terms_of inventory) h end) is.others is.front in
    let front : AreFilesOf inventory here (map file_of (take c.count_ready-count.result files)) =
    subst (AreFilesOf inventory here) (ap (λ (n : ℕ). take n (map file_of files)) (sym count) ∙ take-map file_of c.count_ready-count.result files)
    (files-front inventory here later (map file_of files) is.front) in
    let first = c.in_ok-add_files.ensures.first in
    let told = before ++ map history.FileReady here in
    let done = subst (λ (n : ℕ). AreNoticesFrom inventory n told c.add_files.new.self.notices.items) (sym first)
    (c.in_ok-add_files.ensures.told before here are front) in
    let same : all_told (ids c.args.jobs.now.monitors) end c.deref.result.now ≡ crossed =
    ap (all_told (ids c.args.jobs.now.monitors) end) c.deref.ensures.value ∙ is.crossed in
    let both = c.in_ok-add_crossings.ensures.told told done (subst (AllByRecursion (IsTellable inventory)) (sym same) is.tellable) in
    subst (λ (n : ℕ). AreNoticesFrom inventory n (before ++ history.notices_at (terms_of inventory) h end) c.add_crossings.new.self.notices.items) first
    (subst (λ (ns : List history.Notice). AreNoticesFrom inventory c.add_files.new.self.first ns c.add_crossings.new.self.notices.items)
    ((λ i. told ++ map history.Crossing (same i)) ∙ append_assoc before (map history.FileReady here) (map history.Crossing crossed)) both)
