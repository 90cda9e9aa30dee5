use Rattle.std.proofs.Common.{◌≡◌, ◌+◌, ◌-◌, ℕ, List, map, take, drop, length, length-drop, sym, ap, subst, ◌∙◌, arith}
use Rattle.std.proofs.lemmas.List.{drop-drop}
use Rattle.pm_history.specs.History.{History}
use Rattle.pm_history.specs.Ticks.{behind}
use Rattle.pm_history.specs.Files.{files_at}
use Rattle.pm_history.specs.Notices as history
use Rattle.pm_asked.specs.Asked.{terms_of}
use Rattle.pm_close.specs.declared.open_monitors_tick.EndCrossings.{EndCrossings}
use Rattle.pm_ready.specs.declared.ready.ReadyFile.{ReadyFile}
use Rattle.pm_ready.specs.Files.{AreFilesOf, file_of}
use Rattle.pm_notify.specs.Notices.{AreNoticesFrom}
use Rattle.pm_notify.specs.Ends.{IsEnd, AreEnds}
use Rattle.pm_notify.proofs.ToldLemmas.{rest_all}
use Rattle.pm_notify.proofs.EndLemmas.{behind-back, end-at}
use Rattle.pm_notify.proofs.ends.notices_of_ends.Goals as goal

pub loop-k-preserved : goal.loop-k-preserved
loop-k-preserved c =
    let inventory = c.args.inventory.now in
    let jobs = c.args.jobs.now in
    let files = c.args.files.now in
    let crossings = c.args.crossings.now in
    let from = c.args.from in
    let k = c.loop-k.k in
    let next = c.loop-k.next in
    let was = c.loop-k.invariant in
    let before = was.within in
    let count = c.in_ok-next.field-0 in
    let one = c.index-crossings-k.result in
    let rest : take (length files - next) (drop next files) ≡ drop next files = rest_all next files in
    let few = c.in_ok-next.ensures.within in
    let long = ap length rest ∙ length-drop next files in
    let m = length crossings - (k + 1) in
    let is_end : (h : History) → AreEnds inventory jobs h from files crossings
    → IsEnd inventory jobs h (from + k + 1) (behind (files_at (terms_of inventory) h) (from + k + 1) m) (take (length files - next) (drop next files)) one =
    λ h ends.
    let later = behind (files_at (terms_of inventory) h) (from + k + 1) m in
    subst (λ (fs : List ReadyFile). IsEnd inventory jobs h (from + k + 1) later fs one) (sym rest)
    (subst (λ (e : EndCrossings). IsEnd inventory jobs h (from + k + 1) later (drop next files) e) (sym c.index-crossings-k.is)
    (end-at inventory jobs h from k next files crossings one c.loop-k-test.true ends (was.left h ends))) in
    record {
      first = c.in_ok-next.ensures.first ∙ was.first;
      within = omega (arith, few, long, before);
      told = λ h ends.
          let said = history.notices_at (terms_of inventory) h in
          let later = behind (files_at (terms_of inventory) h) (from + k + 1) m in
          let done = subst (λ (n : ℕ). AreNoticesFrom inventory n (behind said from k) c.loop-k.added.notices.items) (sym was.first) (was.told h ends) in
          subst (λ (n : ℕ). AreNoticesFrom inventory n (behind said from (k + 1)) c.add_end.new.added.notices.items) was.first
          (subst (λ (ns : List history.Notice). AreNoticesFrom inventory c.loop-k.added.first ns c.add_end.new.added.notices.items)
          (behind-back said from k) (c.in_ok-next.ensures.told h later (behind said from k) (is_end h ends) done));
      left = λ h ends.
          let later = behind (files_at (terms_of inventory) h) (from + k + 1) m in
          let at : from + k + 1 ≡ from + (k + 1) = omega arith in
          subst (λ (t : ℕ). AreFilesOf inventory (behind (files_at (terms_of inventory) h) t m) (map file_of (drop (next + count) files))) at
          (subst (λ (fs : List ReadyFile). AreFilesOf inventory later (map file_of fs)) (ap (drop count) rest ∙ drop-drop count next files)
          (c.in_ok-next.ensures.left h later (is_end h ends)));
    }
