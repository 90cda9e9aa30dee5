use Rattle.std.proofs.Common.{◌≡◌, ◌∙◌, ◌++◌, List, ℕ, [], ◌∷◌, Some, sym, ap, subst, cond}
use Rattle.pm_history.specs.declared.entry.Side.TheVariants.{Job}
use Rattle.pm_history.specs.Standing as history
use Rattle.pm_history.specs.Terms.{Terms}
use Rattle.pm_history.specs.Files.{Report, file_of}
use Rattle.pm_asked.specs.Asked.{terms_of}
use Rattle.pm_close.specs.Files.{report_with}
use Rattle.pm_close.proofs.FileLemmas.{due-is-file}
use Rattle.pm_ready.specs.Due.{GivesFiles}
use Rattle.pm_ready.specs.Whole.{IsWhole}
use Rattle.pm_ready.proofs.DueLemmas.{whole}
use Rattle.pm_ready.proofs.due.due_file.Goals as goal

pub returns : goal.returns
returns c =
    λ h s end keeps body moment stand.
    let inventory = c.args.inventory.now in
    let job = c.args.job.now in
    let begin = c.args.due.now.begin in
    let parts = c.args.earlier.now ++ c.args.due.now.parts.items in
    let of : List ℕ → Terms = λ b. terms_of inventory Job b in
    let is = whole (terms_of inventory) h (history.making_of Job job.id s) (of s.body) end c.args.earlier.now c.args.due.now stand c.if-not-due.false moment in
    let due = due-is-file (terms_of inventory) h job.id s end c.args.earlier.now c.args.due.now stand in
    let one : file_of (terms_of inventory) h job.id end (Some s) ≡ report_with job.id (of job.body) begin parts ∷ [] =
    due ∙ ap (λ b. cond b (report_with job.id (of s.body) begin parts ∷ []) []) c.if-not-due.false ∙ ap (λ b. report_with job.id (of b) begin parts ∷ []) body in
    let own = subst (λ (b : List ℕ). IsWhole (of b) begin parts) body is in
    let file = rw c.deref.ensures.value at c.whole_file.ensures in
    subst (λ (rs : List Report). GivesFiles inventory rs c.whole_file.result) (sym one) (file keeps own)
