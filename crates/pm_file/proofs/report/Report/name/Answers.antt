use Rattle.std.proofs.Common.{◌≡◌, List, ℕ, sym, subst, ◌∙◌}
use Rattle.std.specs.Prelude.{IfOk}
use Rattle.pm_name.specs.FileName.{FileNameParts, IsFileName, IsNameable}
use Rattle.pm_file.specs.Says.{content_of}
use Rattle.pm_file.proofs.NameLemmas.{nameable, long_sender, name_same}
use Rattle.pm_file.proofs.report.Report.name.Goals as goal

pub element_id-requires : goal.element_id-requires
element_id-requires c =
    rw c.as_bytes-2.ensures.value (long_sender (content_of c.args.self.now) c.args.self.now.permitted)

pub new-requires : goal.new-requires
new-requires c =
    let r = c.args.self.now in
    let same = name_same r c.len.result c.of_period-kind.result c.in_ok-job.job c.in_ok-unique.unique c.len.ensures c.of_period-kind.ensures
    (c.in_ok-job.ensures ∙ c.as_bytes.ensures.value) (rw c.as_bytes-2.ensures.value at (c.in_ok-unique.ensures ∙ c.element_id.ensures.id)) in
    subst IsNameable (sym same) (nameable (content_of r) r.permitted)

pub returns-clause-text : goal.returns-clause-text
returns-clause-text c =
    let r = c.args.self.now in
    let same = name_same r c.len.result c.of_period-kind.result c.in_ok-job.job c.in_ok-unique.unique c.len.ensures c.of_period-kind.ensures
    (c.in_ok-job.ensures ∙ c.as_bytes.ensures.value) (rw c.as_bytes-2.ensures.value at (c.in_ok-unique.ensures ∙ c.element_id.ensures.id)) in
    let P : FileNameParts → Type 0 = λ n. IfOk c.write-2.result (λ text. IsFileName text n) in
    subst P (c.new.ensures ∙ same) c.write-2.ensures.text

pub returns-clause-only : goal.returns-clause-only
returns-clause-only c =
    let r = c.args.self.now in
    let same = name_same r c.len.result c.of_period-kind.result c.in_ok-job.job c.in_ok-unique.unique c.len.ensures c.of_period-kind.ensures
    (c.in_ok-job.ensures ∙ c.as_bytes.ensures.value) (rw c.as_bytes-2.ensures.value at (c.in_ok-unique.ensures ∙ c.element_id.ensures.id)) in
    let P : FileNameParts → Type 0 = λ n. IfOk c.write-2.result (λ text. (bytes : List ℕ) → IsFileName bytes n → bytes ≡ text) in
    subst P (c.new.ensures ∙ same) c.write-2.ensures.only
