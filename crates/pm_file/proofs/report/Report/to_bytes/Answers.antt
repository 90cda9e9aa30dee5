use Rattle.std.proofs.Common.{◌≡◌, ◌++◌, List, ℕ, [], sym, subst, ap, ◌∙◌}
use Rattle.std.specs.Str.{IsUtf8}
use Rattle.json.specs.Print.{print}
use Rattle.json.specs.Tree.{json_tokens}
use Rattle.serde_json.specs.Written.{outline, compact_text}
use Rattle.serde_json.proofs.Texts.{print-outline}
use Rattle.pm_file.specs.ReportForm.{report_form}
use Rattle.pm_file.specs.Says.{content_of}
use Rattle.pm_file.proofs.KeptLemmas.{text_back}
use Rattle.pm_file.proofs.report.Report.to_bytes.Goals as goal

pub returns-clause-text : goal.returns-clause-text
returns-clause-text c =
    let d = report_form.tree (content_of c.args.self.now) in
    let tokens : c.write_report.new.out.tokens ≡ json_tokens (outline d) = rw c.new-out.ensures.tokens at c.in_ok-write_report.ensures.ok in
    let before : c.write_report.new.out.before ≡ [] = c.in_ok-write_report.ensures.before ∙ c.new-out.ensures.before ∙ c.in_ok-buffer.ensures.items in
    c.from_vec.ensures ∙ c.into_inner.ensures.items ∙ rw (before, tokens) (print-outline d)

pub returns-clause-back : goal.returns-clause-back
returns-clause-back c =
    let r = content_of c.args.self.now in
    let d = report_form.tree r in
    let tokens : c.write_report.new.out.tokens ≡ json_tokens (outline d) = rw c.new-out.ensures.tokens at c.in_ok-write_report.ensures.ok in
    let before : c.write_report.new.out.before ≡ [] = c.in_ok-write_report.ensures.before ∙ c.new-out.ensures.before ∙ c.in_ok-buffer.ensures.items in
    let items = c.from_vec.ensures ∙ c.into_inner.ensures.items ∙ ap (λ (b : List ℕ). b ++ print c.write_report.new.out.tokens) before in
    let text : c.from_vec.result ≡ compact_text d = items ∙ rw tokens (print-outline d) in
    text_back r c.from_vec.result c.args.self.now.permitted text (subst IsUtf8 (sym items) c.into_inner.ensures.utf8)
    (rw tokens at c.into_inner.ensures.reads_back)
