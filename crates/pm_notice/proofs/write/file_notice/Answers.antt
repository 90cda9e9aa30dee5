use Rattle.std.proofs.Common.{rules, ◌≡◌, ◌++◌, ◌≤◌, List, ℕ, [], sym, subst, ap, ◌∙◌, lit≤}
use Rattle.std.specs.Str.{IsUtf8}
use Rattle.json.specs.Print.{print}
use Rattle.json.specs.Tree.{json_tokens}
use Rattle.serde_json.specs.Written.{outline, compact_text}
use Rattle.serde_json.proofs.Texts.{print-outline}
use Rattle.pm_notice.specs.NoticeForm.{listed_form, file_ready_form}
use Rattle.pm_notice.specs.NoticeContent.{file_ready_of}
use Rattle.pm_notice.proofs.NoticeLemmas.{file_ready_exact}
use Rattle.pm_notice.proofs.KeptLemmas.{file_ready_kept, file_ready_fits, says_back}
use Rattle.pm_notice.proofs.write.file_notice.Goals as goal

pub returns-clause-text : goal.returns-clause-text
unfolding file_ready_form listed_form
returns-clause-text c =
    let d = file_ready_form.tree (file_ready_of c.args.number c.args.file.now c.args.element.now) in
    let tokens : c.write_file_ready.new.out.tokens ≡ json_tokens (outline d) = rw c.new-out.ensures.tokens at c.in_ok-write_file_ready.ensures.ok in
    let before : c.write_file_ready.new.out.before ≡ [] = c.in_ok-write_file_ready.ensures.before ∙ c.new-out.ensures.before ∙ c.new.ensures.items in
    c.from_vec.ensures ∙ c.into_inner.ensures.items ∙ rw (before, tokens) (print-outline d)

pub returns-clause-back : goal.returns-clause-back
unfolding file_ready_form listed_form
returns-clause-back c =
    let x = c.args.file.now in
    let r = file_ready_of c.args.number x c.args.element.now in
    let d = file_ready_form.tree r in
    let tokens : c.write_file_ready.new.out.tokens ≡ json_tokens (outline d) = rw c.new-out.ensures.tokens at c.in_ok-write_file_ready.ensures.ok in
    let before : c.write_file_ready.new.out.before ≡ [] = c.in_ok-write_file_ready.ensures.before ∙ c.new-out.ensures.before ∙ c.new.ensures.items in
    let items = c.from_vec.ensures ∙ c.into_inner.ensures.items ∙ ap (λ (b : List ℕ). b ++ print c.write_file_ready.new.out.tokens) before in
    let text : c.from_vec.result ≡ compact_text d = items ∙ rw tokens (print-outline d) in
    let n : c.args.number ≤ 18446744073709551615 = search rules in
    says_back file_ready_form 3 (lit≤ tt) file_ready_kept file_ready_exact r c.from_vec.result (file_ready_fits c.args.number x c.args.element.now c.requires.file c.requires.element n) text
    (subst IsUtf8 (sym items) c.into_inner.ensures.utf8) (rw tokens at c.into_inner.ensures.reads_back)
