use Rattle.std.proofs.Common.{rules, ◌≡◌, ◌++◌, ◌≤◌, List, ℕ, [], sym, subst, ap, ◌∙◌, lit≤}
use Rattle.std.specs.Str.{IsUtf8}
use Rattle.json.specs.Print.{print}
use Rattle.json.specs.Tree.{json_tokens}
use Rattle.serde_json.specs.Written.{outline, compact_text}
use Rattle.serde_json.proofs.Texts.{print-outline}
use Rattle.pm_notice.specs.NoticeForm.{crossing_form}
use Rattle.pm_notice.specs.NoticeContent.{crossing_of}
use Rattle.pm_notice.proofs.NoticeLemmas.{crossing_exact}
use Rattle.pm_notice.proofs.KeptLemmas.{crossing_kept, crossing_fits, says_back}
use Rattle.pm_notice.proofs.write.crossing_notice.Goals as goal

pub returns-clause-text : goal.returns-clause-text
returns-clause-text c =
    let d = crossing_form.tree (crossing_of c.args.number c.args.crossing.now) in
    let tokens : c.write_crossing.new.out.tokens ≡ json_tokens (outline d) = rw c.new-out.ensures.tokens at c.in_ok-write_crossing.ensures.ok in
    let before : c.write_crossing.new.out.before ≡ [] = c.in_ok-write_crossing.ensures.before ∙ c.new-out.ensures.before ∙ c.new.ensures.items in
    c.from_vec.ensures ∙ c.into_inner.ensures.items ∙ rw (before, tokens) (print-outline d)

pub returns-clause-back : goal.returns-clause-back
returns-clause-back c =
    let x = c.args.crossing.now in
    let r = crossing_of c.args.number x in
    let d = crossing_form.tree r in
    let tokens : c.write_crossing.new.out.tokens ≡ json_tokens (outline d) = rw c.new-out.ensures.tokens at c.in_ok-write_crossing.ensures.ok in
    let before : c.write_crossing.new.out.before ≡ [] = c.in_ok-write_crossing.ensures.before ∙ c.new-out.ensures.before ∙ c.new.ensures.items in
    let items = c.from_vec.ensures ∙ c.into_inner.ensures.items ∙ ap (λ (b : List ℕ). b ++ print c.write_crossing.new.out.tokens) before in
    let text : c.from_vec.result ≡ compact_text d = items ∙ rw tokens (print-outline d) in
    let n : c.args.number ≤ 18446744073709551615 = search rules in
    let h : x.hysteresis ≤ 18446744073709551615 = search rules in
    let v : x.value ≤ 18446744073709551615 = search rules in
    let t : x.threshold ≤ 18446744073709551615 = search rules in
    says_back crossing_form 1 (lit≤ tt) crossing_kept crossing_exact r c.from_vec.result (crossing_fits c.args.number x c.requires n h v t) text
    (subst IsUtf8 (sym items) c.into_inner.ensures.utf8) (rw tokens at c.into_inner.ensures.reads_back)
