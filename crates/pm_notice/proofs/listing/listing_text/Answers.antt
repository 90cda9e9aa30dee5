use Rattle.std.proofs.Common.{◌≡◌, ◌++◌, List, ℕ, [], map, sym, subst, ap, ◌∙◌, lit≤}
use Rattle.std.specs.Str.{IsUtf8}
use Rattle.json.specs.Print.{print}
use Rattle.json.specs.Tree.{json_tokens}
use Rattle.serde_json.specs.Written.{outline, compact_text}
use Rattle.serde_json.proofs.Texts.{print-outline}
use Rattle.pm_notice.specs.NoticeForm.{listing_form}
use Rattle.pm_notice.specs.NoticeContent.{listed_of}
use Rattle.pm_notice.proofs.NoticeLemmas.{listing_exact}
use Rattle.pm_notice.proofs.KeptLemmas.{listing_kept, listing_fits, says_back}
use Rattle.pm_notice.proofs.listing.listing_text.Goals as goal

pub returns-clause-text : goal.returns-clause-text
unfolding listing_form
returns-clause-text c =
    let d = listing_form.tree (map listed_of c.args.files.now) in
    let tokens : c.write_listing.new.out.tokens ≡ json_tokens (outline d) = rw c.new-out.ensures.tokens at c.in_ok-write_listing.ensures.ok in
    let before : c.write_listing.new.out.before ≡ [] = c.in_ok-write_listing.ensures.before ∙ c.new-out.ensures.before ∙ c.new.ensures.items in
    c.from_vec.ensures ∙ c.into_inner.ensures.items ∙ rw (before, tokens) (print-outline d)

pub returns-clause-back : goal.returns-clause-back
unfolding listing_form
returns-clause-back c distinct =
    let files = map listed_of c.args.files.now in
    let d = listing_form.tree files in
    let tokens : c.write_listing.new.out.tokens ≡ json_tokens (outline d) = rw c.new-out.ensures.tokens at c.in_ok-write_listing.ensures.ok in
    let before : c.write_listing.new.out.before ≡ [] = c.in_ok-write_listing.ensures.before ∙ c.new-out.ensures.before ∙ c.new.ensures.items in
    let items = c.from_vec.ensures ∙ c.into_inner.ensures.items ∙ ap (λ (b : List ℕ). b ++ print c.write_listing.new.out.tokens) before in
    let text : c.from_vec.result ≡ compact_text d = items ∙ rw tokens (print-outline d) in
    says_back listing_form 3 (lit≤ tt) listing_kept listing_exact files c.from_vec.result (listing_fits c.args.files.now c.requires distinct) text
    (subst IsUtf8 (sym items) c.into_inner.ensures.utf8) (rw tokens at c.into_inner.ensures.reads_back)
