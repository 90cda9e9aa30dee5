use Rattle.std.proofs.Common.{◌≡◌, ◌++◌, ◌∷◌, drop, map}
use Rattle.json.specs.Token.{begin_array}
use Rattle.pm_form.proofs.WriteLemmas.{rest_tokens}
use Rattle.pm_notice.specs.NoticeForm.{listed_form}
use Rattle.pm_notice.specs.NoticeContent.{listed_of}
use Rattle.pm_notice.proofs.listing.write_files.Given as goal

abbrev pub invariant-loop-file : goal.invariant-loop-file
invariant-loop-file l =
    (l.fn.out.tokens ++ begin_array ∷ rest_tokens listed_form.tree (map listed_of l.files) ≡ l.out.tokens ++ rest_tokens listed_form.tree (map listed_of (drop l.file-index l.files)))
    × (l.out.before ≡ l.fn.out.before)
