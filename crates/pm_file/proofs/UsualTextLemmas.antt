-- A text whose tokens are those of a value's tree, and nothing after them.
use Rattle.std.proofs.Common.{◌≡◌, ℕ, ◌≤◌, true, false, List, [], Option, Ok, Some, None, MatchOption, is_some, sym, ap, ◌∙◌, arith, lit≤}
use Rattle.std.specs.Prelude.{option_and_then}
use Rattle.std.specs.Str.{IsUtf8}
use Rattle.json.specs.Json as json
use Rattle.json.specs.Lex.{tokens}
use Rattle.json.specs.Token.{Token}
use Rattle.json.specs.Tree as tree
use Rattle.json.proofs.Printed.Trees.{value-json_tokens}
use Rattle.serde_json.specs.Data.{Data}
use Rattle.serde_json.specs.Read.{read, max_depth, of_json}
use Rattle.serde_json.specs.Written.{outline}
use Rattle.pm_form.specs.Form.{Form, Read, then_read, json_of, text_says}
use Rattle.pm_form.proofs.KeptLemmas.{IsKept}
use Rattle.pm_form.proofs.ReadLemmas.{json_of_read}
use Rattle.pm_file.specs.Content.{ReportContent}
use Rattle.pm_file.specs.Agreement.{report_agrees}
use Rattle.pm_file.specs.ReportForm.{body_form, report_form}
use Rattle.pm_file.specs.Permitted.{is_permitted}
use Rattle.pm_file.specs.Usual.{Leads}
use Rattle.pm_file.proofs.ExactLemmas.{report_exact}
use Rattle.pm_file.proofs.KeptLemmas.{body_kept}
use Rattle.pm_file.proofs.UsualLemmas.{and}

abbrev closed : Option (json.Json × List Token) → Option Data
closed o = option_and_then of_json (option_and_then (λ p. json.if_last p.0 p.1) o)

usual_read : {A : Type 0} (form : Form A) (levels : ℕ) → levels ≤ 127 → IsKept form levels → (a : A) (bytes : List ℕ)
    → Leads form a (tokens bytes) [] → read bytes ≡ Some (form.tree a)
usual_read form levels room kept a bytes leads =
    let d = form.tree a in
    let deep : tree.depth (outline d) ≤ 127 = let k = kept.shallow a in omega (arith, k, room) in
    ap closed (ap (json.value max_depth) leads.first ∙ value-json_tokens (outline d) max_depth [] deep) ∙ kept.same a leads.fits

-- the tree of such a text
pub usual_tree : (r : ReportContent) (bytes : List ℕ) (reader rest : List Token) → IsUtf8 bytes → reader ≡ tokens bytes
    → rest ≡ []
    → Leads body_form r reader rest → json_of bytes ≡ Ok (body_form.tree r)
usual_tree r bytes reader rest utf8 is end leads =
    json_of_read bytes (body_form.tree r) utf8 (usual_read body_form 8 (lit≤ tt) body_kept r bytes (rw (is, end) at leads))

-- what is read and agrees is permitted
pub permitted_usual : (r : ReportContent) → body_form.fits r ≡ true → true ≡ report_agrees r → is_permitted r ≡ true
unfolding is_permitted report_form
permitted_usual r fits agrees = and (body_form.fits r) (report_agrees r) fits (sym agrees)

fits_of : (r : ReportContent) → is_permitted r ≡ true → report_form.fits r ≡ true
unfolding is_permitted
fits_of r e = e

-- the tree of a permitted report says the report
pub usual_says : (r : ReportContent) (bytes : List ℕ) → json_of bytes ≡ Ok (body_form.tree r) → is_permitted r ≡ true
    → text_says report_form bytes ≡ Ok r
unfolding report_form
usual_says r bytes is permitted =
    let then : Read Data → Read ReportContent = λ d. then_read d report_form.reads in
    ap then is ∙ report_exact.back r (fits_of r permitted)

-- no token is left
pub none_left : {T : Type 0} (r : Option T) (A : Type 0) (B : T → Type 0) {old : List Token} → false ≡ is_some r
    → MatchOption r ((old ≡ []) × A) B → old ≡ []
none_left None A B none is = is.0
none_left (Some t) A B none is = cc
