-- What was read, and the report that is made of it.
use Rattle.std.proofs.Common.{◌≡◌, ℕ, ◌+◌, ◌-◌, ◌<◌, ◌&&◌, Bool, true, false, List, [], ◌∷◌, length, map, refl, ap, ap₂, ◌∙◌, arith, eqb}
use Rattle.std.specs.Prelude.{Ok}
use Rattle.std.specs.List.{list_all}
use Rattle.std.proofs.lemmas.Bool.Decides.{nat_tests}
use Rattle.serde_json.specs.Data.{Data}
use Rattle.pm_file.specs.Content.{PartContent, ReportContent}
use Rattle.pm_file.specs.Agreement.{is_some_list, classes_rise, group_agrees, part_agrees, parts_follow, first_granularity, is_file_span, report_agrees}
use Rattle.pm_file.specs.ReportForm.{body_form, report_form}
use Rattle.pm_file.specs.Permitted.{is_permitted}
use Rattle.pm_file.specs.Report.{group_content, part_content, report_content}
use Rattle.pm_file.specs.Reading.{read_part_content}
use Rattle.pm_file.specs.Body.{body_content}
use Rattle.pm_file.specs.declared.report.Part.{Part}
use Rattle.pm_file.specs.declared.report.Group.{Group}
use Rattle.pm_file.specs.declared.read.ReadPart.{ReadPart}
use Rattle.pm_file.specs.declared.body.ReadReport.{ReadReport}
use Rattle.pm_file.proofs.ExactLemmas.{body_exact}

both : (a b : Bool) → (a && b) ≡ true → (a ≡ true) × (b ≡ true)
both true b h = (refl, h)
both false b h = cc

equal : (x y : ℕ) → eqb x y ≡ true → x ≡ y
equal x y e = grind (arith, nat_tests)

-- fewer than two classes rise
pub rises_short : (gs : List Group) → length gs < 2 → classes_rise (map group_content gs) ≡ true
rises_short [] lt = refl
rises_short (g ∷ []) lt = refl
rises_short (g ∷ h ∷ gs) lt = absurd (omega arith)

-- a part's granularity period is its length
same_part : (s : ℕ) (p : ReadPart) → part_agrees s (read_part_content p) ≡ true → part_content p.part ≡ read_part_content p
same_part s p e =
    let groups = map group_content p.part.groups.items in
    let a = both _ (list_all group_agrees groups) e in
    let b = both _ (classes_rise groups) a.0 in
    let c = both _ (is_some_list groups) b.0 in
    let d = both (eqb p.granularity s) (eqb (p.part.begin + s) p.part.end) c.0 in
    let g = equal p.granularity s d.0 in
    let l = equal (p.part.begin + s) p.part.end d.1 in
    let long : p.part.end - p.part.begin ≡ p.granularity = omega (arith, g, l) in
    let at : ℕ → PartContent = λ n. record { begin = p.part.begin; end = p.part.end; granularity = n; groups = groups } in
    ap at long

same_parts : (s : ℕ) (ps : List ReadPart) → list_all (part_agrees s) (map read_part_content ps) ≡ true
    → map part_content (map (λ p. p.part) ps) ≡ map read_part_content ps
same_parts s [] e = refl
same_parts s (p ∷ ps) e =
    let q = both (part_agrees s (read_part_content p)) _ e in
    let cons : PartContent → List PartContent → List PartContent = λ x xs. x ∷ xs in
    ap₂ cons (same_part s p q.0) (same_parts s ps q.1)

permitted_agrees : (r : ReportContent) → is_permitted r ≡ true → report_agrees r ≡ true
unfolding is_permitted report_form
permitted_agrees r e = (both (body_form.fits r) (report_agrees r) e).1

parts_agree : (r : ReportContent) → report_agrees r ≡ true → list_all (part_agrees (first_granularity r.parts)) r.parts ≡ true
parts_agree r e =
    let a = both _ (is_file_span (eqb (length r.parts) 1) r.begin r.end) e in
    let b = both _ (parts_follow r.begin r.end r.parts) a.0 in
    (both _ (list_all (part_agrees (first_granularity r.parts)) r.parts) b.0).1

-- the report of what was read says the same
pub body_same : (b : ReadReport) (parts : List Part) → is_permitted (body_content b) ≡ true → parts ≡ map (λ p. p.part) b.parts.items
    → report_content b.header.job b.header.sender b.header.begin b.end parts ≡ body_content b
body_same b parts permitted is =
    let r = body_content b in
    let same = ap (map part_content) is ∙ same_parts (first_granularity r.parts) b.parts.items (parts_agree r (permitted_agrees r permitted)) in
    let at : List PartContent → ReportContent = λ ps. record { job = r.job; sender = r.sender; begin = r.begin; end = r.end; parts = ps } in
    ap at same

-- what is read and agrees is permitted
pub permitted_of : (d : Data) (r : ReportContent) → body_form.reads d ≡ Ok r → true ≡ report_agrees r → is_permitted r ≡ true
unfolding is_permitted report_form
permitted_of d r is agrees = rw ((body_exact.only d r is).1, ← agrees) refl
