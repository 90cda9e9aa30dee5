-- The compact text of a value's tree reads back as the tree.
use Rattle.std.proofs.Common.{◌≡◌, ℕ, suc, ◌^◌, ◌<◌, ◌≤◌, ◌&&◌, Bool, true, false, List, [], ◌∷◌, Option, Some, None, refl, sym, ap, ◌∙◌, arith, append-nil, nat_le, decimal}
use Rattle.std.specs.Prelude.{option_and_then}
use Rattle.std.proofs.lemmas.Bool.{leb-true}
use Rattle.json.specs.Json as json
use Rattle.json.specs.Lex.{tokens}
use Rattle.json.specs.Print.{print}
use Rattle.json.specs.Token.{Token}
use Rattle.json.specs.Tree as tree
use Rattle.json.proofs.Printed.Trees.{value-json_tokens}
use Rattle.serde_json.specs.Data.{Data, unsigned}
use Rattle.serde_json.specs.Read.{read, max_depth, number_of, of_json, of_items}
use Rattle.serde_json.specs.Written.{outline, items_outline, compact_text}
use Rattle.serde_json.proofs.Numbers.{number_of-decimal}
use Rattle.serde_json.proofs.Texts.{print-outline}
use Rattle.pm_form.specs.declared.refusal.Refusal.{Refusal}
use Rattle.pm_form.specs.Form.{Form, tested, mapped}
use Rattle.pm_form.specs.Values.{text, fixed, flag, whole, whole_or_null, or_null_tree, or_null_fits}
use Rattle.pm_form.specs.Lists.{list_of, items_tree, each_fits}

-- The trees of a form, written and read, are the same, and nest at most so deep.
pub record IsKept {A : Type 0} (form : Form A) (levels : ℕ) : Type 0 where
  pub same : (a : A) → form.fits a ≡ true → of_json (outline (form.tree a)) ≡ Some (form.tree a)
  pub shallow : (a : A) → tree.depth (outline (form.tree a)) ≤ levels

both : (a b : Bool) → (a && b) ≡ true → (a ≡ true) × (b ≡ true)
both true b h = (refl, h)
both false b h = cc

small : (n most : ℕ) → most < 2 ^ 64 → nat_le n most ≡ true → number_of (decimal n) ≡ Some (unsigned n)
small n most room h = let le = leb-true n most h in number_of-decimal n (omega (arith, le, room))

pub text_kept : (test : List ℕ → Bool) → IsKept (text test) 0
text_kept test = record { same = λ s fits. refl; shallow = λ s. omega arith }

pub fixed_kept : (word : List ℕ) → IsKept (fixed word) 0
fixed_kept word = record { same = λ u fits. refl; shallow = λ u. omega arith }

pub flag_kept : IsKept flag 0
flag_kept = record { same = λ b fits. refl; shallow = λ b. omega arith }

pub whole_kept : (most : ℕ) → most < 2 ^ 64 → IsKept (whole most) 0
whole_kept most room = record { same = λ n fits. rw (small n most room fits) refl; shallow = λ n. omega arith }

pub whole_or_null_kept : (most : ℕ) → most < 2 ^ 64 → IsKept (whole_or_null most) 0
whole_or_null_kept most room = record { same = same; shallow = shallow }
  where
    same : (a : Option ℕ) → or_null_fits most a ≡ true → of_json (outline (or_null_tree a)) ≡ Some (or_null_tree a)
    same None fits = refl
    same (Some n) fits = rw (small n most room fits) refl

    shallow : (a : Option ℕ) → tree.depth (outline (or_null_tree a)) ≤ 0
    shallow None = omega arith
    shallow (Some n) = omega arith

pub list_kept : {A : Type 0} (form : Form A) (levels : ℕ) → IsKept form levels → IsKept (list_of form) (suc levels)
list_kept form levels kept = record { same = λ xs fits. rw (same xs fits) refl; shallow = λ xs. let h = shallow xs in omega (arith, h) }
  where
    same : (xs : List _) → each_fits form.fits xs ≡ true → of_items (items_outline (items_tree form.tree xs)) ≡ Some (items_tree form.tree xs)
    same [] fits = refl
    same (x ∷ xs) fits = let p = both (form.fits x) _ fits in rw (kept.same x p.0, same xs p.1) refl

    shallow : (xs : List _) → tree.items_depth (items_outline (items_tree form.tree xs)) ≤ levels
    shallow [] = omega arith
    shallow (x ∷ xs) = let h = shallow xs in let k = kept.shallow x in omega (arith, h, k)

pub mapped_kept : {A B : Type 0} (there : A → B) (back : B → A) (form : Form A) (levels : ℕ) → IsKept form levels → IsKept (mapped there back form) levels
mapped_kept there back form levels kept = record { same = λ b fits. kept.same (back b) fits; shallow = λ b. kept.shallow (back b) }

pub tested_kept : {A : Type 0} (refusal : Refusal) (test : A → Bool) (form : Form A) (levels : ℕ) → IsKept form levels → IsKept (tested refusal test form) levels
tested_kept refusal test form levels kept = record { same = λ a fits. kept.same a (both (form.fits a) (test a) fits).0; shallow = kept.shallow }

abbrev closed : Option (json.Json × List Token) → Option Data
closed o = option_and_then of_json (option_and_then (λ p. json.if_last p.0 p.1) o)

pub compact_back : {A : Type 0} (form : Form A) (levels : ℕ) → levels ≤ 127 → IsKept form levels → (a : A) → form.fits a ≡ true
    → tokens (print (tree.json_tokens (outline (form.tree a)))) ≡ tree.json_tokens (outline (form.tree a))
    → read (compact_text (form.tree a)) ≡ Some (form.tree a)
compact_back form levels room kept a fits same =
    let d = form.tree a in
    let deep : tree.depth (outline d) ≤ 127 = let k = kept.shallow a in omega (arith, k, room) in
    ap read (sym (print-outline d))
    ∙ ap closed (ap (json.value max_depth) (same ∙ sym (append-nil _)) ∙ value-json_tokens (outline d) max_depth [] deep)
    ∙ kept.same a fits
