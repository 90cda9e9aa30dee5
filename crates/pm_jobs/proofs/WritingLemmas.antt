-- The lists of a body, as they are written, and the text of a tree.
use Rattle.std.proofs.Common.{◌≡◌, ◌++◌, ℕ, List, [], ◌∷◌, ◌∙◌, ap, refl}
use Rattle.json.specs.Print.{print}
use Rattle.json.specs.Tree.{json_tokens}
use Rattle.json.specs.Written.{Written}
use Rattle.serde_json.specs.Data.{Data, string, item}
use Rattle.serde_json.specs.Written.{outline, compact_text}
use Rattle.serde_json.proofs.Texts.{print-outline}
use Rattle.pm_asked.specs.Body.{Threshold, text_items, threshold_tree, threshold_items}
use Rattle.pm_form.specs.Lists.{items_tree}

pub text_items-tree : (ts : List (List ℕ)) → items_tree string ts ≡ text_items ts
text_items-tree [] = refl
text_items-tree (t ∷ ts) = ap (item (string t)) (text_items-tree ts)

pub threshold_items-tree : (ts : List Threshold) → items_tree threshold_tree ts ≡ threshold_items ts
threshold_items-tree [] = refl
threshold_items-tree (t ∷ ts) = ap (item (threshold_tree t)) (threshold_items-tree ts)

-- What is written into an empty buffer, and taken out.
pub printed : (d : Data) (empty : List ℕ) (first last : Written) (bytes text : List ℕ) → empty ≡ [] → first.before ≡ empty → first.tokens ≡ []
    → last.tokens ≡ first.tokens ++ json_tokens (outline d) → last.before ≡ first.before → bytes ≡ last.before ++ print last.tokens → text ≡ bytes
    → text ≡ compact_text d
printed d empty first last bytes text is before tokens written kept taken same =
    let all : last.tokens ≡ json_tokens (outline d) = written ∙ ap (λ ts. ts ++ json_tokens (outline d)) tokens in
    let none : last.before ≡ [] = kept ∙ before ∙ is in
    same ∙ taken ∙ rw (none, all) (print-outline d)

pub is_all : (d : Data) (first last : Written) → first.tokens ≡ [] → last.tokens ≡ first.tokens ++ json_tokens (outline d) → last.tokens ≡ json_tokens (outline d)
is_all d first last none written = written ∙ ap (λ ts. ts ++ json_tokens (outline d)) none
