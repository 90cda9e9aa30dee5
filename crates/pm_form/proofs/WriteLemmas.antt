-- The tokens of an array's items that are still to be written.
use Rattle.std.proofs.Common.{◌≡◌, ℕ, ◌<◌, ◌≤◌, ◌+◌, List, [], ◌∷◌, ◌++◌, length, map, drop, get_or, refl, sym, ap, ◌∙◌, Result, Ok, Err, OnOk, append_assoc, drop-cons, add-one}
use Rattle.std.proofs.Math.ListN.{drop_of_length-le}
use Rattle.json.specs.Token.{Token, end_array}
use Rattle.json.specs.Tree.{json_tokens, items_tokens}
use Rattle.serde_json.specs.Data.{Data}
use Rattle.serde_json.specs.Written.{outline, items_outline}
use Rattle.pm_form.specs.Lists.{items_tree}

abbrev pub rest_tokens : {A : Type 0} → (A → Data) → List A → List Token
rest_tokens tree xs = items_tokens (items_outline (items_tree tree xs))

-- one item is written
pub rest_step : {A B : Type 0} (tree : A → Data) (f : B → A) (xs : List B) (i : ℕ) (d : B) (old new : List Token) → i < length xs
    → new ≡ old ++ json_tokens (outline (tree (f (get_or xs i d))))
    → old ++ rest_tokens tree (map f (drop i xs)) ≡ new ++ rest_tokens tree (map f (drop (i + 1) xs))
rest_step tree f xs i d old new lt is =
    rw (drop-cons xs i d lt, add-one i, is) (sym (append_assoc old _ _))

pub rest_end : {A B : Type 0} (tree : A → Data) (f : B → A) (xs : List B) (i : ℕ) → length xs ≤ i → rest_tokens tree (map f (drop i xs)) ≡ end_array ∷ []
rest_end tree f xs i le = rw (drop_of_length-le xs le) refl

-- more is written
pub more : {t u : List Token} (old xs ys : List Token) → t ≡ old ++ xs → u ≡ t ++ ys → u ≡ old ++ (xs ++ ys)
more old xs ys first second = second ∙ ap (λ s. s ++ ys) first ∙ append_assoc old xs ys

pub on_ok : {T E P Q : Type 0} (r : Result T E) → (P → Q) → OnOk r P → OnOk r Q
on_ok (Ok x) f p = f p
on_ok (Err e) f p = tt
