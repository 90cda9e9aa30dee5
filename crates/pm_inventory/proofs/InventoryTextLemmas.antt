-- The lines of a text, one after the other.
use Rattle.std.proofs.Common.{◌≡◌, ◌+◌, ℕ, zero, suc, List, [], ◌∷◌, ◌++◌, take, map, codes, Some, sym, ◌∙◌, ap, append_assoc, arith}
use Rattle.std.specs.List.{slice_get}
use Rattle.std.proofs.lemmas.List.{append-nil}
use Rattle.std.proofs.lemmas.Grind.{flat_map-append}
use Rattle.pm_base.specs.WholeLines.{text_of_lines}
use Rattle.pm_inventory.specs.Inventory.{end_line}

-- one more line
lines-more : {X : Type 0} (line : X → List ℕ) (xs : List X) (i : ℕ) (x : X) → slice_get xs i ≡ Some x → text_of_lines (map line (take (suc i) xs)) ≡ text_of_lines (map line (take i xs)) ++ (line x ++ 10 ∷ [])
lines-more line [] i x is = cc
lines-more line (y ∷ ys) zero x is =
    let same : y ≡ x = cc in
    append-nil (line y ++ 10 ∷ []) ∙ ap (λ z. line z ++ 10 ∷ []) same
lines-more line (y ∷ ys) (suc i) x is =
    ap (λ t. (line y ++ 10 ∷ []) ++ t) (lines-more line ys i x is)
    ∙ sym (append_assoc (line y ++ 10 ∷ []) (text_of_lines (map line (take i ys))) (line x ++ 10 ∷ []))

pub line-written : {X : Type 0} (line : X → List ℕ) (xs : List X) (i : ℕ) (x : X) (old now next : List ℕ) → slice_get xs i ≡ Some x → now ≡ old ++ text_of_lines (map line (take i xs)) → next ≡ now ++ (line x ++ 10 ∷ []) → next ≡ old ++ text_of_lines (map line (take (i + 1) xs))
line-written line xs i x old now next is before written =
    let step : suc i ≡ i + 1 = omega arith in
    written
    ∙ ap (λ t. t ++ (line x ++ 10 ∷ [])) before
    ∙ append_assoc old (text_of_lines (map line (take i xs))) (line x ++ 10 ∷ [])
    ∙ ap (λ t. old ++ t) (sym (lines-more line xs i x is))
    ∙ ap (λ k. old ++ text_of_lines (map line (take k xs))) step

-- the lines of objects, of measurements and of the end
pub whole-text : (objects measures : List (List ℕ)) → text_of_lines ((objects ++ measures) ++ end_line ∷ []) ≡ (text_of_lines objects ++ text_of_lines measures) ++ codes "end\n"
whole-text objects measures =
    flat_map-append (λ line. line ++ 10 ∷ []) (objects ++ measures) (end_line ∷ [])
    ∙ ap (λ t. t ++ codes "end\n") (flat_map-append (λ line. line ++ 10 ∷ []) objects measures)
