-- A list that grows by one element at a time.
use Rattle.std.proofs.Common.{◌≡◌, ℕ, List, [], ◌∷◌, ◌++◌, map, sym, ◌∙◌, ap}
use Rattle.std.proofs.lemmas.List.{map-append}
use Rattle.pm_meas.specs.declared.def.Def.{Def}
use Rattle.pm_meas.specs.Def.{def_text}
use Rattle.pm_meas.specs.Catalogue.{Adds}
use Rattle.pm_meas.proofs.TextLemmas.{text_only}

pub grown : (old new known : List (List ℕ)) (x : List ℕ) → old ≡ known → new ≡ old ++ x ∷ [] → new ≡ known ++ x ∷ []
grown old new known x is more = more ∙ ap (λ l. l ++ x ∷ []) is

-- a line that adds a definition is its text
pub text-added : (old new : List Def) (line : List ℕ) → Adds old line new → map def_text new ≡ map def_text old ++ line ∷ []
text-added old new line adds =
    ap (λ l. map def_text l) adds.grown
    ∙ map-append def_text old (adds.def ∷ [])
    ∙ ap (λ t. map def_text old ++ t ∷ []) (sym (text_only line adds.def adds.read))
