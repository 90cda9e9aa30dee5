-- Lines taken from the front of bytes, one after the other.
use Rattle.std.proofs.Common.{◌≡◌, ◌⊎◌, ℕ, zero, suc, List, [], ◌∷◌, ◌++◌, length, inl, inr, refl, sym, ◌∙◌, ap, arith, append_assoc, length-append}
use Rattle.std.proofs.lemmas.List.{append-nil}
use Rattle.std.proofs.lemmas.Grind.{flat_map-append}
use Rattle.std.specs.List.{All}
use Rattle.pm_base.specs.Lines.{HasNoLineFeed, lines_of}
use Rattle.pm_outside.specs.Feed.{IsFirstLine}
use Rattle.pm_outside.proofs.LinesLemmas.{lines_of-next}
use Rattle.pm_base.specs.WholeLines.{text_of_lines}
use Rattle.pm_base.specs.WholeLines.{TakesLines}

-- No line was taken.
pub takes-none : (before : List ℕ) → TakesLines before [] before
takes-none before = record { lines = refl; ones = λ k d lt. absurd (omega (arith, lt)); split = inl refl }

-- one more element of which a fact holds
All-more : {A : Type 0} (P : A → Type 0) (xs : List A) (x : A) → All P xs → P x → All P (xs ++ x ∷ [])
All-more P [] x all last zero d lt = last
All-more P [] x all last (suc k) d lt = absurd (omega (arith, lt))
All-more P (y ∷ xs) x all last zero d lt = all 0 d (omega arith)
All-more P (y ∷ xs) x all last (suc k) d lt = All-more P xs x (λ j e less. all (suc j) e (omega (arith, less))) last k d (omega (arith, lt))

text-more : (taken : List (List ℕ)) (line : List ℕ) → text_of_lines (taken ++ line ∷ []) ≡ text_of_lines taken ++ (line ++ 10 ∷ [])
text-more taken line = flat_map-append (λ l. l ++ 10 ∷ []) taken (line ∷ []) ∙ ap (λ (t : List ℕ). text_of_lines taken ++ t) (append-nil (line ++ 10 ∷ []))

-- the bytes of lines, of one more, and of what is left
joined : (taken : List (List ℕ)) (line after : List ℕ) → text_of_lines taken ++ (line ++ 10 ∷ after) ≡ text_of_lines (taken ++ line ∷ []) ++ after
joined taken line after =
    sym (ap (λ (t : List ℕ). t ++ after) (text-more taken line) ∙ append_assoc (text_of_lines taken) (line ++ 10 ∷ []) after ∙ ap (λ (t : List ℕ). text_of_lines taken ++ t) (append_assoc line (10 ∷ []) after))

split-next : (before middle after line : List ℕ) (taken : List (List ℕ)) → TakesLines before taken middle → IsFirstLine middle line after → (before ≡ text_of_lines (taken ++ line ∷ []) ++ after) ⊎ ((before ++ 10 ∷ [] ≡ text_of_lines (taken ++ line ∷ [])) × (after ≡ []))
split-next before middle after line taken takes first = elim takes.split [
  | inl whole ↦ elim first.split [
    | inl at ↦ inl (whole ∙ ap (λ (m : List ℕ). text_of_lines taken ++ m) at ∙ joined taken line after)
    | inr last ↦ inr (
      ap (λ (m : List ℕ). m ++ 10 ∷ []) (whole ∙ ap (λ (m : List ℕ). text_of_lines taken ++ m) last.0) ∙ append_assoc (text_of_lines taken) line (10 ∷ []) ∙ sym (text-more taken line),
      last.1,
    )
  ]
  | inr ended ↦ elim first.split [
    | inl at ↦ absurd (omega (arith, ap length (sym ended.1 ∙ at), length-append line (10 ∷ after)))
    | inr last ↦ absurd (omega (arith, ap length (sym ended.1 ∙ last.0), last.2))
  ]
]

-- A further line was taken.
pub takes-next : (before middle after line : List ℕ) (taken : List (List ℕ)) → TakesLines before taken middle → IsFirstLine middle line after → TakesLines before (taken ++ line ∷ []) after
takes-next before middle after line taken takes first = record {
  lines = takes.lines ∙ ap (λ (l : List (List ℕ)). taken ++ l) (lines_of-next middle line after first) ∙ sym (append_assoc taken (line ∷ []) (lines_of after));
  ones = All-more HasNoLineFeed taken line takes.ones first.one;
  split = split-next before middle after line taken takes first;
}
