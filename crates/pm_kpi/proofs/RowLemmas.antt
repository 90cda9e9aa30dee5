-- The rows of a group.
use Rattle.std.proofs.Common.{◌≡◌, ℕ, List, [], ◌∷◌, map, refl, ap, ◌∙◌}
use Rattle.pm_file.specs.Content.{RowContent}
use Rattle.pm_file.specs.Report.{row_content, group_content}
use Rattle.pm_file.specs.declared.report.Row.{Row}
use Rattle.pm_file.specs.declared.report.Group.{Group}
use Rattle.pm_kpi.specs.Rows.{PlacedRow, rows_in_group}

-- A row under its job, its part and its types.
abbrev pub at : List ℕ → ℕ → ℕ → List (List ℕ) → RowContent → PlacedRow
at job begin end types row = record { job = job; begin = begin; end = end; types = types; row = row }

said : {A B C : Type 0} (f : B → C) (g : A → B) (xs : List A) → map (λ x. f (g x)) xs ≡ map f (map g xs)
said f g [] = refl
said f g (x ∷ xs) = ap (λ l. f (g x) ∷ l) (said f g xs)

-- The rows under one place are those of the group.
pub rows_placed : (job : List ℕ) (begin end : ℕ) (group : Group) (types : List (List ℕ)) (rows : List Row) → types ≡ group.types.items → rows ≡ group.rows.items
    → map (λ r. at job begin end types (row_content r)) rows ≡ rows_in_group job begin end (group_content group)
rows_placed job begin end group types rows same_types same_rows =
    said (at job begin end types) row_content rows
    ∙ ap (λ (t : List (List ℕ)). map (at job begin end t) (map row_content rows)) same_types
    ∙ ap (λ (l : List Row). map (at job begin end group.types.items) (map row_content l)) same_rows
