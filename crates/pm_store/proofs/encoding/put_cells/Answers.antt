use Rattle.std.proofs.Common.{◌≡◌, ◌+◌, ◌<◌, ◌++◌, ◌∷◌, [], ℕ, List, length, get_or, take, sym, ap, ◌∙◌, append_assoc, arith}
use Rattle.std.specs.List.{flat_map}
use Rattle.std.proofs.lemmas.List.{take_more, append-nil}
use Rattle.std.proofs.lemmas.List.Concat.{flat_map-append}
use Rattle.pm_meas.specs.declared.cell.Cell.{Cell}
use Rattle.pm_store.specs.Rows.{cell_bytes}
use Rattle.pm_store.proofs.encoding.put_cells.Goals as goal

-- One more cell's bytes.
one_more : (xs : List (ℕ × Cell)) (i : ℕ) (d : ℕ × Cell) (old now next row : List ℕ) → i < length xs
    → now ≡ old ++ flat_map cell_bytes (take i xs)
    → row ≡ cell_bytes (get_or xs i d) → next ≡ now ++ row → next ≡ old ++ flat_map cell_bytes (take (i + 1) xs)
one_more xs i d old now next row lt n r e =
    let x : List ℕ = cell_bytes (get_or xs i d) in
    let step : flat_map cell_bytes (take (i + 1) xs) ≡ flat_map cell_bytes (take i xs) ++ cell_bytes (get_or xs i d) =
    ap (flat_map cell_bytes) (take_more xs i d lt) ∙ flat_map-append cell_bytes (take i xs) (get_or xs i d ∷ [])
    ∙ ap (λ (t : List ℕ). flat_map cell_bytes (take i xs) ++ t) (append-nil (cell_bytes (get_or xs i d))) in
    e ∙ ap (λ (t : List ℕ). now ++ t) r ∙ ap (λ (t : List ℕ). t ++ cell_bytes (get_or xs i d)) n
    ∙ append_assoc old (flat_map cell_bytes (take i xs)) (cell_bytes (get_or xs i d)) ∙ ap (λ (t : List ℕ). old ++ t) (sym step)

pub loop-pair-preserved : goal.loop-pair-preserved
loop-pair-preserved c =
    one_more c.args.cells.now c.loop-pair.pair-index (
      0,
      record {
        n = 0;
        sum = 0;
        max = 0;
        min =
            0;
      },
    ) c.args.out.now.items c.loop-pair.out.items
    c.extend_from_slice.new.self.items c.row_of.result (omega arith) c.loop-pair.invariant c.row_of.ensures c.in_ok-extend_from_slice.ensures.items
