use Rattle.std.proofs.Common.{◌≡◌, ◌∷◌, [], ℕ, List, Bor, Option, Some, None, true, false}
use Rattle.std.specs.Prelude.{MatchOption}
use Rattle.std.specs.List.{list_any}
use Rattle.pm_base.specs.Pieces.{pieces_of}
use Rattle.pm_dn.specs.Name.{part_of, is_equals}
use Rattle.pm_dn.proofs.PieceLemmas.{lacks-from_one, parts-from_cut}
use Rattle.pm_dn.proofs.pieces.class_and_id.Goals as goal

parts : (piece : List ℕ) (cut : Option (Bor (List ℕ) × Bor (List ℕ))) → MatchOption cut (pieces_of 61 piece ≡ piece ∷ []) (λ x. pieces_of 61 piece ≡ x.0.now ∷ pieces_of 61 x.1.now)
    → MatchOption cut (list_any is_equals piece ≡ false) (λ x. (list_any is_equals piece ≡ true) × (x.0.now ≡ (part_of piece).class) × (x.1.now ≡ (part_of piece).id))
parts piece None one = lacks-from_one 61 piece one
parts piece (Some x) first = parts-from_cut 61 piece x.0.now x.1.now first

pub returns : goal.returns
returns c = parts c.args.piece.now c.cut_at.result c.cut_at.ensures
