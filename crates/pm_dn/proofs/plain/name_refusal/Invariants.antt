use Rattle.std.proofs.Common.{◌≡◌, drop, map}
use Rattle.pm_base.specs.Pieces.{pieces_of}
use Rattle.pm_dn.specs.Refusal.{first_code, part_refusal}
use Rattle.pm_dn.proofs.plain.name_refusal.Given as goal

abbrev pub invariant-loop-piece : goal.invariant-loop-piece
invariant-loop-piece l = first_code (map part_refusal (pieces_of 44 l.bytes)) ≡ first_code (map part_refusal (map (λ piece. piece.now) (drop l.piece-index l.piece-items)))
