use Rattle.std.proofs.Common.{◌≡◌, ◌+◌, length, map}
use Rattle.pm_base.specs.Pieces.{pieces_of}
use Rattle.pm_dn.specs.Refusal.{first_code, part_refusal}
use Rattle.pm_dn.proofs.refusal.name_refusal.Given as goal

abbrev pub invariant-loop-piece : goal.invariant-loop-piece
invariant-loop-piece l = record {
  unbroken : first_code (map part_refusal (pieces_of 44 l.bytes)) ≡ first_code (map part_refusal l.pieces);
  counted : l.count + length l.pieces ≡ length (pieces_of 44 l.bytes);
}

abbrev pub decreases-loop-piece : goal.decreases-loop-piece
decreases-loop-piece l = length l.pieces
