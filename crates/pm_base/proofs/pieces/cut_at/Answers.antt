use Rattle.pm_base.proofs.PiecesLemmas.{pieces_of-none, pieces_of-cut}
use Rattle.pm_base.proofs.pieces.cut_at.Goals as goal

pub returns-in-None : goal.returns-in-None
returns-in-None c = pieces_of-none c.args.byte c.args.bytes.now c.in-None.ensures

pub returns-in-Some : goal.returns-in-Some
returns-in-Some c =
    let first = c.in-Some.ensures in
    pieces_of-cut c.args.byte c.in-Some.at c.args.bytes.now first.0.high first.1 first.0.before
