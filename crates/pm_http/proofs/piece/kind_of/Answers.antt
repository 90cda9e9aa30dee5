use Rattle.std.proofs.Common.{◌-◌, [], ◌∷◌, length, take}
use Rattle.std.proofs.lemmas.Bool.Decides.{Decides-eqb}
use Rattle.std.proofs.lemmas.Slice.Eq.{ends_is}
use Rattle.pm_http.proofs.piece.kind_of.Goals as goal

pub returns-then-ends_with : goal.returns-then-ends_with
returns-then-ends_with c =
    (take (length c.args.head.now - 1) c.args.head.now, (ends_is Decides-eqb c.args.head.now (10 ∷ []) _ c.ends_with.ensures.value).0 c.if-ends_with.true)
