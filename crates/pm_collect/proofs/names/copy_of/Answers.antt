use Rattle.std.proofs.lemmas.List.Elements.{same_from_all_zip}
use Rattle.pm_collect.proofs.MapLemmas.{found_in_copy}
use Rattle.pm_collect.proofs.names.copy_of.Goals as goal

pub returns-in-Ok-clause-same : goal.returns-in-Ok-clause-same
returns-in-Ok-clause-same c = λ name.
    found_in_copy _ (λ p q h. same_from_all_zip _ _ _ h.0.0 (λ x y e. e)) c.args.names.now.entries c.in-Ok.copy.entries c.in-Ok.ensures.cases name
