use Rattle.std.proofs.Common.{◌∙◌, sym}
use Rattle.std.proofs.lemmas.Result.{err_from_is_err_and}
use Rattle.pm_meas.specs.declared.error.MeasError.TheVariants.{M3}
use Rattle.pm_meas.proofs.BreaksLemmas.{Breaks-exact, Breaks-M3}
use Rattle.pm_meas.proofs.CatalogueLemmas.{Stands-found}
use Rattle.pm_meas.proofs.catalogue.Catalogue.add.Goals as goal

pub returns-in_err-line-clause-refusal : goal.returns-in_err-line-clause-refusal
returns-in_err-line-clause-refusal c = let p = err_from_is_err_and c.from_residual.result c.from_residual.ensures.1 in rw (p.1, p.2) (c.in_err-line.ensures c.args.self.now)

pub returns-in_err-line-clause-exact : goal.returns-in_err-line-clause-exact
returns-in_err-line-clause-exact c =
    let p = err_from_is_err_and c.from_residual.result c.from_residual.ensures.1 in rw (p.1, p.2) (Breaks-exact c.args.self.now _ _ (c.in_err-line.ensures c.args.self.now))

pub returns-then-is_some-clause-refusal : goal.returns-then-is_some-clause-refusal
returns-then-is_some-clause-refusal c =
    Breaks-M3 c.args.self.now _ _ c.in_ok-line.ensures (Stands-found c.args.self.now _ c.find.result c.find.ensures.answer (sym c.is_some.ensures ∙ c.if-is_some.true))

pub returns-then-is_some-clause-exact : goal.returns-then-is_some-clause-exact
returns-then-is_some-clause-exact c = Breaks-exact c.args.self.now _ M3 (returns-then-is_some-clause-refusal c)
