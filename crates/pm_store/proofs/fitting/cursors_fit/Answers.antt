use Rattle.std.proofs.Common.{◌<◌, ◌^◌, arith, lt-ltb}
use Rattle.std.proofs.lemmas.Bool.{ltb-true}
use Rattle.std.proofs.lemmas.List.{get_or_default}
use Rattle.std.proofs.lemmas.List.Elements.{recursion_from_All}
use Rattle.pm_store.proofs.fitting.cursors_fit.Goals as goal

pub returns : goal.returns
returns c = (
  λ t. (
    ltb-true _ _ t,
    recursion_from_All (λ n. n < 2 ^ 64) c.args.cursors.now (λ k d lt. omega (
      arith,
      get_or_default c.args.cursors.now k d 0 lt,
      c.type_inv.cursors k,
    )),
  ),
  λ fits. lt-ltb _ _ fits.0,
)
