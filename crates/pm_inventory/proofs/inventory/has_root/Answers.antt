use Rattle.std.proofs.Common.{◌≡◌, ◌∙◌, ℕ, not, eqb, ltb, sym, ap, arith}
use Rattle.std.proofs.lemmas.Bool.Decides.{nat_tests}
use Rattle.pm_dn.proofs.TreeLemmas.{has_root}
use Rattle.pm_inventory.proofs.inventory.has_root.Goals as goal

some : (n : ℕ) → ltb 0 n ≡ not (eqb n 0)
some n = grind (arith, nat_tests)

pub returns : goal.returns
returns c = some c.len.result ∙ ap (λ n. not (eqb n 0)) c.len.ensures.value ∙ sym (has_root c.args.tree.now c.len.ensures.let_in)
