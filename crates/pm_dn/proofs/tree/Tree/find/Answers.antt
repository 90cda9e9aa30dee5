use Rattle.std.proofs.Common.{◌≡◌, ℕ, List, Option, Some, None}
use Rattle.std.specs.Prelude.{MatchOption, IfSome}
use Rattle.pm_dn.specs.Tree.{IsTree, StandsAt}
use Rattle.pm_dn.proofs.TreeLemmas.{StandsAt-alone}
use Rattle.pm_dn.proofs.tree.Tree.find.Goals as goal

alone : (r : Option ℕ) (tree : List (List ℕ)) (name : List ℕ) → IsTree tree → MatchOption r ((object : ℕ) → StandsAt tree name object → ⊥) (λ object. StandsAt tree name object) → IfSome r (λ object. (other : ℕ) → StandsAt tree name other → other ≡ object)
alone None tree name is found = tt
alone (Some object) tree name is found = λ other at. StandsAt-alone tree name other object is at found

pub returns-in-Some-clause-alone : goal.returns-in-Some-clause-alone
returns-in-Some-clause-alone c = λ other at. StandsAt-alone c.args.self.now c.args.name.now other c.in-Some.object c.guess.ensures.let_in at c.in-Some.ensures.found

pub returns-in-None-clause-alone : goal.returns-in-None-clause-alone
returns-in-None-clause-alone c = alone c.search.result c.args.self.now c.args.name.now c.guess.ensures.let_in c.search.ensures
