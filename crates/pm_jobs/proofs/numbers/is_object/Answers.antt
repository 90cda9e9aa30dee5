use Rattle.std.proofs.Common.{◌≡◌, ◌∙◌, ℕ, List, Option, Some, None, sym}
use Rattle.std.specs.Prelude.{is_some, MatchOption}
use Rattle.pm_dn.specs.Tree.{stands, StandsAt}
use Rattle.pm_dn.proofs.TreeLemmas.{stands-none, stands-some}
use Rattle.pm_jobs.proofs.numbers.is_object.Goals as goal

found : (r : Option ℕ) (tree : List (List ℕ)) (name : List ℕ) → MatchOption r ((object : ℕ) → StandsAt tree name object → ⊥) (λ object. StandsAt tree name object)
    → is_some r ≡ stands tree name
found None tree name none = sym (stands-none tree name none)
found (Some object) tree name at = sym (stands-some tree name object at)

pub returns : goal.returns
returns c = c.is_some.ensures ∙ found c.find.result c.args.tree.now c.args.name.now c.find.ensures.found
