use Rattle.std.proofs.Common.{◌≡◌, ◌∙◌, ℕ, List, Result, Ok, Err, sym}
use Rattle.std.specs.Prelude.{IfOk}
use Rattle.pm_dn.specs.Name.{Part, IsNameOf}
use Rattle.pm_dn.proofs.NameLemmas.{IsNameOf-name_of}
use Rattle.pm_dn.proofs.dn.Dn.write.Goals as goal

copied : {E : Type 0} (r : Result (List ℕ) E) (text bytes : List ℕ) (name : List Part) → IfOk r (λ t. t ≡ text) → text ≡ bytes → IsNameOf bytes name → IfOk r (λ t. IsNameOf t name)
copied (Ok t) text bytes name is same named = rw (is, same) named
copied (Err e) text bytes name is same named = tt

alone : {E : Type 0} (r : Result (List ℕ) E) (name : List Part) → IfOk r (λ t. IsNameOf t name) → IfOk r (λ t. (bytes : List ℕ) → IsNameOf bytes name → bytes ≡ t)
alone (Ok t) name named = λ bytes is. sym is.text ∙ named.text
alone (Err e) name named = tt

pub returns-clause-reads_back : goal.returns-clause-reads_back
returns-clause-reads_back c =
    copied c.from_slice.result c.as_bytes.result.now c.self.inside.text c.args.self.now c.from_slice.ensures c.as_bytes.ensures.value
    (rw (← c.self.view_is) (IsNameOf-name_of c.self.inside.text c.self.invariant))

pub returns-clause-alone : goal.returns-clause-alone
returns-clause-alone c =
    alone c.from_slice.result c.args.self.now
    (copied c.from_slice.result c.as_bytes.result.now c.self.inside.text c.args.self.now c.from_slice.ensures c.as_bytes.ensures.value
    (rw (← c.self.view_is) (IsNameOf-name_of c.self.inside.text c.self.invariant)))
