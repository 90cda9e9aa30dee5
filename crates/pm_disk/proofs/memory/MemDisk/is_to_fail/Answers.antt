use Rattle.std.proofs.Common.{◌↔◌, ◌+◌, ℕ, List, nat_eq, subst}
use Rattle.std.specs.Prelude.{Contains, IsTrue}
use Rattle.std.proofs.lemmas.Bool.Decides.{Decides-eqb}
use Rattle.std.proofs.lemmas.List.Elements.{contains_decides, Decides-contains}
use Rattle.pm_disk.specs.Memory.{fails_of}
use Rattle.pm_disk.proofs.memory.MemDisk.is_to_fail.Goals as goal

pub returns : goal.returns
returns c =
    let decides = Decides-contains c.deref.result.now (c.len.result + 1) c.contains.result (contains_decides nat_eq Decides-eqb _ _ _ c.contains.ensures.cases) in
    let named : IsTrue c.contains.result ↔ Contains (fails_of c.args.self.now) (c.len.result + 1) =
    subst (λ (xs : List ℕ). IsTrue c.contains.result ↔ Contains xs (c.len.result + 1)) c.deref.ensures.value decides in
    subst (λ (n : ℕ). IsTrue c.contains.result ↔ Contains (fails_of c.args.self.now) (n + 1)) c.len.ensures.len named
