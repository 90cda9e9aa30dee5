use Rattle.std.proofs.Common.{◌∙◌, sym, ap}
use Rattle.std.proofs.lemmas.Slice.Eq.{bytes_eq-Decides}
use Rattle.pm_dn.proofs.ObjectLemmas.{StandsAt-object, texts_of}
use Rattle.pm_dn.proofs.tree.Tree.guess.Goals as goal

pub returns-then-eq-clause-found : goal.returns-then-eq-clause-found
returns-then-eq-clause-found c =
    let same = c.as_bytes.ensures.value in
    let name = (bytes_eq-Decides c.as_bytes.result.now c.args.name.now).0 (sym c.if-eq.ensures) in
    StandsAt-object c.deref.result.now c.args.self.now c.args.name.now c.in_ok-object.object c.in_ok-get.field-0.now
    (ap texts_of c.deref.ensures.value ∙ c.self.view_is) c.in_ok-get.ensures.lookup.3.0 c.in_ok-get.ensures.lookup.1 (sym same ∙ name)
