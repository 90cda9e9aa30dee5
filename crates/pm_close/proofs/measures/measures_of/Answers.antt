use Rattle.std.proofs.Common.{length, subst, sym}
use Rattle.pm_inventory.specs.Inventory.{slots}
use Rattle.pm_jobs.specs.Numbered.{AreBelow}
use Rattle.pm_close.specs.Parts.{ReadEach}
use Rattle.pm_close.specs.Measures.{quantities_asked}
use Rattle.pm_close.proofs.ResultLemmas.{if_ok-map}
use Rattle.pm_close.proofs.TermsLemmas.{metrics-below, reads-terms}
use Rattle.pm_close.proofs.measures.measures_of.Goals as goal

pub returns-clause-reads : goal.returns-clause-reads
returns-clause-reads c = λ keeps.
    let s = c.args.standing.now in
    let metrics = c.deref.ensures.value in
    let objects = c.deref-2.ensures.value in
    let below = subst (AreBelow (length c.args.inventory.now.measures)) (sym metrics) (metrics-below c.args.inventory.now s keeps) in
    if_ok-map _ _ c.measures_asked.result
    (λ v reads. reads-terms c.args.inventory.now s v.items keeps
    (subst (ReadEach (slots c.args.inventory.now) v.items) (λ i. quantities_asked c.args.inventory.now (metrics i) (objects i)) reads))
    (c.measures_asked.ensures.reads below)
