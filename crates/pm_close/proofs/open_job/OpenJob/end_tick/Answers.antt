use Rattle.std.proofs.Common.{◌+◌, List, sym, ap, subst, ◌∙◌}
use Rattle.pm_inventory.specs.Inventory.{slots}
use Rattle.pm_history.specs.declared.entry.Side.TheVariants.{Job}
use Rattle.pm_history.specs.declared.entry.Entry.TheVariants.{Now}
use Rattle.pm_history.specs.History.{◌▷◌}
use Rattle.pm_history.specs.Standing.{making_of}
use Rattle.pm_asked.specs.Asked.{terms_of}
use Rattle.pm_close.specs.declared.measure.Measure.{Measure}
use Rattle.pm_close.specs.Parts.{ReadEach, quantities_of}
use Rattle.pm_close.specs.OpenJobs.{earlier_parts}
use Rattle.pm_close.specs.DueReports.{due_of, files_by}
use Rattle.pm_close.proofs.OpenJobLemmas.{tick-ends}
use Rattle.pm_close.proofs.open_job.OpenJob.end_tick.Goals as goal

pub returns-clause-stands : goal.returns-clause-stands
returns-clause-stands c = λ inventory h m ends stand asked before.
    let s = c.args.standing.now in
    let g = h ▷ Now m in
    let t = terms_of inventory Job s.body in
    let reads = subst (λ (ms : List Measure). ReadEach (slots inventory) ms (quantities_of t.measured)) (sym c.deref.ensures.value)
    asked.reads in
    let both = tick-ends inventory h m c.args.tick s c.args.self.now c.args.place c.args.plan.now c.end_tick.new.self c.in_ok-due.due
    ends.from ends.to stand before
    (λ made is.
    c.in_ok-due.ensures.stands (terms_of inventory) (slots inventory) g (making_of Job s.id made) t c.args.tick
    (earlier_parts c.args.self.now c.args.plan.now.earlier) ends.knows reads asked.granularity asked.parts
    (before made is.is)
    (c.counts-mark.ensures.counted (terms_of inventory) Job h m s.id made ends.is is.is is.changed is.unlocked ends.boots ends.from ends.to)) in
    both.0

pub returns-clause-report : goal.returns-clause-report
returns-clause-report c = λ inventory h m ends stand asked before.
    let s = c.args.standing.now in
    let g = h ▷ Now m in
    let t = terms_of inventory Job s.body in
    let reads = subst (λ (ms : List Measure). ReadEach (slots inventory) ms (quantities_of t.measured)) (sym c.deref.ensures.value)
    asked.reads in
    let both = tick-ends inventory h m c.args.tick s c.args.self.now c.args.place c.args.plan.now c.end_tick.new.self c.in_ok-due.due
    ends.from ends.to stand before
    (λ made is.
    c.in_ok-due.ensures.stands (terms_of inventory) (slots inventory) g (making_of Job s.id made) t c.args.tick
    (earlier_parts c.args.self.now c.args.plan.now.earlier) ends.knows reads asked.granularity asked.parts
    (before made is.is)
    (c.counts-mark.ensures.counted (terms_of inventory) Job h m s.id made ends.is is.is is.changed is.unlocked ends.boots ends.from ends.to)) in
    both.1
    ∙ ap (files_by inventory s c.args.self.now)
    (sym (c.of.ensures ∙ ap (λ n. due_of c.args.place (c.args.tick + 1) n c.in_ok-due.due) c.earlier-earlier.ensures))
