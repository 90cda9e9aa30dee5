use Rattle.std.proofs.Common.{◌≡◌, ◌≤◌, ◌<◌, ◌+◌, ◌*◌, ◌^◌, List, Option, refl, sym, ap, subst, ◌∙◌, arith}
use Rattle.std.specs.Prelude.{IfSome}
use Rattle.pm_base.specs.Moment.{tick_of}
use Rattle.pm_inventory.specs.Inventory.{slots}
use Rattle.pm_history.specs.declared.entry.Side.TheVariants.{Job}
use Rattle.pm_history.specs.declared.entry.Entry.TheVariants.{Boot}
use Rattle.pm_history.specs.History.{◌▷◌, last_moment}
use Rattle.pm_history.specs.Terms.{reporting}
use Rattle.pm_history.specs.Standing as history
use Rattle.pm_history.specs.Standing.{making_of}
use Rattle.pm_history.proofs.StandingLemmas.{is_counted-boot}
use Rattle.pm_asked.specs.Asked.{terms_of}
use Rattle.pm_close.specs.declared.report.Due.{Due}
use Rattle.pm_close.specs.Marks.{NoneCounted}
use Rattle.pm_close.specs.OpenJobs.{earlier_parts}
use Rattle.pm_close.specs.DueReports.{due_of, files_by_at}
use Rattle.pm_close.proofs.OpenJobLemmas.{IsMade, made-is, made-some}
use Rattle.pm_close.proofs.JobBootLemmas.{boot-ends, boot-within}
use Rattle.pm_close.specs.declared.measure.Measure.{Measure}
use Rattle.pm_close.specs.Parts.{ReadEach, quantities_of}
use Rattle.pm_close.proofs.open_job.OpenJob.end_with_boot.Goals as goal

pub returns-clause-stands : goal.returns-clause-stands
returns-clause-stands c = λ inventory h m s ends stand asked before.
    let g = h ▷ Boot m in
    let from = tick_of (last_moment h) in
    let t = terms_of inventory Job s.body in
    let tick_is = ends.to in
    let reads = subst (λ (ms : List Measure). ReadEach (slots inventory) ms (quantities_of t.measured)) (sym c.deref.ensures.value)
    asked.reads in
    let none : (made : history.Standing) → IsMade inventory h s made
    → NoneCounted (terms_of inventory) g (making_of Job s.id made) from c.args.tick = λ made is u after lt.
    is_counted-boot (terms_of inventory) h m (making_of Job s.id made) u (made-some inventory h s stand) after
    (omega (arith, lt, tick_is)) in
    let both = boot-ends inventory h m from c.args.tick s c.args.self.now c.args.place c.end_of-end.result c.args.plan.now
    c.end_with_boot.new.self c.in_ok-due.due refl (sym ends.to) stand before none
    (λ made is.
    c.in_ok-due.ensures.stands (terms_of inventory) (slots inventory) g (making_of Job s.id made) t from
    (earlier_parts c.args.self.now c.args.plan.now.earlier) ends.knows reads asked.granularity asked.parts
    (before made is.is) (none made is))
    (λ d is le.
    let product : reporting t ≡ c.args.self.now.parts * c.args.self.now.granularity = λ i. asked.parts i * asked.granularity i in
    let far = c.requires.in_range in
    let own = subst (λ (o : Option Due). IfSome o (λ due. due.begin + c.args.self.now.parts * c.args.self.now.granularity < 2 ^ 64
    → c.end_of-end.result ≡ due.begin + c.args.self.now.parts * c.args.self.now.granularity)) is c.end_of-end.ensures in
    let at = own (omega (arith, le, product, far)) in
    omega (arith, at, product)) in
    both.0

pub returns-clause-report : goal.returns-clause-report
returns-clause-report c = λ inventory h m s ends stand asked before e after up.
    let g = h ▷ Boot m in
    let from = tick_of (last_moment h) in
    let t = terms_of inventory Job s.body in
    let tick_is = ends.to in
    let reads = subst (λ (ms : List Measure). ReadEach (slots inventory) ms (quantities_of t.measured)) (sym c.deref.ensures.value)
    asked.reads in
    let none : (made : history.Standing) → IsMade inventory h s made
    → NoneCounted (terms_of inventory) g (making_of Job s.id made) from c.args.tick = λ made is u after lt.
    is_counted-boot (terms_of inventory) h m (making_of Job s.id made) u (made-some inventory h s stand) after
    (omega (arith, lt, tick_is)) in
    let both = boot-ends inventory h m from c.args.tick s c.args.self.now c.args.place c.end_of-end.result c.args.plan.now
    c.end_with_boot.new.self c.in_ok-due.due refl (sym ends.to) stand before none
    (λ made is.
    c.in_ok-due.ensures.stands (terms_of inventory) (slots inventory) g (making_of Job s.id made) t from
    (earlier_parts c.args.self.now c.args.plan.now.earlier) ends.knows reads asked.granularity asked.parts
    (before made is.is) (none made is))
    (λ d is le.
    let product : reporting t ≡ c.args.self.now.parts * c.args.self.now.granularity = λ i. asked.parts i * asked.granularity i in
    let far = c.requires.in_range in
    let own = subst (λ (o : Option Due). IfSome o (λ due. due.begin + c.args.self.now.parts * c.args.self.now.granularity < 2 ^ 64
    → c.end_of-end.result ≡ due.begin + c.args.self.now.parts * c.args.self.now.granularity)) is c.end_of-end.ensures in
    let at = own (omega (arith, le, product, far)) in
    omega (arith, at, product)) in
    both.1 e after up
    ∙ ap (files_by_at inventory s c.args.self.now e)
    (sym (c.of.ensures ∙ ap (λ n. due_of c.args.place c.end_of-end.result n c.in_ok-due.due) c.earlier-earlier.ensures))

pub returns-clause-within : goal.returns-clause-within
returns-clause-within c = λ inventory h m s ends stand asked before.
    let g = h ▷ Boot m in
    let from = tick_of (last_moment h) in
    let t = terms_of inventory Job s.body in
    let tick_is = ends.to in
    let reads = subst (λ (ms : List Measure). ReadEach (slots inventory) ms (quantities_of t.measured)) (sym c.deref.ensures.value)
    asked.reads in
    let none : (made : history.Standing) → IsMade inventory h s made
    → NoneCounted (terms_of inventory) g (making_of Job s.id made) from c.args.tick = λ made is u after lt.
    is_counted-boot (terms_of inventory) h m (making_of Job s.id made) u (made-some inventory h s stand) after
    (omega (arith, lt, tick_is)) in
    let first = made-is inventory h s stand in
    let made = first.0 in
    let is = first.1 in
    subst (λ o. IfSome o (λ report. (from < report.end) × (report.end ≤ c.args.tick))) (sym c.of.ensures)
    (boot-within (terms_of inventory) g (making_of Job s.id made) t from c.args.tick c.end_of-end.result c.args.place
    c.earlier-earlier.result (earlier_parts c.args.self.now c.args.plan.now.earlier) c.end_with_boot.new.self c.in_ok-due.due
    (c.in_ok-due.ensures.stands (terms_of inventory) (slots inventory) g (making_of Job s.id made) t from
    (earlier_parts c.args.self.now c.args.plan.now.earlier) ends.knows reads asked.granularity asked.parts
    (before made is.is) (none made is))
    (λ d is le.
    let product : reporting t ≡ c.args.self.now.parts * c.args.self.now.granularity = λ i. asked.parts i * asked.granularity i in
    let far = c.requires.in_range in
    let own = subst (λ (o : Option Due). IfSome o (λ due. due.begin + c.args.self.now.parts * c.args.self.now.granularity < 2 ^ 64
    → c.end_of-end.result ≡ due.begin + c.args.self.now.parts * c.args.self.now.granularity)) is c.end_of-end.ensures in
    let at = own (omega (arith, le, product, far)) in
    omega (arith, at, product)))
