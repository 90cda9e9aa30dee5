use Rattle.std.proofs.Common.{length, sym, ap, subst, ◌∙◌}
use Rattle.std.proofs.lemmas.List.{with_items_is}
use Rattle.pm_close.specs.OpenJobs.{ReportsFit, ReportsStand, ReadWithin, AreAsked, PlansFit, PlansStand}
use Rattle.pm_close.proofs.open_jobs.OpenJobs.enact.Goals as goal

pub returns-clause-stands : goal.returns-clause-stands
returns-clause-stands c =
    λ inventory h tick jobs long stand.
    let value = c.as_mut_slice.ensures.value in
    let held = c.args.self.now.jobs.ok.0 in
    let is = with_items_is c.args.self.now.jobs c.enact_all.new.jobs (c.enact_all.auto.jobs ∙ (ap length value ∙ sym held)) in
    subst (ReportsStand inventory h tick jobs) (sym is)
    (c.enact_all.ensures.stands inventory h tick jobs (long ∙ sym (ap length value))
    (subst (λ js. PlansStand inventory h tick jobs js c.args.plans.items) (sym value) stand))

pub returns-clause-asked : goal.returns-clause-asked
returns-clause-asked c =
    λ inventory jobs long asked.
    let value = c.as_mut_slice.ensures.value in
    let held = c.args.self.now.jobs.ok.0 in
    let is = with_items_is c.args.self.now.jobs c.enact_all.new.jobs (c.enact_all.auto.jobs ∙ (ap length value ∙ sym held)) in
    subst (AreAsked inventory jobs) (sym is)
    (c.enact_all.ensures.asked inventory jobs (long ∙ sym (ap length value)) (subst (AreAsked inventory jobs) (sym value) asked))

pub returns-clause-fits : goal.returns-clause-fits
returns-clause-fits c =
    λ kept tick fit.
    let value = c.as_mut_slice.ensures.value in
    let held = c.args.self.now.jobs.ok.0 in
    let is = with_items_is c.args.self.now.jobs c.enact_all.new.jobs (c.enact_all.auto.jobs ∙ (ap length value ∙ sym held)) in
    subst (ReportsFit kept tick) (sym is)
    (c.enact_all.ensures.fits kept tick (subst (λ js. PlansFit kept tick js c.args.plans.items) (sym value) fit))

pub returns-clause-within : goal.returns-clause-within
returns-clause-within c =
    λ width read.
    let value = c.as_mut_slice.ensures.value in
    let held = c.args.self.now.jobs.ok.0 in
    let is = with_items_is c.args.self.now.jobs c.enact_all.new.jobs (c.enact_all.auto.jobs ∙ (ap length value ∙ sym held)) in
    subst (ReadWithin width) (sym is) (c.enact_all.ensures.within width (subst (ReadWithin width) (sym value) read))
