use Rattle.std.proofs.Common.{◌/◌, [], sym, ap, ◌∙◌, arith}
use Rattle.pm_history.specs.declared.entry.Side.TheVariants.{Job}
use Rattle.pm_asked.specs.Asked.{terms_of}
use Rattle.pm_close.proofs.JobEnactedLemmas.{enacted-stands}
use Rattle.pm_close.proofs.TermsLemmas.{job-terms}
use Rattle.pm_close.proofs.open_job.OpenJob.made.Goals as goal

pub returns-clause-asked : goal.returns-clause-asked
returns-clause-asked c = λ keeps.
    let has = job-terms c.args.inventory.now c.args.standing.now keeps in
    let seconds = sym c.from-granularity.ensures in
    let minutes = sym c.from.ensures in
    record {
      granularity = has.granularity ∙ ap (λ n. n / 60) seconds;
      parts = has.parts ∙ (λ i. minutes i / (seconds i / 60));
      reads = c.in_ok-measures.ensures.reads keeps;
    }

pub returns-clause-stands : goal.returns-clause-stands
returns-clause-stands c = λ keeps h w none.
    let inventory = c.args.inventory.now in
    let s = c.args.standing.now in
    let has = job-terms inventory s keeps in
    let seconds = sym c.from-granularity.ensures in
    let minutes = sym c.from.ensures in
    let reads = c.in_ok-measures.ensures.reads keeps in
    let same = c.in_ok-reserve.ensures in
    enacted-stands (terms_of inventory) h w (terms_of inventory Job s.body) c.args.tick [] c.in_ok-report.report c.reserve.new.self
    same.begin (same.earlier ∙ c.in_ok-report.ensures.whole) same.parts same.counted same.marks
    (c.in_ok-report.ensures.stands (terms_of inventory) h w (terms_of inventory Job s.body)
    (has.granularity ∙ ap (λ n. n / 60) seconds) (has.parts ∙ (λ i. minutes i / (seconds i / 60)))
    (sym (c.len.ensures ∙ (c.in_ok-measures.measures.ok.0 ∙ reads.as_many)))
    (λ u from lt. none u (omega arith) lt))
