use Rattle.std.proofs.Common.{◌≡◌, List, ℕ, Ok, sym, ap, subst, ◌∙◌}
use Rattle.pm_form.specs.Form.{text_says}
use Rattle.pm_file.specs.ReportForm.{report_form}
use Rattle.pm_file.specs.Says.{content_of}
use Rattle.pm_collect.specs.Places.{rows_of}
use Rattle.pm_kpi.specs.Asked.{asked_content}
use Rattle.pm_kpi.proofs.RunLemmas.{file_added}
use Rattle.pm_kpi.proofs.storing.add_file.Goals as goal

pub returns-in-Ok-read-clause-added : goal.returns-in-Ok-read-clause-added
returns-in-Ok-read-clause-added g c = λ told files holds reports stands.
    file_added (asked_content c.args.asked.now) files (rows_of c.args.collector.now.names) c.args.place reports c.in-Ok.text (content_of c.in-Ok-read.report)
    c.add_report.new.sums c.add_report.result (c.in-Ok.ensures.loaded told files holds)
    (subst (λ (l : List ℕ). text_says report_form l ≡ Ok (content_of c.in-Ok-read.report)) c.as_bytes.ensures c.in-Ok-read.ensures)
    (c.add_report.ensures.added reports stands)
