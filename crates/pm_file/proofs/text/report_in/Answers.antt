use Rattle.serde_json.specs.View.{view}
use Rattle.pm_file.specs.Body.{body_content}
use Rattle.pm_file.proofs.BodyLemmas.{permitted_of}
use Rattle.pm_file.proofs.text.report_in.Goals as goal

pub report_of-requires : goal.report_of-requires
report_of-requires c =
    permitted_of (view c.args.value.now) (body_content c.in_ok-body.body) c.in_ok-body.ensures
    (rw c.deref.ensures.value at c.if-not-report_agrees.ensures)
