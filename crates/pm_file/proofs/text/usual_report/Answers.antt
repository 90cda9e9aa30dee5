use Rattle.pm_file.specs.Body.{body_content}
use Rattle.pm_file.proofs.UsualTextLemmas.{permitted_usual, usual_says}
use Rattle.pm_file.proofs.text.usual_report.Goals as goal

pub report_of-requires : goal.report_of-requires
report_of-requires c =
    permitted_usual (body_content c.in_ok-body.body) c.in_ok-body.ensures.fits
    (rw c.deref.ensures.value at c.if-not-report_agrees.ensures)

pub returns-in-Ok : goal.returns-in-Ok
returns-in-Ok c =
    let permitted = permitted_usual (body_content c.in_ok-body.body) c.in_ok-body.ensures.fits
    (rw c.deref.ensures.value at c.if-not-report_agrees.ensures) in
    rw c.in-Ok.ensures (usual_says (body_content c.in_ok-body.body) c.args.bytes.now c.in_ok-body.ensures.says permitted)
