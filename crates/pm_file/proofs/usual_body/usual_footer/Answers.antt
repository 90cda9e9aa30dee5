use Rattle.std.proofs.Common.{codes}
use Rattle.json.specs.Token.{begin_object, end_object, key}
use Rattle.pm_file.specs.ReportForm.{footer_form, moment}
use Rattle.pm_file.proofs.UsualLemmas.{ends, then_token, then_tree}
use Rattle.pm_file.proofs.usual_body.usual_footer.Goals as goal

pub returns : goal.returns
unfolding footer_form
returns c =
    let s3 = ends end_object _ _ c.in_ok-take_end.ensures in
    let s2 = then_tree (moment.tree c.in_ok-end.end) c.in_ok-end.ensures.first s3 in
    let s1 = then_token (key (codes "endTime")) c.in_ok-take_key.ensures s2 in
    let s0 = then_token (begin_object) c.in_ok-take_object.ensures s1 in
    record { first = s0.is; fits = c.in_ok-end.ensures.fits }
