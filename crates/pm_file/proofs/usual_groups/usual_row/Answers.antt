use Rattle.std.proofs.Common.{codes, refl}
use Rattle.json.specs.Token.{begin_object, end_object, key, boolean}
use Rattle.serde_json.specs.Data.{string}
use Rattle.pm_form.specs.Lists.{list_of}
use Rattle.pm_file.specs.ReportForm.{row_form, result_form}
use Rattle.pm_file.proofs.UsualLemmas.{ends, then_token, then_tree, and}
use Rattle.pm_file.proofs.usual_groups.usual_row.Goals as goal

pub returns : goal.returns
unfolding row_form
returns c =
    let s7 = ends end_object _ _ c.in_ok-take_end.ensures in
    let s6 = then_token (boolean c.in_ok-suspect.suspect) c.in_ok-suspect.ensures s7 in
    let s5 = then_token (key (codes "suspectFlag")) c.in_ok-take_key-3.ensures s6 in
    let s4 = then_tree ((list_of result_form).tree c.in_ok-results.results.items) c.in_ok-results.ensures.first s5 in
    let s3 = then_token (key (codes "measResults")) c.in_ok-take_key-2.ensures s4 in
    let s2 = then_tree (string c.in_ok-object.object) c.in_ok-object.ensures.first s3 in
    let s1 = then_token (key (codes "measObjInstId")) c.in_ok-take_key.ensures s2 in
    let s0 = then_token (begin_object) c.in_ok-take_object.ensures s1 in
    record { first = s0.is; fits = and _ _ c.in_ok-object.ensures.fits (and _ _ c.in_ok-results.ensures.fits refl) }
