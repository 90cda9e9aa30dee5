use Rattle.std.proofs.Common.{codes, map}
use Rattle.json.specs.Token.{begin_object, end_object, key}
use Rattle.serde_json.specs.Data.{string}
use Rattle.pm_form.specs.Lists.{list_of}
use Rattle.pm_file.specs.Report.{row_content}
use Rattle.pm_file.specs.ReportForm.{group_form, type_form, row_form}
use Rattle.pm_file.proofs.UsualLemmas.{ends, then_token, then_tree, and}
use Rattle.pm_file.proofs.usual_groups.usual_group.Goals as goal

pub returns : goal.returns
unfolding group_form
returns c =
    let s7 = ends end_object _ _ c.in_ok-take_end.ensures in
    let s6 = then_tree (string c.in_ok-class.class) c.in_ok-class.ensures.first s7 in
    let s5 = then_token (key (codes "objectClass")) c.in_ok-take_key-3.ensures s6 in
    let s4 = then_tree ((list_of row_form).tree (map row_content c.in_ok-rows.rows.items)) c.in_ok-rows.ensures.first s5 in
    let s3 = then_token (key (codes "measValues")) c.in_ok-take_key-2.ensures s4 in
    let s2 = then_tree ((list_of type_form).tree c.in_ok-types.types.items) c.in_ok-types.ensures.first s3 in
    let s1 = then_token (key (codes "measTypes")) c.in_ok-take_key.ensures s2 in
    let s0 = then_token (begin_object) c.in_ok-take_object.ensures s1 in
    record {
      first = s0.is;
      fits = and _ _ c.in_ok-types.ensures.fits
          (and _ _ c.in_ok-rows.ensures.fits c.in_ok-class.ensures.fits);
    }
