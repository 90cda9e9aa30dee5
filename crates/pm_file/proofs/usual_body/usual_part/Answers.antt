use Rattle.std.proofs.Common.{codes, map}
use Rattle.json.specs.Token.{begin_object, end_object, key}
use Rattle.pm_form.specs.Values.{whole}
use Rattle.pm_form.specs.Lists.{list_of}
use Rattle.pm_file.specs.Report.{group_content}
use Rattle.pm_file.specs.ReportForm.{part_form, moment, group_form}
use Rattle.pm_file.proofs.UsualLemmas.{ends, then_token, then_tree, and}
use Rattle.pm_file.proofs.usual_body.usual_part.Goals as goal

pub returns : goal.returns
unfolding part_form
returns c =
    let s9 = ends end_object _ _ c.in_ok-take_end.ensures in
    let s8 = then_tree ((list_of group_form).tree (map group_content c.in_ok-groups.groups.items))
    c.in_ok-groups.ensures.first s9 in
    let s7 = then_token (key (codes "measInfo")) c.in_ok-take_key-4.ensures s8 in
    let s6 = then_tree ((whole 18446744073709551615).tree c.in_ok-granularity.granularity) c.in_ok-granularity.ensures.first
    s7 in
    let s5 = then_token (key (codes "granularityPeriod")) c.in_ok-take_key-3.ensures s6 in
    let s4 = then_tree (moment.tree c.in_ok-end.end) c.in_ok-end.ensures.first s5 in
    let s3 = then_token (key (codes "endTime")) c.in_ok-take_key-2.ensures s4 in
    let s2 = then_tree (moment.tree c.in_ok-begin.begin) c.in_ok-begin.ensures.first s3 in
    let s1 = then_token (key (codes "beginTime")) c.in_ok-take_key.ensures s2 in
    let s0 = then_token (begin_object) c.in_ok-take_object.ensures s1 in
    record {
      first = s0.is;
      fits = and _ _ c.in_ok-begin.ensures.fits
          (and _ _ c.in_ok-end.ensures.fits (and _ _ c.in_ok-granularity.ensures.fits c.in_ok-groups.ensures.fits));
    }
