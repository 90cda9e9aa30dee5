use Rattle.std.proofs.Common.{codes, map}
use Rattle.json.specs.Token.{begin_object, end_object, key}
use Rattle.pm_form.specs.Lists.{list_of}
use Rattle.pm_file.specs.Reading.{header_content, read_part_content}
use Rattle.pm_file.specs.ReportForm.{body_form, footer_form, header_form, part_form}
use Rattle.pm_file.proofs.UsualLemmas.{ends, then_token, then_tree, and}
use Rattle.pm_file.proofs.usual_body.usual_body.Goals as goal

pub returns : goal.returns
unfolding body_form
returns c =
    let s7 = ends end_object _ _ c.in_ok-take_end.ensures in
    let s6 = then_tree ((list_of part_form).tree (map read_part_content c.in_ok-parts.parts.items))
    c.in_ok-parts.ensures.first s7 in
    let s5 = then_token (key (codes "measData")) c.in_ok-take_key-3.ensures s6 in
    let s4 = then_tree (header_form.tree (header_content c.in_ok-header.header)) c.in_ok-header.ensures.first s5 in
    let s3 = then_token (key (codes "fileHeader")) c.in_ok-take_key-2.ensures s4 in
    let s2 = then_tree (footer_form.tree c.in_ok-end.end) c.in_ok-end.ensures.first s3 in
    let s1 = then_token (key (codes "fileFooter")) c.in_ok-take_key.ensures s2 in
    let s0 = then_token (begin_object) c.in_ok-take_object.ensures s1 in
    record {
      first = s0.is;
      fits = and _ _ c.in_ok-end.ensures.fits
          (and _ _ c.in_ok-header.ensures.fits c.in_ok-parts.ensures.fits);
    }
