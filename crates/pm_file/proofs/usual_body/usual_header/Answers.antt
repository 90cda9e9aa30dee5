use Rattle.std.proofs.Common.{codes, refl}
use Rattle.json.specs.Token.{begin_object, end_object, key, string}
use Rattle.serde_json.specs.Data as tree
use Rattle.pm_file.specs.ReportForm.{header_form, moment}
use Rattle.pm_file.proofs.UsualLemmas.{ends, then_token, then_tree, and}
use Rattle.pm_file.proofs.usual_body.usual_header.Goals as goal

pub returns : goal.returns
unfolding header_form
returns c =
    let s9 = ends end_object _ _ c.in_ok-take_end.ensures in
    let s8 = then_tree (tree.string c.in_ok-sender.sender) c.in_ok-sender.ensures.first s9 in
    let s7 = then_token (key (codes "senderName")) c.in_ok-take_key-4.ensures s8 in
    let s6 = then_tree (tree.string c.in_ok-job.job) c.in_ok-job.ensures.first s7 in
    let s5 = then_token (key (codes "jobId")) c.in_ok-take_key-3.ensures s6 in
    let s4 = then_token (string (codes "PM1")) c.in_ok-take_word.ensures s5 in
    let s3 = then_token (key (codes "fileFormatVersion")) c.in_ok-take_key-2.ensures s4 in
    let s2 = then_tree (moment.tree c.in_ok-begin.begin) c.in_ok-begin.ensures.first s3 in
    let s1 = then_token (key (codes "beginTime")) c.in_ok-take_key.ensures s2 in
    let s0 = then_token (begin_object) c.in_ok-take_object.ensures s1 in
    record {
      first = s0.is;
      fits = and _ _ c.in_ok-begin.ensures.fits
          (and _ _ refl (and _ _ c.in_ok-job.ensures.fits c.in_ok-sender.ensures.fits));
    }
