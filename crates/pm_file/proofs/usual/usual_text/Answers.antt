use Rattle.pm_file.specs.Body.{body_content}
use Rattle.pm_file.proofs.UsualTextLemmas.{usual_tree, none_left}
use Rattle.pm_file.proofs.usual.usual_text.Goals as goal

pub returns-clause-says : goal.returns-clause-says
returns-clause-says c =
    usual_tree (body_content c.in_ok-body.body) c.args.bytes.now c.in-Ok-new.reader c.usual_body.new.reader
    c.in-Ok.ensures.cases.1
    (rw c.in-Ok.ensures.cases.0 at c.in-Ok-new.ensures.ok)
    (none_left c.next.result _ _ c.if-is_some.ensures c.next.ensures.value)
    c.in_ok-body.ensures
