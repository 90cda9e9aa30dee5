use Rattle.std.proofs.Common.{◌↔◌, IsTrue, subst}
use Rattle.pm_name.specs.FileName.{FileType, IsFileSpan}
use Rattle.pm_form.proofs.NameLemmas.{same_test}
use Rattle.pm_file.specs.Agreement.{is_file_span}
use Rattle.pm_file.proofs.SpanLemmas.{IsFileSpan-test, test-IsFileSpan}
use Rattle.pm_file.proofs.agreement.is_file_span.Goals as goal

pub returns : goal.returns
returns c =
    let one = c.args.one_part in
    let P : FileType → Type 0 = λ k. IsTrue c.can_span.result ↔ IsFileSpan k c.args.begin c.args.end in
    same_test c.can_span.result (is_file_span one c.args.begin c.args.end) (subst P c.of_period.ensures c.can_span.ensures)
    (IsFileSpan-test one c.args.begin c.args.end) (test-IsFileSpan one c.args.begin c.args.end)
