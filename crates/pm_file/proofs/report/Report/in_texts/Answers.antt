use Rattle.std.proofs.Common.{arith}
use Rattle.pm_file.specs.Numbers.{report_in_texts}
use Rattle.pm_file.specs.Numbered.{report_of}
use Rattle.pm_file.proofs.NameLemmas.{permitted-body}
use Rattle.pm_file.proofs.NumberLemmas.{report_moments}
use Rattle.pm_file.proofs.WriteLemmas.{body_parts}
use Rattle.pm_file.proofs.report.Report.in_texts.Goals as goal

pub overflow_mul-begin : goal.overflow_mul-begin
overflow_mul-begin c =
    let r = report_in_texts c.args.inventory.now c.args.sender (report_of c.args.report) in
    let m = (report_moments r (permitted-body r c.requires)).0 in omega (arith, m)

pub overflow_mul-end : goal.overflow_mul-end
overflow_mul-end c =
    let r = report_in_texts c.args.inventory.now c.args.sender (report_of c.args.report) in
    let m = (report_moments r (permitted-body r c.requires)).1 in omega (arith, m)

pub parts_texts-requires : goal.parts_texts-requires
parts_texts-requires c =
    let r = report_in_texts c.args.inventory.now c.args.sender (report_of c.args.report) in
    rw c.deref.ensures.value (body_parts r (permitted-body r c.requires))
