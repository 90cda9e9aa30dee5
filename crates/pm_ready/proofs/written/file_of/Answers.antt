use Rattle.pm_file.specs.Name.{report_name}
use Rattle.pm_file.specs.Says.{content_of}
use Rattle.pm_file.proofs.NameLemmas.{permitted-body}
use Rattle.pm_file.proofs.NumberLemmas.{report_moments}
use Rattle.pm_notice.proofs.NamePassLemmas.{is_file_name-says}
use Rattle.pm_ready.proofs.written.file_of.Goals as goal

pub invariant_of-result : goal.invariant_of-result
invariant_of-result c =
    let content = content_of c.args.report.now in
    record {
      named = is_file_name-says c.in_ok-name.name (report_name content, c.in_ok-name.ensures.text);
      ready = (report_moments content (permitted-body content c.args.report.now.permitted)).1;
      size = c.len-size.ensures;
    }
