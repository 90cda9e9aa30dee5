use Rattle.std.proofs.Common.{◌∙◌, ap, arith}
use Rattle.pm_notice.specs.NameTest.{is_file_name}
use Rattle.pm_notice.proofs.NameTestLemmas.{says-is_file_name}
use Rattle.pm_ready.proofs.listing.info_of.Goals as goal

pub returns-clause-info : goal.returns-clause-info
returns-clause-info c = record {
  named = says-is_file_name c.in_ok-name.name (ap is_file_name (c.in_ok-name.ensures ∙ c.as_bytes.ensures.value) ∙ c.args.file.now.named);
  ready = c.args.file.now.ready;
  size = omega arith;
}
