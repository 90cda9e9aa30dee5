use Rattle.std.proofs.Common.{sym, ◌∙◌}
use Rattle.pm_notice.proofs.NameTestLemmas.{is_file_name-short}
use Rattle.pm_notice.proofs.listed.file_name_in.Goals as goal

pub copied_if-requires : goal.copied_if-requires
copied_if-requires c = λ e. is_file_name-short c.in-Some.name.now (sym c.is_file_name.ensures ∙ e)
