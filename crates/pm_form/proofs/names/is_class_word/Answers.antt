use Rattle.std.proofs.Common.{◌∙◌}
use Rattle.pm_form.proofs.NameLemmas.{class_word-found}
use Rattle.pm_form.proofs.names.is_class_word.Goals as goal

pub returns : goal.returns
returns c = c.is_some.ensures ∙ class_word-found c.args.bytes.now c.from_name.result c.from_name.ensures
