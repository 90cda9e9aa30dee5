use Rattle.std.proofs.Common.{rules}
use Rattle.std.proofs.lemmas.Fn.{filter_same}
use Rattle.pm_notify.specs.Kept.{lasts}
use Rattle.pm_notify.proofs.notices.keep.Goals as goal

pub returns-clause-notices : goal.returns-clause-notices
returns-clause-notices c = filter_same _ (lasts c.args.moment) _ (λ x b f' k. search rules) _ _ c.retain.ensures.filtered
