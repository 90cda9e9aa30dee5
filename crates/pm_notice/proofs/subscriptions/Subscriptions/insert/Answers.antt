use Rattle.std.proofs.Common.{◌∙◌}
use Rattle.pm_notice.proofs.InsertLemmas.{insert-with}
use Rattle.pm_notice.proofs.subscriptions.Subscriptions.insert.Goals as goal

pub returns : goal.returns
returns c =
    c.in-Ok.ensures.items ∙ insert-with c.args.made c.args.self.now.items.items c.place_for-place.result (rw c.as_bytes.ensures.value at c.place_for-place.ensures) c.requires.0
