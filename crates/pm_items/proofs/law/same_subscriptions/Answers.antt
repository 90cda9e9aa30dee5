use Rattle.pm_items.proofs.SubscribedLemmas.{same_subscriptions}
use Rattle.pm_items.proofs.law.same_subscriptions.Goals as goal

pub returns : goal.returns
returns c = same_subscriptions
