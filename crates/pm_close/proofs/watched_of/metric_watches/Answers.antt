use Rattle.pm_close.specs.Watched.{object_numbers}
use Rattle.pm_close.proofs.watched_of.metric_watches.Goals as goal

pub returns-clause-begin : goal.returns-clause-begin
returns-clause-begin c = c.in_ok-objects.ensures.begin (object_numbers c.in_ok-objects.objects.items)
