use Rattle.pm_events.proofs.BatchLineLemmas.{event-line}
use Rattle.pm_events.proofs.law.batch_lines_are_event_lines.Goals as goal

pub returns : goal.returns
returns c = event-line
