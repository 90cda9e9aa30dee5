use Rattle.pm_items.proofs.PlaceLemmas.{places_untold}
use Rattle.pm_items.proofs.law.places_untold.Goals as goal

pub returns : goal.returns
returns c = places_untold
