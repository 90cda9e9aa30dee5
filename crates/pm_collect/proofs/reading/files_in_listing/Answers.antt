use Rattle.std.proofs.Common.{Some, ap, ◌∙◌}
use Rattle.pm_collect.specs.Told.{listing_names}
use Rattle.pm_collect.proofs.NamesLemmas.{names_listed}
use Rattle.pm_collect.proofs.reading.files_in_listing.Goals as goal

pub returns-in-Ok : goal.returns-in-Ok
returns-in-Ok c = ap listing_names c.in-Ok.ensures ∙ ap (λ l. Some l) (names_listed c.in-Ok.files.items)
