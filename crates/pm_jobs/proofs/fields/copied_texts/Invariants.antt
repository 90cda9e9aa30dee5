use Rattle.std.proofs.Common.{◌≡◌, drop}
use Rattle.serde_json.specs.View.{items_view}
use Rattle.pm_asked.specs.BodyReading.{texts_of}
use Rattle.pm_jobs.specs.Content.{texts}
use Rattle.pm_jobs.proofs.EachLemmas.{joined}
use Rattle.pm_jobs.proofs.fields.copied_texts.Given as goal

abbrev pub invariant-loop-item : goal.invariant-loop-item
invariant-loop-item l = texts_of (items_view l.items) ≡ joined (texts l.copied) (texts_of (items_view (drop l.item-index l.items)))
