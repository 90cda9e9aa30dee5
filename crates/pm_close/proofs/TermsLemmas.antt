-- What a job that stands keeps is what its body asks for.
use Rattle.std.proofs.Common.{◌≡◌, ◌/◌, List, length, Option, Some, None, sym, ap, subst, ◌∙◌}
use Rattle.std.specs.List.{list_any}
use Rattle.std.specs.Option.{option_map}
use Rattle.pm_meas.specs.declared.def.Def.{Def}
use Rattle.pm_inventory.specs.Inventory.{InventoryState, slots}
use Rattle.pm_history.specs.declared.entry.Side.TheVariants.{Job}
use Rattle.pm_history.specs.Terms.{Terms}
use Rattle.pm_asked.specs.Body.{JobBody}
use Rattle.pm_asked.specs.BodyReading.{job_body}
use Rattle.pm_asked.specs.Asked.{asks_for, ticks_of, job_terms, or_no_terms, measured_asked, metrics_asked, objects_asked, terms_of}
use Rattle.pm_jobs.specs.declared.standing.Standing.{Standing}
use Rattle.pm_jobs.specs.Asked.{Asked, job_asked, metrics_of, objects_of}
use Rattle.pm_jobs.specs.Numbered.{AreBelow, numbered}
use Rattle.pm_jobs.specs.Stands.{Keeps, Fits}
use Rattle.pm_jobs.proofs.PlacesWithinLemmas.{numbered_back, places_below}
use Rattle.pm_close.specs.declared.measure.Measure.{Measure}
use Rattle.pm_close.specs.Parts.{ReadEach, quantities_of}
use Rattle.pm_close.specs.Measures.{quantities_asked}
use Rattle.pm_close.proofs.QuantityLemmas.{quantities-asked}

-- the terms of a job by its numbers
pub record HasTerms (inventory : InventoryState) (s : Standing) (t : Terms) : Type 0 where
  pub granularity : t.granularity ≡ ticks_of s.granularity
  pub parts : t.parts ≡ s.reporting / ticks_of s.granularity
  pub measured : t.measured ≡ measured_asked inventory (numbered inventory s.metrics.items) s.objects.items

terms-fit : (inventory : InventoryState) (s : Standing) (body : JobBody) (asked : Asked) → job_asked body ≡ asked → Fits inventory asked s
    → HasTerms inventory s (job_terms inventory body)
terms-fit inventory s body asked is fits =
    let seconds : s.granularity ≡ body.granularity = fits.granularity ∙ sym (ap (λ (a : Asked). a.granularity) is) in
    let minutes : s.reporting ≡ body.reporting = fits.reporting ∙ sym (ap (λ (a : Asked). a.reporting) is) in
    let metrics : metrics_asked inventory body.metrics ≡ numbered inventory s.metrics.items =
    ap (λ (a : Asked). metrics_of inventory a) is
    ∙ (sym (numbered_back (λ (def : Def). list_any (asks_for def) asked.metrics) inventory.measures)
    ∙ sym (ap (numbered inventory) fits.metrics)) in
    let objects : objects_asked inventory body.objects body.roots ≡ s.objects.items = ap (λ (a : Asked). objects_of inventory a) is ∙ sym fits.objects in
    record {
      granularity = ap ticks_of (sym seconds);
      parts = λ i. sym minutes i / ticks_of (sym seconds i);
      measured = λ i. measured_asked inventory (metrics i) (objects i);
    }

pub job-terms : (inventory : InventoryState) (s : Standing) → Keeps inventory Job s → HasTerms inventory s (terms_of inventory Job s.body)
unfolding terms_of
job-terms inventory s keeps = by (job_body s.body) keeps.says
  where
    by : (o : Option JobBody) → option_map job_asked o ≡ Some keeps.asked → HasTerms inventory s (or_no_terms (job_terms inventory) o)
    by None is = cc
    by (Some body) is = let same : job_asked body ≡ keeps.asked = cc in terms-fit inventory s body keeps.asked same keeps.fits

pub metrics-below : (inventory : InventoryState) (s : Standing) → Keeps inventory Job s → AreBelow (length inventory.measures) s.metrics.items
metrics-below inventory s keeps =
    subst (AreBelow (length inventory.measures)) (sym keeps.fits.metrics)
    (places_below (λ (def : Def). list_any (asks_for def) keeps.asked.metrics) inventory.measures)

-- measures of its numbers read what its body asks for
pub reads-terms : (inventory : InventoryState) (s : Standing) (measures : List Measure) → Keeps inventory Job s
    → ReadEach (slots inventory) measures (quantities_asked inventory s.metrics.items s.objects.items)
    → ReadEach (slots inventory) measures (quantities_of (terms_of inventory Job s.body).measured)
reads-terms inventory s measures keeps reads =
    let has = job-terms inventory s keeps in
    subst (ReadEach (slots inventory) measures)
    (sym (ap quantities_of has.measured ∙ quantities-asked inventory s.metrics.items s.objects.items)) reads
