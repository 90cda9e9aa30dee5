-- What the reports of a job are made of, where it keeps what its body asks for.
use Rattle.std.proofs.Common.{◌≡◌, ℕ, ◌*◌, ◌/◌, ◌%◌, ◌<◌, ◌≤◌, ◌||◌, not, Bool, true, false, List, [], ◌∷◌, length, Option, Some, None, refl, sym, ap, subst, ◌∙◌, arith, eqb}
use Rattle.std.specs.List.{list_any, list_all, AllByRecursion}
use Rattle.std.specs.Option.{option_map}
use Rattle.std.proofs.lemmas.Bool.{eqb-true}
use Rattle.pm_dn.specs.Refusal.{when_broken, first_code}
use Rattle.pm_dn.specs.Tree as tree
use Rattle.pm_dn.specs.Tree.{IsTree}
use Rattle.pm_meas.specs.declared.def.Def.{Def}
use Rattle.pm_meas.specs.Catalogue.{IsCatalogue}
use Rattle.pm_history.specs.declared.entry.Side.TheVariants.{Job}
use Rattle.pm_history.specs.Terms.{Terms, Measured, reporting}
use Rattle.pm_inventory.specs.Inventory.{InventoryState}
use Rattle.pm_asked.specs.Body.{JobBody}
use Rattle.pm_asked.specs.BodyReading.{job_body}
use Rattle.pm_asked.specs.Asked as asked
use Rattle.pm_asked.specs.Asked.{Numbered, asks_for, measured_asked, terms_of, or_no_terms, job_terms}
use Rattle.pm_file.specs.Agreement.{is_some_list, is_granularity}
use Rattle.pm_jobs.specs.declared.error.JobError.TheVariants.{J3, J4, J5, J6, J7}
use Rattle.pm_jobs.specs.declared.standing.Standing.{Standing}
use Rattle.pm_jobs.specs.Asked.{Asked, job_asked, metrics_of, objects_of}
use Rattle.pm_jobs.specs.Numbered.{numbered, AreBelow}
use Rattle.pm_jobs.specs.Rules.{is_metric, is_measured, is_period, is_reporting, reports}
use Rattle.pm_jobs.specs.Stands.{Keeps}
use Rattle.pm_jobs.proofs.PermittedLemmas.{job_permitted}
use Rattle.pm_jobs.proofs.PlacesWithinLemmas.{places_below, numbered_back}
use Rattle.pm_form.specs.Names.{job_id}
use Rattle.pm_file.specs.ReportForm.{element_name}
use Rattle.pm_ready.specs.Files.{element_of}
use Rattle.pm_ready.specs.Shape.{AskSame, CanReport, HasNames, classes_rise}
use Rattle.pm_ready.proofs.BoolLemmas.{both}
use Rattle.pm_ready.proofs.AskedLemmas.{has_objects, have_names, all-measured, is-some, some-metrics}
use Rattle.pm_ready.proofs.RiseLemmas.{rise}

-- ---- periods

either : (a b : Bool) {P : Type 0} → (a ≡ true → P) → (b ≡ true → P) → (a || b) ≡ true → P
either true b f g e = f refl
either false b f g e = g e

-- what holds of each granularity period
periods : (g : ℕ) (P : ℕ → Type 0) → P 60 → P 300 → P 900 → P 1800 → P 3600 → is_period g ≡ true → P g
periods g P a b c d e is =
    let at : (n : ℕ) → P n → eqb g n ≡ true → P g = λ n p h. subst P (sym (eqb-true g n h)) p in
    either _ (eqb g 3600) (either _ (eqb g 1800) (either _ (eqb g 900) (either (eqb g 60) (eqb g 300) (at 60 a) (at 300 b)) (at 900 c)) (at 1800 d)) (at 3600 e) is

pub whole-ticks : (g : ℕ) → is_period g ≡ true → 60 * (g / 60) ≡ g
whole-ticks g is = periods g (λ n. 60 * (n / 60) ≡ n) refl refl refl refl refl is

pub some-ticks : (g : ℕ) → is_period g ≡ true → 0 < g / 60
some-ticks g is = periods g (λ n. 0 < n / 60) (omega arith) (omega arith) (omega arith) (omega arith) (omega arith) is

pub permitted-period : (g : ℕ) → is_period g ≡ true → is_granularity (60 * (g / 60)) ≡ true
permitted-period g is = periods g (λ n. is_granularity (60 * (n / 60)) ≡ true) refl refl refl refl refl is

pub whole-parts : (g r : ℕ) → is_period g ≡ true → (60 * r) % g ≡ 0 → (r / (g / 60)) * (g / 60) ≡ r
whole-parts g r is =
    periods g (λ n. (60 * r) % n ≡ 0 → (r / (n / 60)) * (n / 60) ≡ r) (λ h. omega (arith, h)) (λ h. omega (arith, h)) (λ h. omega (arith, h))
    (λ h. omega (arith, h)) (λ h. omega (arith, h)) is

pub multiple : (g r : ℕ) → is_reporting g r ≡ true → (60 * r) % g ≡ 0
multiple g r e = eqb-true ((60 * r) % g) 0 (both _ (eqb ((60 * r) % g) 0) e).1

-- ---- the rules that its body keeps

pub record Kept (a b c d e f : Bool) : Type 0 where
  pub metrics : a ≡ true
  pub measured : d ≡ true
  pub reporting : f ≡ true

rules : (a b c d e f : Bool)
    → first_code
    (when_broken (not a) J3 ∷ when_broken (not b) J4 ∷ when_broken (not c) J4 ∷ when_broken (not d) J5 ∷ when_broken (not e) J6 ∷ when_broken (not f) J7 ∷ [])
    ≡ None → Kept a b c d e f
rules false b c d e f none = cc
rules true false c d e f none = cc
rules true true false d e f none = cc
rules true true true false e f none = cc
rules true true true true false f none = cc
rules true true true true true false none = cc
rules true true true true true true none = record { metrics = refl; measured = refl; reporting = refl }

map_some : {A B : Type 0} (f : A → B) (o : Option A) (y : B) → option_map f o ≡ Some y → (x : A) × (o ≡ Some x) × (f x ≡ y)
map_some f None y e = absurd cc
map_some f (Some x) y e = (x, refl, cc)

module _ (inventory : InventoryState) (job : Standing) (keeps : Keeps inventory Job job) where
  body : (b : JobBody) × (job_body job.body ≡ Some b) × (job_asked b ≡ keeps.asked)
  body = map_some job_asked (job_body job.body) keeps.asked keeps.says

  kept : Kept (list_all (is_metric inventory) keeps.asked.metrics) (list_all (tree.stands inventory.objects) keeps.asked.objects)
      (list_all (tree.stands inventory.objects) keeps.asked.roots)
      (list_all (is_measured inventory (objects_of inventory keeps.asked)) (metrics_of inventory keeps.asked)) (is_period keeps.asked.granularity)
      (reports Job keeps.asked)
  kept = rules _ _ _ _ _ _ keeps.permitted

  pub kept-period : is_period job.granularity ≡ true
  kept-period = ap is_period keeps.fits.granularity ∙ keeps.fits.period

  pub kept-reporting : is_reporting job.granularity job.reporting ≡ true
  kept-reporting = (λ i. is_reporting (keeps.fits.granularity i) (keeps.fits.reporting i)) ∙ kept.reporting

  pub kept-metrics : AreBelow (length inventory.measures) job.metrics.items
  kept-metrics =
      subst (AreBelow (length inventory.measures)) (sym keeps.fits.metrics) (places_below (λ (def : Def). list_any (asks_for def) keeps.asked.metrics) inventory.measures)

  pub kept-objects : AreBelow (length inventory.objects) job.objects.items
  kept-objects =
      subst (AreBelow (length inventory.objects)) (sym keeps.fits.objects)
      (places_below (asked.is_asked keeps.asked.objects keeps.asked.roots) inventory.objects)

  back : numbered inventory job.metrics.items ≡ metrics_of inventory keeps.asked
  back = ap (numbered inventory) keeps.fits.metrics ∙ numbered_back (λ (def : Def). list_any (asks_for def) keeps.asked.metrics) inventory.measures

  pub measured-is : measured_asked inventory (numbered inventory job.metrics.items) job.objects.items
      ≡ measured_asked inventory (metrics_of inventory keeps.asked) (objects_of inventory keeps.asked)
  measured-is = λ i. measured_asked inventory (back i) (keeps.fits.objects i)

  pub kept-objects-measured : list_all has_objects (measured_asked inventory (numbered inventory job.metrics.items) job.objects.items) ≡ true
  kept-objects-measured =
      ap (list_all has_objects) measured-is ∙ all-measured inventory (metrics_of inventory keeps.asked) (objects_of inventory keeps.asked) kept.measured

  some-of : (texts : List (List ℕ)) → 1 ≤ length texts → list_all (is_metric inventory) texts ≡ true
      → is_some_list (asked.metrics_asked inventory texts) ≡ true
  some-of [] le all = absurd (omega arith)
  some-of (t ∷ ts) le all = some-metrics inventory t ts inventory.measures 0 (both (is_metric inventory t) (list_all (is_metric inventory) ts) all).0

  pub kept-some : is_some_list (measured_asked inventory (numbered inventory job.metrics.items) job.objects.items) ≡ true
  kept-some =
      let is = job_permitted job.body body.0 body.1 in
      let least : 1 ≤ length keeps.asked.metrics = subst (λ (a : Asked). 1 ≤ length a.metrics) body.2 is.metrics.0 in
      ap is_some_list measured-is
      ∙ is-some inventory (metrics_of inventory keeps.asked) (objects_of inventory keeps.asked) (some-of keeps.asked.metrics least kept.metrics)

  -- what its body asks for
  pub asks-same : (t : Terms) → t.granularity ≡ job.granularity / 60 → t.parts ≡ job.reporting / (job.granularity / 60)
      → t.measured ≡ measured_asked inventory (numbered inventory job.metrics.items) job.objects.items
      → AskSame t (terms_of inventory Job job.body)
  unfolding terms_of
  asks-same t g p m =
      let b = body.0 in
      let terms : terms_of inventory Job job.body ≡ job_terms inventory b = ap (or_no_terms (job_terms inventory)) body.1 in
      let granularity : job.granularity ≡ b.granularity = keeps.fits.granularity ∙ ap (λ (a : Asked). a.granularity) (sym body.2) in
      let reporting : job.reporting ≡ b.reporting = keeps.fits.reporting ∙ ap (λ (a : Asked). a.reporting) (sym body.2) in
      let of : measured_asked inventory (metrics_of inventory keeps.asked) (objects_of inventory keeps.asked) ≡ (job_terms inventory b).measured =
      ap (λ (a : Asked). measured_asked inventory (metrics_of inventory a) (objects_of inventory a)) (sym body.2) in
      record {
        granularity = g ∙ ap (λ n. n / 60) granularity ∙ ap (λ (u : Terms). u.granularity) (sym terms);
        parts = p ∙ (λ i. reporting i / (granularity i / 60)) ∙ ap (λ (u : Terms). u.parts) (sym terms);
        measured = m ∙ measured-is ∙ of ∙ ap (λ (u : Terms). u.measured) (sym terms);
      }

-- ---- what the program made

pub can_report : (inventory : InventoryState) (id ns os : List ℕ) (g r : ℕ) (t : Terms) → job_id id ≡ true → element_name (element_of inventory) ≡ true
    → is_period g ≡ true → is_reporting g r ≡ true → IsCatalogue inventory.measures → IsTree inventory.objects
    → AreBelow (length inventory.measures) ns → AreBelow (length inventory.objects) os
    → t.granularity ≡ g / 60 → t.parts ≡ r / (g / 60) → t.measured ≡ measured_asked inventory (numbered inventory ns) os
    → is_some_list t.measured ≡ true → list_all has_objects t.measured ≡ true → CanReport inventory id t
can_report inventory id ns os g r t named sender period length catalogue tree metrics objects granularity parts measured some each =
    let ticks : 60 * t.granularity ≡ g = ap (λ n. 60 * n) granularity ∙ whole-ticks g period in
    let minutes : reporting t ≡ r = (λ i. parts i * granularity i) ∙ whole-parts g r period (multiple g r length) in
    record {
      named = named;
      sender = sender;
      period = ap (λ n. is_granularity (60 * n)) granularity ∙ permitted-period g period;
      length = (λ i. is_reporting (ticks i) (minutes i)) ∙ length;
      some = some;
      rise = ap classes_rise measured ∙ rise inventory (numbered inventory ns) os;
      each = subst (λ (l : List Measured). AllByRecursion (HasNames inventory) l) (sym measured)
          (have_names inventory ns os catalogue tree metrics objects (ap (list_all has_objects) (sym measured) ∙ each));
    }
