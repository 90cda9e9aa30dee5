use Rattle.std.proofs.Common.{◌≡◌, ◌∙◌, ◌*◌, ◌/◌, true, false, List, [], ◌∷◌, map, length, refl, sym, ap, arith}
use Rattle.std.specs.List.{list_all}
use Rattle.std.proofs.lemmas.Bool.{eqb-true, eq-eqb}
use Rattle.std.proofs.lemmas.List.{nil_from_length}
use Rattle.std.proofs.lemmas.List.Folds.{list_all-map}
use Rattle.pm_file.specs.Agreement.{is_some_list}
use Rattle.pm_form.specs.Names.{job_id}
use Rattle.pm_file.specs.ReportForm.{element_name}
use Rattle.pm_ready.specs.declared.measured.Measured.{Measured}
use Rattle.pm_ready.specs.Measured.{measured_of}
use Rattle.pm_jobs.specs.Numbered.{numbered, AreBelow}
use Rattle.pm_jobs.specs.Rules.{is_period, is_reporting}
use Rattle.pm_asked.specs.Asked.{measured_asked}
use Rattle.pm_ready.proofs.AskedLemmas.{has_objects}
use Rattle.pm_ready.proofs.PermittedLemmas.{reports}
use Rattle.pm_ready.proofs.ShapeLemmas.{whole-parts, multiple, can_report, kept-metrics, kept-objects, kept-objects-measured, kept-some, asks-same}
use Rattle.pm_ready.proofs.StepLemmas.{vec_len_is}
use Rattle.pm_ready.proofs.shape.Shape.of.Goals as goal

not_empty : (ms : List Measured) → (length ms ≡ 0 → ⊥) → is_some_list (map measured_of ms) ≡ true
not_empty [] other = absurd (other refl)
not_empty (m ∷ ms) other = refl

pub returns-then-not-are_metrics : goal.returns-then-not-are_metrics
returns-then-not-are_metrics c =
    λ keeps.
    let bad : false ≡ true = c.if-not-are_metrics.ensures.1 (rw (c.deref.ensures.value, c.len.ensures.value, c.catalogue.ensures) (kept-metrics c.args.inventory.now c.args.job.now keeps)) in
    cc

pub returns-then-not-are_objects : goal.returns-then-not-are_objects
returns-then-not-are_objects c =
    λ keeps.
    let bad : false ≡ true = c.if-not-are_objects.ensures.1 (rw (c.deref-2.ensures.value, c.len-2.ensures.value, c.tree.ensures) (kept-objects c.args.inventory.now c.args.job.now keeps)) in
    cc

pub returns-then-is_empty : goal.returns-then-is_empty
returns-then-is_empty c =
    λ keeps.
    let measured = c.in_ok-measured.measured in
    let empty = eqb-true _ 0 (sym c.is_empty.ensures ∙ c.if-is_empty.true) in
    let items = nil_from_length measured.items (sym (vec_len_is measured) ∙ empty) in
    let some = kept-some c.args.inventory.now c.args.job.now keeps in
    let all = rw (c.deref-3.ensures.value, c.deref-4.ensures.value) at c.in_ok-measured.ensures in
    let bad : false ≡ true = ap (λ l. is_some_list (map measured_of l)) (sym items) ∙ ap is_some_list all ∙ some in
    cc

pub returns-then-not-have_objects : goal.returns-then-not-have_objects
returns-then-not-have_objects c =
    λ keeps.
    let measured = c.in_ok-measured.measured in
    let all = rw (c.deref-3.ensures.value, c.deref-4.ensures.value) at c.in_ok-measured.ensures in
    let kept = kept-objects-measured c.args.inventory.now c.args.job.now keeps in
    let test = sym c.if-not-have_objects.true ∙ c.have_objects.ensures in
    let bad : false ≡ true =
    rw c.deref-5.ensures.value at test ∙ sym (list_all-map has_objects measured_of measured.items) ∙ ap (list_all has_objects) all ∙ kept in
    cc

pub invariant_of-result : goal.invariant_of-result
invariant_of-result c =
    let g = c.args.job.now.granularity in
    let r = c.args.job.now.reporting in
    let period : is_period g ≡ true = sym c.is_period.ensures ∙ c.if-not-is_period.false in
    let minutes : is_reporting g r ≡ true = sym c.is_reporting.ensures ∙ c.if-not-is_reporting.false in
    let granularity : c.from-granularity.result ≡ g / 60 = c.from-granularity.ensures in
    let reporting : c.from-reporting.result ≡ r = c.from-reporting.ensures in
    let is = reports g r minutes in
    record {
      product = (λ i. (reporting i / granularity i) * granularity i) ∙ whole-parts g r period (multiple g r minutes) ∙ sym reporting;
      some_ticks = let some = is.some in omega (arith, some, reporting);
      day = let most = is.most in omega (arith, most, reporting);
    }

pub returns : goal.returns
returns c =
    let inventory = c.args.inventory.now in
    let job = c.args.job.now in
    let measured = c.in_ok-measured.measured in
    let period : is_period job.granularity ≡ true = sym c.is_period.ensures ∙ c.if-not-is_period.false in
    let minutes : is_reporting job.granularity job.reporting ≡ true = sym c.is_reporting.ensures ∙ c.if-not-is_reporting.false in
    let granularity : c.from-granularity.result ≡ job.granularity / 60 = c.from-granularity.ensures in
    let reporting : c.from-reporting.result ≡ job.reporting = c.from-reporting.ensures in
    let parts : c.from-reporting.result / c.from-granularity.result ≡ job.reporting / (job.granularity / 60) = λ i. reporting i / granularity i in
    let all : map measured_of measured.items ≡ measured_asked inventory (numbered inventory job.metrics.items) job.objects.items =
    rw (c.deref-3.ensures.value, c.deref-4.ensures.value) at c.in_ok-measured.ensures in
    let named = ap job_id (sym c.as_bytes.ensures.value) ∙ sym c.is_job_id.ensures ∙ c.if-not-is_job_id.false in
    let sender = ap element_name (sym c.managed_element-element.ensures.value) ∙ c.managed_element-element.ensures.element in
    let metrics : AreBelow (length inventory.measures) job.metrics.items =
    rw (c.deref.ensures.value, c.len.ensures.value, c.catalogue.ensures) at (c.if-not-are_metrics.ensures.0 refl) in
    let objects : AreBelow (length inventory.objects) job.objects.items =
    rw (c.deref-2.ensures.value, c.len-2.ensures.value, c.tree.ensures) at (c.if-not-are_objects.ensures.0 refl) in
    let catalogue = rw c.catalogue.ensures at c.len.ensures.catalogue in
    let tree = rw c.tree.ensures at c.len-2.ensures.let_in in
    let some = not_empty measured.items (λ zero_is.
    let test = sym c.if-is_empty.false ∙ c.is_empty.ensures ∙ eq-eqb _ 0 (vec_len_is measured ∙ zero_is) in
    let bad : false ≡ true = test in
    cc) in
    let each = list_all-map has_objects measured_of measured.items ∙ sym (rw c.deref-5.ensures.value at c.have_objects.ensures) ∙ c.if-not-have_objects.false in (
      can_report inventory job.id job.metrics.items job.objects.items job.granularity job.reporting _ named sender period minutes catalogue tree metrics objects
          granularity parts all some each,
      λ keeps. asks-same inventory job keeps _ granularity parts all,
    )
