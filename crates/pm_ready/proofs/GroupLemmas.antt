-- The groups of a job's report are ones that a text can say.
use Rattle.std.proofs.Common.{◌≡◌, ℕ, zero, suc, ◌+◌, ◌≤◌, ◌&&◌, Bool, true, List, [], ◌∷◌, ◌++◌, length, map, take, drop, Option, refl, sym, ap, ◌∙◌, arith, length-append}
use Rattle.std.specs.List.{list_all, flat_map, AllByRecursion}
use Rattle.std.proofs.lemmas.Bool.{eq-eqb}
use Rattle.std.proofs.lemmas.List.{length-map, length-take-le, length-drop}
use Rattle.pm_inventory.specs.Inventory.{InventoryState}
use Rattle.pm_base.specs.declared.Class.{Class}
use Rattle.pm_base.specs.declared.Class.TheVariants.{ManagedElement, GnbCuCp, NrCellCu, GnbDu, NrCellDu}
use Rattle.pm_base.specs.Class.{class_name}
use Rattle.pm_history.specs.declared.metric.Metric.{Metric}
use Rattle.pm_history.specs.Terms.{Measured}
use Rattle.pm_form.specs.Lists.{each_fits}
use Rattle.pm_form.specs.Names.{class_word}
use Rattle.pm_file.specs.Content.{RowContent}
use Rattle.pm_file.specs.ReportForm.{object_name, result_form, row_form, group_form}
use Rattle.pm_file.specs.Agreement as agreement
use Rattle.pm_file.specs.Agreement.{is_some_list, row_agrees, group_agrees, text_before}
use Rattle.pm_file.specs.Numbers.{metric_text, row_in_texts, group_in_texts}
use Rattle.pm_close.specs.Parts.{Quantity, quantities_on, quantities_in, quantities_of}
use Rattle.pm_close.specs.Files.{rows_with, group_with, groups_with}
use Rattle.pm_ready.specs.Shape.{is_named, HasNames, classes_rise}
use Rattle.pm_ready.proofs.BoolLemmas.{both, and}

each_fits-take : {A : Type 0} (fits : A → Bool) (n : ℕ) (xs : List A) → each_fits fits xs ≡ true → each_fits fits (take n xs) ≡ true
each_fits-take fits zero xs e = refl
each_fits-take fits (suc n) [] e = refl
each_fits-take fits (suc n) (x ∷ xs) e =
    let b = both (fits x) (each_fits fits xs) e in and (fits x) _ b.0 (each_fits-take fits n xs b.1)

each_fits-drop : {A : Type 0} (fits : A → Bool) (n : ℕ) (xs : List A) → each_fits fits xs ≡ true → each_fits fits (drop n xs) ≡ true
each_fits-drop fits zero xs e = e
each_fits-drop fits (suc n) [] e = refl
each_fits-drop fits (suc n) (x ∷ xs) e = each_fits-drop fits n xs (both (fits x) (each_fits fits xs) e).1

-- ---- rows

row_fits : (r : RowContent) → object_name r.object ≡ true → each_fits result_form.fits r.results ≡ true → row_form.fits r ≡ true
unfolding row_form
row_fits r object results = and (object_name r.object) _ object (and (each_fits result_form.fits r.results) true results refl)

class-word : (c : Class) → class_word (class_name c) ≡ true
class-word ManagedElement = refl
class-word GnbCuCp = refl
class-word NrCellCu = refl
class-word GnbDu = refl
class-word NrCellDu = refl

module _ (inventory : InventoryState) where
  rows_fit : (metrics : List Metric) (suspect : Bool) (objects : List ℕ) (values : List (Option ℕ)) → list_all (is_named inventory) objects ≡ true
      → each_fits result_form.fits values ≡ true → each_fits row_form.fits (map (row_in_texts inventory) (rows_with metrics suspect objects values)) ≡ true
  rows_fit metrics suspect [] values names fit = refl
  rows_fit metrics suspect (o ∷ os) values names fit =
      let b = both (is_named inventory o) (list_all (is_named inventory) os) names in
      and _ _ (row_fits _ b.0 (each_fits-take result_form.fits (length metrics) values fit))
      (rows_fit metrics suspect os (drop (length metrics) values) b.1 (each_fits-drop result_form.fits (length metrics) values fit))

  -- a row takes one value for each metric
  count-row : (metrics : List Metric) (object : ℕ) (more : List Quantity) → length (quantities_on metrics object ++ more) ≡ length metrics + length more
  count-row metrics object more =
      length-append (quantities_on metrics object) more
      ∙ ap (λ n. n + length more) (length-map metrics (λ (m : Metric). let q : Quantity = record { object = object; metric = m } in q))

  rows_agree : (metrics : List Metric) (suspect : Bool) (objects : List ℕ) (values : List (Option ℕ)) (n : ℕ) → n ≡ length metrics
      → length (flat_map (quantities_on metrics) objects) ≤ length values
      → list_all (row_agrees n) (map (row_in_texts inventory) (rows_with metrics suspect objects values)) ≡ true
  rows_agree metrics suspect [] values n is le = refl
  rows_agree metrics suspect (o ∷ os) values n is le =
      let count = count-row metrics o (flat_map (quantities_on metrics) os) in
      let own : length metrics ≤ length values = omega (arith, le, count) in
      let first : length (take (length metrics) values) ≡ n = length-take-le (length metrics) values own ∙ sym is in
      let rest : length (flat_map (quantities_on metrics) os) ≤ length (drop (length metrics) values) = omega (arith, le, count, length-drop (length metrics) values) in
      and _ _ (eq-eqb _ _ first) (rows_agree metrics suspect os (drop (length metrics) values) n is rest)

  some_rows : (metrics : List Metric) (suspect : Bool) (objects : List ℕ) (values : List (Option ℕ)) → is_some_list objects ≡ true
      → is_some_list (map (row_in_texts inventory) (rows_with metrics suspect objects values)) ≡ true
  some_rows metrics suspect [] values e = e
  some_rows metrics suspect (o ∷ os) values e = refl

  -- ---- groups

  some_types : (metrics : List Metric) → is_some_list metrics ≡ true → is_some_list (map (metric_text inventory) (map (λ (m : Metric). m.number) metrics)) ≡ true
  some_types [] e = e
  some_types (m ∷ ms) e = refl

  length-types : (metrics : List Metric) → length (map (metric_text inventory) (map (λ (m : Metric). m.number) metrics)) ≡ length metrics
  length-types metrics =
      length-map (map (λ (m : Metric). m.number) metrics) (metric_text inventory) ∙ length-map metrics (λ (m : Metric). m.number)

  group-fits : (m : Measured) (suspect : Bool) (values : List (Option ℕ)) → HasNames inventory m → each_fits result_form.fits values ≡ true
      → group_form.fits (group_in_texts inventory (group_with m suspect values)) ≡ true
  unfolding group_form
  group-fits m suspect values names fit =
      and _ _ names.types (and _ _ (rows_fit m.metrics suspect m.objects values names.names fit) (class-word m.class))

  group-agrees : (m : Measured) (suspect : Bool) (values : List (Option ℕ)) → HasNames inventory m → length (quantities_in m) ≤ length values
      → group_agrees (group_in_texts inventory (group_with m suspect values)) ≡ true
  group-agrees m suspect values names le =
      and _ _ (and _ _ (some_types m.metrics names.metrics) (some_rows m.metrics suspect m.objects values names.objects))
      (rows_agree m.metrics suspect m.objects values _ (length-types m.metrics) le)

  count-groups : (m : Measured) (ms : List Measured) → length (quantities_of (m ∷ ms)) ≡ length (quantities_in m) + length (quantities_of ms)
  count-groups m ms = length-append (quantities_in m) (quantities_of ms)

  pub groups-fit : (ms : List Measured) (suspect : Bool) (values : List (Option ℕ)) → AllByRecursion (HasNames inventory) ms → each_fits result_form.fits values ≡ true
      → each_fits group_form.fits (map (group_in_texts inventory) (groups_with ms suspect values)) ≡ true
  groups-fit [] suspect values names fit = refl
  groups-fit (m ∷ ms) suspect values names fit =
      and _ _ (group-fits m suspect values names.0 fit)
      (groups-fit ms suspect (drop (length (quantities_in m)) values) names.1 (each_fits-drop result_form.fits (length (quantities_in m)) values fit))

  pub groups-agree : (ms : List Measured) (suspect : Bool) (values : List (Option ℕ)) → AllByRecursion (HasNames inventory) ms → length (quantities_of ms) ≤ length values
      → list_all group_agrees (map (group_in_texts inventory) (groups_with ms suspect values)) ≡ true
  groups-agree [] suspect values names le = refl
  groups-agree (m ∷ ms) suspect values names le =
      let count = count-groups m ms in
      let rest : length (quantities_of ms) ≤ length (drop (length (quantities_in m)) values) = omega (arith, le, count, length-drop (length (quantities_in m)) values) in
      and _ _ (group-agrees m suspect values names.0 (omega (arith, le, count)))
      (groups-agree ms suspect (drop (length (quantities_in m)) values) names.1 rest)

  pub groups-some : (ms : List Measured) (suspect : Bool) (values : List (Option ℕ)) → is_some_list ms ≡ true
      → is_some_list (map (group_in_texts inventory) (groups_with ms suspect values)) ≡ true
  groups-some [] suspect values e = e
  groups-some (m ∷ ms) suspect values e = refl

  pub groups-rise : (ms : List Measured) (suspect : Bool) (values : List (Option ℕ))
      → agreement.classes_rise (map (group_in_texts inventory) (groups_with ms suspect values)) ≡ classes_rise ms
  groups-rise [] suspect values = refl
  groups-rise (m ∷ []) suspect values = refl
  groups-rise (m ∷ n ∷ ms) suspect values =
      ap (λ b. text_before (class_name m.class) (class_name n.class) && b)
      (groups-rise (n ∷ ms) suspect (drop (length (quantities_in m)) values))
