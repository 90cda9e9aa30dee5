-- A tree says a notice exactly where it is the notice's tree and the notice fits.
use Rattle.std.proofs.Common.{◌≡◌, true, refl, ap, ◌∙◌, codes, Ok, Err}
use Rattle.serde_json.specs.Data.{Data, null, boolean, number as number_data, string, array, object, no_items, item}
use Rattle.pm_form.specs.Form.{Read, Form, IsExact}
use Rattle.pm_form.specs.Values.{text, fixed}
use Rattle.pm_form.specs.Names.{job_id, measure_name}
use Rattle.pm_form.specs.declared.refusal.Refusal.TheVariants.{Disagrees, WrongKeys}
use Rattle.pm_form.proofs.FormLemmas.{text_exact, fixed_exact, whole_exact, list_exact, last_exact, field_exact, object_exact, tested_exact, mapped_exact}
use Rattle.pm_file.specs.ReportForm.{object_name, moment}
use Rattle.pm_notice.specs.Single.{single}
use Rattle.pm_notice.specs.NoticeForm.{FileReady, Crossing, file_location, number, expires_in_a_day, listed_form, file_ready_form, is_direction, crossing_form, Notified, of_file, of_crossing, first_of, notice_tree, notice_fits, notice_form, listing_form}

pub single_exact : {A : Type 0} (form : Form A) → IsExact form → IsExact (single form)
single_exact form exact = record { back = λ a fits. exact.back a fits; only = only }
  where
    only : (d : Data) (a : _) → (single form).reads d ≡ Ok a → (d ≡ array (item (form.tree a) no_items)) × (form.fits a ≡ true)
    only null a h = cc
    only (boolean b) a h = cc
    only (number_data n) a h = cc
    only (string s) a h = cc
    only (array no_items) a h = cc
    only (array (item d no_items)) a h = let p = exact.only d a h in (ap (λ e. array (item e no_items)) p.0, p.1)
    only (array (item d (item e ds))) a h = cc
    only (object ms) a h = cc

number_exact : IsExact number
number_exact = whole_exact 18446744073709551615

moment_exact : IsExact moment
moment_exact = whole_exact 253402300799

pub listed_exact : IsExact listed_form
unfolding listed_form
listed_exact =
    tested_exact Disagrees expires_in_a_day _
    (mapped_exact _ _ _ (λ l. refl) (λ p. refl) (object_exact _ (field_exact (codes "fileDataType") (fixed (codes "Performance")) _ (fixed_exact (codes "Performance"))
    (field_exact (codes "fileExpirationTime") number _ number_exact
    (field_exact (codes "fileFormat") (fixed (codes "JSON")) _ (fixed_exact (codes "JSON"))
    (field_exact (codes "fileLocation") (text file_location) _ (text_exact file_location)
    (field_exact (codes "fileReadyTime") moment _ moment_exact
    (last_exact (codes "fileSize") number number_exact))))))))

pub file_ready_exact : IsExact file_ready_form
unfolding file_ready_form
file_ready_exact =
    mapped_exact _ _ _ (λ f. refl) (λ p. refl) (object_exact _ (field_exact (codes "eventTime") moment _ moment_exact
    (field_exact (codes "fileInfoList") _ _ (single_exact _ listed_exact)
    (field_exact (codes "notificationId") number _ number_exact
    (field_exact (codes "notificationType") (fixed (codes "notifyFileReady")) _ (fixed_exact (codes "notifyFileReady"))
    (last_exact (codes "objectInstance") (text object_name) (text_exact object_name)))))))

pub crossing_exact : IsExact crossing_form
unfolding crossing_form
crossing_exact =
    mapped_exact _ _ _ (λ c. refl) (λ p. refl) (object_exact _ (field_exact (codes "eventTime") moment _ moment_exact
    (field_exact (codes "hysteresis") number _ number_exact
    (field_exact (codes "monitorId") (text job_id) _ (text_exact job_id)
    (field_exact (codes "notificationId") number _ number_exact
    (field_exact (codes "notificationType") (fixed (codes "notifyThresholdCrossing")) _ (fixed_exact (codes "notifyThresholdCrossing"))
    (field_exact (codes "objectInstance") (text object_name) _ (text_exact object_name)
    (field_exact (codes "observedValue") number _ number_exact
    (field_exact (codes "performanceMetric") (text measure_name) _ (text_exact measure_name)
    (field_exact (codes "thresholdDirection") (text is_direction) _ (text_exact is_direction)
    (last_exact (codes "thresholdValue") number number_exact)))))))))))

pub listing_exact : IsExact listing_form
unfolding listing_form
listing_exact = tested_exact Disagrees _ _ (object_exact _ (last_exact (codes "fileInfoList") _ (list_exact _ listed_exact)))

-- No tree of a crossing says that a file is ready.
crossing-no_file : (c : Crossing) → file_ready_form.reads (crossing_form.tree c) ≡ Err WrongKeys
unfolding file_ready_form crossing_form
crossing-no_file c = refl

first-only : (d : Data) (r : Read FileReady) (q : Read Crossing) (n : Notified) → file_ready_form.reads d ≡ r → crossing_form.reads d ≡ q → first_of r q ≡ Ok n
    → (d ≡ notice_tree n) × (notice_fits n ≡ true)
first-only d (Ok f) q (of_file g) er eq h = let same : f ≡ g = cc in file_ready_exact.only d g (er ∙ ap Ok same)
first-only d (Ok f) q (of_crossing g) er eq h = cc
first-only d (Err e) (Ok c) (of_file g) er eq h = cc
first-only d (Err e) (Ok c) (of_crossing g) er eq h = let same : c ≡ g = cc in crossing_exact.only d g (eq ∙ ap Ok same)
first-only d (Err e) (Err i) n er eq h = cc

notice-back : (n : Notified) → notice_fits n ≡ true → first_of (file_ready_form.reads (notice_tree n)) (crossing_form.reads (notice_tree n)) ≡ Ok n
notice-back (of_file f) fits = ap (λ (r : Read FileReady). first_of r (crossing_form.reads (file_ready_form.tree f))) (file_ready_exact.back f fits)
notice-back (of_crossing c) fits =
    ap (λ (r : Read FileReady). first_of r (crossing_form.reads (crossing_form.tree c))) (crossing-no_file c)
    ∙ ap (λ (q : Read Crossing). first_of (Err WrongKeys) q) (crossing_exact.back c fits)

pub notice_exact : IsExact notice_form
unfolding notice_form
notice_exact = record { back = notice-back; only = λ d n h. first-only d _ _ n refl refl h }
