-- The tree of a body says that body, and only UTF-8 says one.
use Rattle.std.proofs.Common.{◌≡◌, ℕ, ◌≤◌, Bool, true, false, ◌&&◌, cond, leb, List, [], ◌∷◌, length, Option, Some, None, refl, ap, ◌∙◌, arith, le-leb}
use Rattle.std.proofs.lemmas.Bool.{cond-true, and_from}
use Rattle.std.specs.List.{AllByRecursion}
use Rattle.std.specs.Option.{option_map, option_and_then}
use Rattle.std.specs.Str.{IsUtf8, is_utf8}
use Rattle.std.proofs.lemmas.Str.{IsUtf8-from_is_utf8}
use Rattle.serde_json.specs.Data.{Data, number, string, array, unsigned}
use Rattle.serde_json.specs.Read.{read}
use Rattle.pm_asked.specs.Body.{Directions, Up, Down, UpAndDown, Threshold, JobBody, MonitorBody, text_items, state_text, directions_text, job_tree, threshold_tree, threshold_items, monitor_tree, IsJobBody, IsThreshold, IsMonitorBody}
use Rattle.pm_asked.specs.BodyReading.{number_of, texts_of, list_of, state_of, directions_of, job_of, threshold_of, thresholds_of, threshold_list_of, monitor_of, tree_of}

within : {A : Type 0} (n most : ℕ) (a : A) → n ≤ most → cond (leb n most) (Some a) None ≡ Some a
within n most a le = cond-true (leb n most) (Some a) None (le-leb n most le)

between : {A : Type 0} (least n most : ℕ) (a : A) → least ≤ n → n ≤ most → cond (leb least n && leb n most) (Some a) None ≡ Some a
between least n most a ge le = cond-true (leb least n && leb n most) (Some a) None (and_from _ _ (le-leb least n ge) (le-leb n most le))

number_of-is : (most n : ℕ) → n ≤ most → number_of most (number (unsigned n)) ≡ Some n
number_of-is most n le = within n most n le

texts_of-is : (ts : List (List ℕ)) → texts_of (text_items ts) ≡ Some ts
texts_of-is [] = refl
texts_of-is (t ∷ ts) = ap (option_map (λ rest. t ∷ rest)) (texts_of-is ts)

list_of-is : (least most : ℕ) (ts : List (List ℕ)) → least ≤ length ts → length ts ≤ most → list_of least most (array (text_items ts)) ≡ Some ts
list_of-is least most ts ge le =
    ap (option_and_then (λ (us : List (List ℕ)). cond (leb least (length us) && leb (length us) most) (Some us) None)) (texts_of-is ts)
    ∙ between least (length ts) most ts ge le

state_of-is : (unlocked : Bool) → state_of (string (state_text unlocked)) ≡ Some unlocked
state_of-is true = refl
state_of-is false = refl

directions_of-is : (d : Directions) → directions_of (string (directions_text d)) ≡ Some d
directions_of-is Up = refl
directions_of-is Down = refl
directions_of-is UpAndDown = refl

-- six values that are read one after another
abbrev job_from : Option Bool → Option ℕ → Option (List (List ℕ)) → Option (List (List ℕ)) → Option ℕ → Option (List (List ℕ)) → Option JobBody
job_from unlocked granularity objects metrics reporting roots =
    option_and_then
    (λ u. option_and_then
    (λ g. option_and_then
    (λ o. option_and_then
    (λ m. option_and_then
    (λ r. option_map
    (λ s. record { unlocked = u; granularity = g; objects = o; metrics = m; reporting = r; roots = s })
    roots)
    reporting)
    metrics)
    objects)
    granularity)
    unlocked

pub job_of-is : (body : JobBody) → IsJobBody body → job_of (job_tree body) ≡ Some body
job_of-is body is =
    let unlocked = state_of-is body.unlocked in
    let granularity = number_of-is 4294967295 body.granularity is.granularity in
    let objects = list_of-is 0 256 body.objects (omega arith) is.objects in
    let metrics = list_of-is 1 64 body.metrics is.metrics.0 is.metrics.1 in
    let reporting = number_of-is 4294967295 body.reporting is.reporting in
    let roots = list_of-is 0 256 body.roots (omega arith) is.roots in
    λ i. job_from (unlocked i) (granularity i) (objects i) (metrics i) (reporting i) (roots i)

abbrev threshold_from : Option (List (List ℕ)) → Option Directions → Option ℕ → (ℕ → Option ℕ) → Option Threshold
threshold_from metrics directions value hysteresis =
    option_and_then
    (λ m. option_and_then
    (λ d. option_and_then
    (λ v. option_map (λ h. record { metrics = m; directions = d; value = v; hysteresis = h }) (hysteresis v))
    value)
    directions)
    metrics

threshold_of-is : (t : Threshold) → IsThreshold t → threshold_of (threshold_tree t) ≡ Some t
threshold_of-is t is =
    let metrics = list_of-is 1 64 t.metrics is.metrics.0 is.metrics.1 in
    let directions = directions_of-is t.directions in
    let value = number_of-is 9007199254740991 t.value is.value in
    let hysteresis = number_of-is t.value t.hysteresis is.hysteresis in
    (λ i. threshold_from (metrics i) (directions i) (value i) (λ v. number_of v (number (unsigned t.hysteresis))))
    ∙ (λ i. option_map (λ h. record { metrics = t.metrics; directions = t.directions; value = t.value; hysteresis = h }) (hysteresis i))

thresholds_of-is : (ts : List Threshold) → AllByRecursion IsThreshold ts → thresholds_of (threshold_items ts) ≡ Some ts
thresholds_of-is [] all = refl
thresholds_of-is (t ∷ ts) all =
    let this = threshold_of-is t all.0 in
    let rest = thresholds_of-is ts all.1 in
    λ i. option_and_then (λ one. option_map (λ more. one ∷ more) (rest i)) (this i)

threshold_list_of-is : (ts : List Threshold) → 1 ≤ length ts → length ts ≤ 16 → AllByRecursion IsThreshold ts → threshold_list_of (array (threshold_items ts)) ≡ Some ts
threshold_list_of-is ts ge le all =
    ap (option_and_then (λ (us : List Threshold). cond (leb 1 (length us) && leb (length us) 16) (Some us) None)) (thresholds_of-is ts all)
    ∙ between 1 (length ts) 16 ts ge le

abbrev monitor_from : Option Bool → Option ℕ → Option (List (List ℕ)) → Option (List (List ℕ)) → Option (List Threshold) → Option MonitorBody
monitor_from unlocked granularity objects roots thresholds =
    option_and_then
    (λ u. option_and_then
    (λ g. option_and_then
    (λ o. option_and_then
    (λ r. option_map (λ t. record { unlocked = u; granularity = g; objects = o; roots = r; thresholds = t }) thresholds)
    roots)
    objects)
    granularity)
    unlocked

pub monitor_of-is : (body : MonitorBody) → IsMonitorBody body → monitor_of (monitor_tree body) ≡ Some body
monitor_of-is body is =
    let unlocked = state_of-is body.unlocked in
    let granularity = number_of-is 4294967295 body.granularity is.granularity in
    let objects = list_of-is 0 256 body.objects (omega arith) is.objects in
    let roots = list_of-is 0 256 body.roots (omega arith) is.roots in
    let thresholds = threshold_list_of-is body.thresholds is.least is.most is.each in
    λ i. monitor_from (unlocked i) (granularity i) (objects i) (roots i) (thresholds i)

-- ---- texts

tested : {B : Type 0} (f : Data → Option B) (text : List ℕ) (body : B) (b : Bool) → is_utf8 text ≡ b → option_and_then f (cond b (read text) None) ≡ Some body → is_utf8 text ≡ true
tested f text body true is says = is
tested f text body false is says = cc

-- Only UTF-8 says something.
pub said-utf8 : {B : Type 0} (f : Data → Option B) (text : List ℕ) (body : B) → option_and_then f (tree_of text) ≡ Some body → IsUtf8 text
said-utf8 f text body says = IsUtf8-from_is_utf8 text (tested f text body (is_utf8 text) refl says)
