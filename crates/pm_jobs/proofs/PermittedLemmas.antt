-- What a text says as a body is within the ranges of bodies.
use Rattle.std.proofs.Common.{◌≡◌, ℕ, ◌≤◌, ◌&&◌, Bool, true, false, cond, leb, List, [], ◌∷◌, length, codes, Option, Some, None, refl, ap, subst, arith}
use Rattle.std.specs.List.{AllByRecursion}
use Rattle.std.specs.Option.{option_map, option_and_then}
use Rattle.std.proofs.lemmas.Option.{same_Some}
use Rattle.std.proofs.lemmas.Bool.{leb-true}
use Rattle.serde_json.specs.Data.{Data, Items, no_items, item, Members}
use Rattle.serde_json.specs.Find.{get_member, as_object, as_array, as_number, as_u64}
use Rattle.pm_asked.specs.Body.{Directions, Threshold, JobBody, MonitorBody, IsJobBody, IsThreshold, IsMonitorBody}
use Rattle.pm_asked.specs.BodyReading.{has_only, number_of, texts_of, list_of, directions_of, value_or, state_in, names_in, metrics_in, number_in, job_keys, job_members, job_of, threshold_keys, threshold_members, threshold_of, thresholds_of, threshold_list_of, monitor_keys, monitor_members, monitor_of, tree_of, job_body, monitor_body}

both : (a b : Bool) → (a && b) ≡ true → (a ≡ true) × (b ≡ true)
both true b h = (refl, h)
both false b h = cc

-- ---- the parts

kept : {A : Type 0} (test : Bool) (a b : A) → cond test (Some a) None ≡ Some b → (test ≡ true) × (a ≡ b)
kept true a b e = (refl, same_Some a b e)
kept false a b e = cc

number_kept : (most : ℕ) (o : Option ℕ) (n : ℕ) → option_and_then (λ k. cond (leb k most) (Some k) None) o ≡ Some n → n ≤ most
number_kept most None n e = cc
number_kept most (Some k) n e = let h = kept (leb k most) k n e in let le = leb-true k most h.0 in omega (arith, le, h.1)

number_within : (most : ℕ) (o : Option Data) (n : ℕ) → option_and_then (number_of most) o ≡ Some n → n ≤ most
number_within most None n e = cc
number_within most (Some d) n e = number_kept most (option_and_then as_u64 (as_number d)) n e

many_kept : {A : Type 0} (least most : ℕ) (o : Option (List A)) (ts : List A)
    → option_and_then (λ (us : List A). cond (leb least (length us) && leb (length us) most) (Some us) None) o ≡ Some ts → (least ≤ length ts) × (length ts ≤ most) × (o ≡ Some ts)
many_kept least most None ts e = cc
many_kept least most (Some us) ts e =
    let h = kept (leb least (length us) && leb (length us) most) us ts e in
    let b = both (leb least (length us)) (leb (length us) most) h.0 in
    let first = leb-true least (length us) b.0 in
    let second = leb-true (length us) most b.1 in
    let same = ap length h.1 in
    (omega (arith, first, same), omega (arith, second, same), ap Some h.1)

list_within : (least most : ℕ) (o : Option Data) (ts : List (List ℕ)) → option_and_then (list_of least most) o ≡ Some ts → (least ≤ length ts) × (length ts ≤ most)
list_within least most None ts e = cc
list_within least most (Some d) ts e = let h = many_kept least most (option_and_then texts_of (as_array d)) ts e in (h.0, h.1)

names_within : (o : Option Data) (ts : List (List ℕ)) → value_or [] (list_of 0 256) o ≡ Some ts → length ts ≤ 256
names_within None ts e = let h = ap length (same_Some [] ts e) in omega (arith, h)
names_within (Some d) ts e = (many_kept 0 256 (option_and_then texts_of (as_array d)) ts e).1

-- ---- a job

abbrev job_from : Option Bool → Option ℕ → Option (List (List ℕ)) → Option (List (List ℕ)) → Option ℕ → Option (List (List ℕ)) → Option JobBody
job_from unlocked granularity objects metrics reporting roots =
    option_and_then
    (λ u. option_and_then
    (λ g. option_and_then
    (λ o. option_and_then
    (λ m. option_and_then
    (λ r. option_map
    (λ s. record { unlocked = u; granularity = g; objects = o; metrics = m; reporting = r; roots = s })
    roots)
    reporting)
    metrics)
    objects)
    granularity)
    unlocked

job_parts : (u : Option Bool) (g : Option ℕ) (o m : Option (List (List ℕ))) (r : Option ℕ) (s : Option (List (List ℕ))) (body : JobBody)
    → job_from u g o m r s ≡ Some body
    → ((n : ℕ) → g ≡ Some n → n ≤ 4294967295) → ((ts : List (List ℕ)) → o ≡ Some ts → length ts ≤ 256)
    → ((ts : List (List ℕ)) → m ≡ Some ts → (1 ≤ length ts) × (length ts ≤ 64))
    → ((n : ℕ) → r ≡ Some n → n ≤ 4294967295) → ((ts : List (List ℕ)) → s ≡ Some ts → length ts ≤ 256) → IsJobBody body
job_parts None g o m r s body e pg po pm pr ps = cc
job_parts (Some u) None o m r s body e pg po pm pr ps = cc
job_parts (Some u) (Some g) None m r s body e pg po pm pr ps = cc
job_parts (Some u) (Some g) (Some o) None r s body e pg po pm pr ps = cc
job_parts (Some u) (Some g) (Some o) (Some m) None s body e pg po pm pr ps = cc
job_parts (Some u) (Some g) (Some o) (Some m) (Some r) None body e pg po pm pr ps = cc
job_parts (Some u) (Some g) (Some o) (Some m) (Some r) (Some s) body e pg po pm pr ps =
    subst IsJobBody (same_Some _ body e)
    (record { granularity = pg g refl; objects = po o refl; metrics = pm m refl; reporting = pr r refl; roots = ps s refl })

job_members-within : (ms : Members) (body : JobBody) → job_members ms ≡ Some body → IsJobBody body
job_members-within ms body e =
    job_parts (state_in ms) (number_in 4294967295 (codes "granularityPeriod") ms) (names_in (codes "objectInstances") ms) (metrics_in ms)
    (number_in 4294967295 (codes "reportingPeriod") ms) (names_in (codes "rootObjectInstances") ms) body e
    (λ n. number_within 4294967295 (get_member (codes "granularityPeriod") ms) n)
    (λ ts. names_within (get_member (codes "objectInstances") ms) ts)
    (λ ts. list_within 1 64 (get_member (codes "performanceMetrics") ms) ts)
    (λ n. number_within 4294967295 (get_member (codes "reportingPeriod") ms) n)
    (λ ts. names_within (get_member (codes "rootObjectInstances") ms) ts)

-- an object without other keys
only_keys : {B : Type 0} (keys : List (List ℕ)) (f : Members → Option B) (o : Option Members) (b : B)
    → option_and_then (λ ms. cond (has_only keys ms) (f ms) None) o ≡ Some b → (ms : Members) × (f ms ≡ Some b)
only_keys keys f None b e = cc
only_keys {B} keys f (Some ms) b e = by (has_only keys ms) e
  where
    by : (t : Bool) → cond t (f ms) None ≡ Some b → (ms : Members) × (f ms ≡ Some b)
    by true e = (ms, e)
    by false e = cc

job_within : (tree : Data) (body : JobBody) → job_of tree ≡ Some body → IsJobBody body
job_within tree body e = let h = only_keys job_keys job_members (as_object tree) body e in job_members-within h.0 body h.1

some_tree : {B : Type 0} (f : Data → Option B) (o : Option Data) (b : B) → option_and_then f o ≡ Some b → (d : Data) × (f d ≡ Some b)
some_tree f None b e = cc
some_tree f (Some d) b e = (d, e)

pub job_permitted : (text : List ℕ) (body : JobBody) → job_body text ≡ Some body → IsJobBody body
job_permitted text body e = let h = some_tree job_of (tree_of text) body e in job_within h.0 body h.1

-- ---- a monitor

abbrev threshold_from : Option (List (List ℕ)) → Option Directions → Option ℕ → (ℕ → Option ℕ) → Option Threshold
threshold_from metrics directions value hysteresis =
    option_and_then
    (λ m. option_and_then
    (λ d. option_and_then
    (λ v. option_map (λ h. record { metrics = m; directions = d; value = v; hysteresis = h }) (hysteresis v))
    value)
    directions)
    metrics

margin_within : (most : ℕ) (o : Option Data) (n : ℕ) → value_or 0 (number_of most) o ≡ Some n → n ≤ most
margin_within most None n e = let h = same_Some 0 n e in omega (arith, h)
margin_within most (Some d) n e = number_within most (Some d) n e

threshold_last : (m : List (List ℕ)) (d : Directions) (v : ℕ) (h : Option ℕ) (t : Threshold)
    → option_map (λ (n : ℕ). record { metrics = m; directions = d; value = v; hysteresis = n }) h ≡ Some t
    → ((1 ≤ length m) × (length m ≤ 64)) → v ≤ 9007199254740991 → ((n : ℕ) → h ≡ Some n → n ≤ v) → IsThreshold t
threshold_last m d v None t e pm pv ph = cc
threshold_last m d v (Some n) t e pm pv ph = subst IsThreshold (same_Some _ t e) (record { metrics = pm; value = pv; hysteresis = ph n refl })

threshold_parts : (m : Option (List (List ℕ))) (d : Option Directions) (v : Option ℕ) (h : ℕ → Option ℕ) (t : Threshold) → threshold_from m d v h ≡ Some t
    → ((ts : List (List ℕ)) → m ≡ Some ts → (1 ≤ length ts) × (length ts ≤ 64)) → ((n : ℕ) → v ≡ Some n → n ≤ 9007199254740991)
    → ((k n : ℕ) → h k ≡ Some n → n ≤ k) → IsThreshold t
threshold_parts None d v h t e pm pv ph = cc
threshold_parts (Some m) None v h t e pm pv ph = cc
threshold_parts (Some m) (Some d) None h t e pm pv ph = cc
threshold_parts (Some m) (Some d) (Some v) h t e pm pv ph = threshold_last m d v (h v) t e (pm m refl) (pv v refl) (ph v)

threshold_members-within : (ms : Members) (t : Threshold) → threshold_members ms ≡ Some t → IsThreshold t
threshold_members-within ms t e =
    threshold_parts (metrics_in ms) (option_and_then directions_of (get_member (codes "thresholdDirection") ms)) (number_in 9007199254740991 (codes "thresholdValue") ms)
    (λ v. value_or 0 (number_of v) (get_member (codes "hysteresis") ms)) t e
    (λ ts. list_within 1 64 (get_member (codes "performanceMetrics") ms) ts)
    (λ n. number_within 9007199254740991 (get_member (codes "thresholdValue") ms) n)
    (λ k n. margin_within k (get_member (codes "hysteresis") ms) n)

threshold_within : (d : Data) (t : Threshold) → threshold_of d ≡ Some t → IsThreshold t
threshold_within d t e = let h = only_keys threshold_keys threshold_members (as_object d) t e in threshold_members-within h.0 t h.1

first_rest : (o : Option Threshold) (r : Option (List Threshold)) (ts : List Threshold) → option_and_then (λ t. option_map (λ rest. t ∷ rest) r) o ≡ Some ts
    → (t : Threshold) × (rest : List Threshold) × (o ≡ Some t) × (r ≡ Some rest) × (t ∷ rest ≡ ts)
first_rest None r ts e = cc
first_rest (Some t) None ts e = cc
first_rest (Some t) (Some rest) ts e = (t, rest, refl, refl, same_Some (t ∷ rest) ts e)

thresholds_within : (ds : Items) (ts : List Threshold) → thresholds_of ds ≡ Some ts → AllByRecursion IsThreshold ts
thresholds_within no_items ts e = subst (AllByRecursion IsThreshold) (same_Some [] ts e) tt
thresholds_within (item d ds) ts e =
    let h = first_rest (threshold_of d) (thresholds_of ds) ts e in
    subst (AllByRecursion IsThreshold) h.4 (threshold_within d h.0 h.2, thresholds_within ds h.1 h.3)

items_within : (o : Option Items) (ts : List Threshold) → option_and_then thresholds_of o ≡ Some ts → AllByRecursion IsThreshold ts
items_within None ts e = cc
items_within (Some ds) ts e = thresholds_within ds ts e

pub record AreThresholds (ts : List Threshold) : Type 0 where
  pub least : 1 ≤ length ts
  pub most : length ts ≤ 16
  pub each : AllByRecursion IsThreshold ts

threshold_list-within : (o : Option Data) (ts : List Threshold) → option_and_then threshold_list_of o ≡ Some ts → AreThresholds ts
threshold_list-within None ts e = cc
threshold_list-within (Some d) ts e =
    let h = many_kept 1 16 (option_and_then thresholds_of (as_array d)) ts e in
    record { least = h.0; most = h.1; each = items_within (as_array d) ts h.2 }

abbrev monitor_from : Option Bool → Option ℕ → Option (List (List ℕ)) → Option (List (List ℕ)) → Option (List Threshold) → Option MonitorBody
monitor_from unlocked granularity objects roots thresholds =
    option_and_then
    (λ u. option_and_then
    (λ g. option_and_then
    (λ o. option_and_then
    (λ r. option_map (λ t. record { unlocked = u; granularity = g; objects = o; roots = r; thresholds = t }) thresholds)
    roots)
    objects)
    granularity)
    unlocked

monitor_parts : (u : Option Bool) (g : Option ℕ) (o s : Option (List (List ℕ))) (t : Option (List Threshold)) (body : MonitorBody)
    → monitor_from u g o s t ≡ Some body
    → ((n : ℕ) → g ≡ Some n → n ≤ 4294967295) → ((ts : List (List ℕ)) → o ≡ Some ts → length ts ≤ 256)
    → ((ts : List (List ℕ)) → s ≡ Some ts → length ts ≤ 256) → ((ts : List Threshold) → t ≡ Some ts → AreThresholds ts) → IsMonitorBody body
monitor_parts None g o s t body e pg po ps pt = cc
monitor_parts (Some u) None o s t body e pg po ps pt = cc
monitor_parts (Some u) (Some g) None s t body e pg po ps pt = cc
monitor_parts (Some u) (Some g) (Some o) None t body e pg po ps pt = cc
monitor_parts (Some u) (Some g) (Some o) (Some s) None body e pg po ps pt = cc
monitor_parts (Some u) (Some g) (Some o) (Some s) (Some t) body e pg po ps pt =
    let h = pt t refl in
    subst IsMonitorBody (same_Some _ body e)
    (record { granularity = pg g refl; objects = po o refl; roots = ps s refl; least = h.least; most = h.most; each = h.each })

monitor_members-within : (ms : Members) (body : MonitorBody) → monitor_members ms ≡ Some body → IsMonitorBody body
monitor_members-within ms body e =
    monitor_parts (state_in ms) (number_in 4294967295 (codes "monitorGranularityPeriod") ms) (names_in (codes "objectInstances") ms)
    (names_in (codes "rootObjectInstances") ms) (option_and_then threshold_list_of (get_member (codes "thresholdInfoList") ms)) body e
    (λ n. number_within 4294967295 (get_member (codes "monitorGranularityPeriod") ms) n)
    (λ ts. names_within (get_member (codes "objectInstances") ms) ts)
    (λ ts. names_within (get_member (codes "rootObjectInstances") ms) ts)
    (λ ts. threshold_list-within (get_member (codes "thresholdInfoList") ms) ts)

pub monitor_permitted : (text : List ℕ) (body : MonitorBody) → monitor_body text ≡ Some body → IsMonitorBody body
monitor_permitted text body e =
    let h = some_tree monitor_of (tree_of text) body e in
    let k = only_keys monitor_keys monitor_members (as_object h.0) body h.1 in
    monitor_members-within k.0 body k.1
