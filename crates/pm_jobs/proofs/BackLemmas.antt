-- The canonical text of a body that was read says the same body.
use Rattle.std.proofs.Common.{◌≡◌, ℕ, ◌^◌, ◌<◌, ◌≤◌, true, List, [], ◌∷◌, Option, Some, refl, sym, ap, ◌∙◌, arith, append-nil, decimal}
use Rattle.std.specs.List.{AllByRecursion}
use Rattle.std.specs.Option.{option_and_then}
use Rattle.std.specs.Str.{is_utf8}
use Rattle.json.specs.Json as json
use Rattle.json.specs.Lex.{tokens}
use Rattle.json.specs.Print.{print}
use Rattle.json.specs.Token.{Token}
use Rattle.json.specs.Tree as tree
use Rattle.json.proofs.Printed.Trees.{value-json_tokens}
use Rattle.serde_json.specs.Data.{Data, unsigned}
use Rattle.serde_json.specs.Read.{read, max_depth, number_of, of_json, of_items}
use Rattle.serde_json.specs.Written.{outline, items_outline, compact_text}
use Rattle.serde_json.proofs.Numbers.{number_of-decimal}
use Rattle.serde_json.proofs.Texts.{print-outline}
use Rattle.pm_asked.specs.Body.{Threshold, JobBody, MonitorBody, text_items, job_tree, threshold_tree, threshold_items, monitor_tree, IsJobBody, IsThreshold, IsMonitorBody}
use Rattle.pm_asked.specs.BodyReading.{job_body, monitor_body, tree_of, job_of, monitor_of}
use Rattle.pm_asked.proofs.BodyLemmas.{job_of-is, monitor_of-is}

abbrev closed : Option (json.Json × List Token) → Option Data
closed o = option_and_then of_json (option_and_then (λ p. json.if_last p.0 p.1) o)

tree_back : (d : Data) → tree.depth (outline d) ≤ 127 → of_json (outline d) ≡ Some d
    → tokens (print (tree.json_tokens (outline d))) ≡ tree.json_tokens (outline d) → read (compact_text d) ≡ Some d
tree_back d deep kept same =
    ap read (sym (print-outline d))
    ∙ ap closed (ap (json.value max_depth) (same ∙ sym (append-nil _)) ∙ value-json_tokens (outline d) max_depth [] deep)
    ∙ kept

small : (n most : ℕ) → most < 2 ^ 64 → n ≤ most → number_of (decimal n) ≡ Some (unsigned n)
small n most room le = number_of-decimal n (omega (arith, le, room))

texts_kept : (ts : List (List ℕ)) → of_items (items_outline (text_items ts)) ≡ Some (text_items ts)
texts_kept [] = refl
texts_kept (t ∷ ts) = rw (texts_kept ts) refl

texts_shallow : (ts : List (List ℕ)) → tree.items_depth (items_outline (text_items ts)) ≤ 0
texts_shallow [] = omega arith
texts_shallow (t ∷ ts) = let h = texts_shallow ts in omega (arith, h)

job_kept : (b : JobBody) → IsJobBody b → of_json (outline (job_tree b)) ≡ Some (job_tree b)
job_kept b is =
    rw (
      small b.granularity 4294967295 (omega arith) is.granularity,
      texts_kept b.objects,
      texts_kept b.metrics,
      small b.reporting 4294967295 (omega arith) is.reporting,
      texts_kept b.roots,
    )
    refl

job_shallow : (b : JobBody) → tree.depth (outline (job_tree b)) ≤ 127
job_shallow b =
    let o = texts_shallow b.objects in
    let m = texts_shallow b.metrics in
    let r = texts_shallow b.roots in
    omega (arith, o, m, r)

threshold_kept : (t : Threshold) → IsThreshold t → of_json (outline (threshold_tree t)) ≡ Some (threshold_tree t)
threshold_kept t is =
    let most : t.hysteresis ≤ 9007199254740991 = omega (arith, is.hysteresis, is.value) in
    rw (small t.hysteresis 9007199254740991 (omega arith) most, texts_kept t.metrics, small t.value 9007199254740991 (omega arith) is.value) refl

threshold_shallow : (t : Threshold) → tree.depth (outline (threshold_tree t)) ≤ 2
threshold_shallow t = let m = texts_shallow t.metrics in omega (arith, m)

thresholds_kept : (ts : List Threshold) → AllByRecursion IsThreshold ts → of_items (items_outline (threshold_items ts)) ≡ Some (threshold_items ts)
thresholds_kept [] all = refl
thresholds_kept (t ∷ ts) all = rw (threshold_kept t all.0, thresholds_kept ts all.1) refl

thresholds_shallow : (ts : List Threshold) → tree.items_depth (items_outline (threshold_items ts)) ≤ 2
thresholds_shallow [] = omega arith
thresholds_shallow (t ∷ ts) = let h = thresholds_shallow ts in let k = threshold_shallow t in omega (arith, h, k)

monitor_kept : (b : MonitorBody) → IsMonitorBody b → of_json (outline (monitor_tree b)) ≡ Some (monitor_tree b)
monitor_kept b is =
    rw (small b.granularity 4294967295 (omega arith) is.granularity, texts_kept b.objects, texts_kept b.roots, thresholds_kept b.thresholds is.each) refl

monitor_shallow : (b : MonitorBody) → tree.depth (outline (monitor_tree b)) ≤ 127
monitor_shallow b =
    let o = texts_shallow b.objects in
    let r = texts_shallow b.roots in
    let t = thresholds_shallow b.thresholds in
    omega (arith, o, r, t)

said : {B : Type 0} (f : Data → Option B) (d : Data) (text : List ℕ) → is_utf8 text ≡ true → text ≡ compact_text d → read (compact_text d) ≡ Some d
    → option_and_then f (tree_of text) ≡ f d
said f d text utf8 is back = rw (utf8, is, back) refl

pub job_back : (b : JobBody) (text : List ℕ) → IsJobBody b → text ≡ compact_text (job_tree b) → is_utf8 text ≡ true
    → tokens (print (tree.json_tokens (outline (job_tree b)))) ≡ tree.json_tokens (outline (job_tree b)) → job_body text ≡ Some b
job_back b text is same utf8 lexed =
    said job_of (job_tree b) text utf8 same (tree_back (job_tree b) (job_shallow b) (job_kept b is) lexed) ∙ job_of-is b is

pub monitor_back : (b : MonitorBody) (text : List ℕ) → IsMonitorBody b → text ≡ compact_text (monitor_tree b) → is_utf8 text ≡ true
    → tokens (print (tree.json_tokens (outline (monitor_tree b)))) ≡ tree.json_tokens (outline (monitor_tree b)) → monitor_body text ≡ Some b
monitor_back b text is same utf8 lexed =
    said monitor_of (monitor_tree b) text utf8 same (tree_back (monitor_tree b) (monitor_shallow b) (monitor_kept b is) lexed) ∙ monitor_of-is b is
