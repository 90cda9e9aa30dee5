-- Laws of forms, each once for all documents.
use Rattle.std.proofs.Common.{rules, ◌≡◌, ℕ, ◌&&◌, Bool, true, false, cond, List, [], ◌∷◌, Option, Some, None, refl, sym, ap, ap₂, ◌∙◌, nat_le, bytes_eq, Ok, Err}
use Rattle.std.specs.Cmp.Lexicographic.{same_text, pointwise}
use Rattle.serde_json.specs.Data.{unsigned, negative, float, Data, null, boolean, number, string, array, object, Items, no_items, item, Members, no_members, member}
use Rattle.pm_form.specs.declared.refusal.Refusal.{Refusal}
use Rattle.pm_form.specs.declared.refusal.Refusal.TheVariants.{WrongType, WrongKeys, WrongNumber}
use Rattle.pm_form.specs.Form.{Read, then_read, Form, tested, mapped, IsExact}
use Rattle.pm_form.specs.Values.{text, fixed, flag, whole, whole_or_null, or_null_reads}
use Rattle.pm_form.specs.Lists.{list_of, each_reads, each_fits, items_tree, list_data}
use Rattle.pm_form.specs.Objects.{Fields, field, last, keys_of, values_of, field_reads, last_reads, object_of, AreExact}

abbrev Says_is : {A : Type 0} → Read A → A → Type 0
Says_is r a = r ≡ Ok a

if_ok : {A : Type 0} (b : Bool) (x a : A) (e : Refusal) → Says_is (cond b (Ok x) (Err e)) a → (b ≡ true) × (x ≡ a)
if_ok true x a e h = (refl, cc h)
if_ok false x a e h = cc

same_bytes : (a b : List ℕ) → bytes_eq a b ≡ true → a ≡ b
same_bytes a b e = same_text a b (sym e)

itself : (a : List ℕ) → bytes_eq a a ≡ true
itself a = search rules

pub text_exact : (test : List ℕ → Bool) → IsExact (text test)
text_exact test = record { back = λ s fits. rw fits refl; only = only }
  where
    only : (d : Data) (a : List ℕ) → (text test).reads d ≡ Ok a → (d ≡ string a) × (test a ≡ true)
    only null a h = cc
    only (boolean b) a h = cc
    only (number n) a h = cc
    only (string s) a h = let p = if_ok (test s) s a WrongType h in (ap string p.1, ap test (sym p.1) ∙ p.0)
    only (array ds) a h = cc
    only (object ms) a h = cc

pub fixed_exact : (word : List ℕ) → IsExact (fixed word)
fixed_exact word = record { back = λ u fits. rw (itself word) refl; only = only }
  where
    only : (d : Data) (u : Unit {0}) → (fixed word).reads d ≡ Ok u → (d ≡ string word) × (true ≡ true)
    only null u h = cc
    only (boolean b) u h = cc
    only (number n) u h = cc
    only (string s) u h = (ap string (same_bytes s word (if_ok (bytes_eq s word) tt u WrongType h).0), refl)
    only (array ds) u h = cc
    only (object ms) u h = cc

pub flag_exact : IsExact flag
flag_exact = record { back = λ b fits. refl; only = only }
  where
    only : (d : Data) (a : Bool) → flag.reads d ≡ Ok a → (d ≡ boolean a) × (true ≡ true)
    only null a h = cc
    only (boolean b) a h = let e : b ≡ a = cc h in (ap boolean e, refl)
    only (number n) a h = cc
    only (string s) a h = cc
    only (array ds) a h = cc
    only (object ms) a h = cc

pub whole_exact : (most : ℕ) → IsExact (whole most)
whole_exact most = record { back = λ n fits. rw fits refl; only = only }
  where
    only : (d : Data) (a : ℕ) → (whole most).reads d ≡ Ok a → (d ≡ number (unsigned a)) × (nat_le a most ≡ true)
    only null a h = cc
    only (boolean b) a h = cc
    only (number (unsigned n)) a h = let p = if_ok (nat_le n most) n a WrongNumber h in (ap (λ m. number (unsigned m)) p.1, ap (λ m. nat_le m most) (sym p.1) ∙ p.0)
    only (number (negative z)) a h = cc
    only (number (float x)) a h = cc
    only (string s) a h = cc
    only (array ds) a h = cc
    only (object ms) a h = cc

pub whole_or_null_exact : (most : ℕ) → IsExact (whole_or_null most)
whole_or_null_exact most = record { back = back; only = only }
  where
    back : (a : Option ℕ) → (whole_or_null most).fits a ≡ true → or_null_reads most ((whole_or_null most).tree a) ≡ Ok a
    back None fits = refl
    back (Some n) fits = rw fits refl

    some : (n : ℕ) (b : Bool) (a : Option ℕ) → nat_le n most ≡ b → Says_is (then_read (cond b (Ok n) (Err WrongNumber)) (λ m. Ok (Some m))) a
        → (number (unsigned n) ≡ (whole_or_null most).tree a) × ((whole_or_null most).fits a ≡ true)
    some n true None is h = cc
    some n true (Some m) is h = let e : n ≡ m = cc h in (ap (λ k. number (unsigned k)) e, ap (λ k. nat_le k most) (sym e) ∙ is)
    some n false a is h = cc

    only : (d : Data) (a : Option ℕ) → or_null_reads most d ≡ Ok a → (d ≡ (whole_or_null most).tree a) × ((whole_or_null most).fits a ≡ true)
    only null None h = (refl, refl)
    only null (Some n) h = cc
    only (boolean b) a h = cc
    only (number (unsigned n)) a h = some n (nat_le n most) a refl h
    only (number (negative z)) a h = cc
    only (number (float x)) a h = cc
    only (string s) a h = cc
    only (array ds) a h = cc
    only (object ms) a h = cc

-- two readings after each other
both_read : {A B C : Type 0} (r : Read A) (s : Read B) (f : A → B → C) (c : C)
    → then_read r (λ a. then_read s (λ b. Ok (f a b))) ≡ Ok c → (a : A) × (b : B) × (r ≡ Ok a) × (s ≡ Ok b) × (f a b ≡ c)
both_read (Ok a) (Ok b) f c h = (a, b, refl, refl, cc h)
both_read (Ok a) (Err e) f c h = cc
both_read (Err e) s f c h = cc

both_true : (a b : Bool) → (a && b) ≡ true → (a ≡ true) × (b ≡ true)
both_true true b h = (refl, h)
both_true false b h = cc

-- ---- lists

each_back : {A : Type 0} (form : Form A) → IsExact form → (xs : List A) → each_fits form.fits xs ≡ true
    → each_reads form.reads (list_data (items_tree form.tree xs)) ≡ Ok xs
each_back form exact [] fits = refl
each_back form exact (x ∷ xs) fits =
    let p = both_true (form.fits x) _ fits in rw (exact.back x p.0, each_back form exact xs p.1) refl

each_only : {A : Type 0} (form : Form A) → IsExact form → (ds : Items) (xs : List A) → each_reads form.reads (list_data ds) ≡ Ok xs
    → (ds ≡ items_tree form.tree xs) × (each_fits form.fits xs ≡ true)
each_only form exact no_items xs h = let e : [] ≡ xs = cc h in rw (← e) (refl, refl)
each_only form exact (item d ds) xs h =
    let p = both_read (form.reads d) (each_reads form.reads (list_data ds)) (λ y ys. y ∷ ys) xs h in
    let q = exact.only d p.0 p.2 in
    let r = each_only form exact ds p.1 p.3 in
    rw (← p.4) (ap₂ item q.0 r.0, rw (q.1, r.1) refl)

pub list_exact : {A : Type 0} (form : Form A) → IsExact form → IsExact (list_of form)
list_exact form exact = record { back = λ xs fits. each_back form exact xs fits; only = only }
  where
    only : (d : Data) (xs : List _) → (list_of form).reads d ≡ Ok xs → (d ≡ array (items_tree form.tree xs)) × (each_fits form.fits xs ≡ true)
    only null xs h = cc
    only (boolean b) xs h = cc
    only (number n) xs h = cc
    only (string s) xs h = cc
    only (array ds) xs h = let p = each_only form exact ds xs h in (ap array p.0, p.1)
    only (object ms) xs h = cc

-- ---- objects

pub last_exact : {A : Type 0} (key : List ℕ) (form : Form A) → IsExact form → AreExact (last key form)
last_exact key form exact = record { keys = λ a. rw (itself key) refl; back = λ a fits. exact.back a fits; only = only }
  where
    only : (ms : Members) (a : _) → pointwise bytes_eq (keys_of ms) (key ∷ []) ≡ true → last_reads form.reads (values_of ms) ≡ Ok a
        → (ms ≡ member key (form.tree a) no_members) × (form.fits a ≡ true)
    only no_members a same h = cc
    only (member k d no_members) a same h =
        let q = exact.only d a h in
        let e = same_bytes k key (both_true (bytes_eq k key) _ same).0 in
        (ap₂ (λ x y. member x y no_members) e q.0, q.1)
    only (member k d (member l e ms)) a same h = let bad : false ≡ true = (both_true (bytes_eq k key) _ same).1 in cc

placed : {A B : Type 0} {a : A} {b : B} (key k : List ℕ) (d : Data) (ms : Members) (form : Form A) (more : Fields B) → k ≡ key
    → (d ≡ form.tree a) × (form.fits a ≡ true) → (ms ≡ more.members b) × (more.fits b ≡ true) → (p : A × B) → (a, b) ≡ p
    → (member k d ms ≡ member key (form.tree p.0) (more.members p.1)) × ((form.fits p.0 && more.fits p.1) ≡ true)
placed key k d ms form more e q t p is = rw (← is) (rw (e, q.0, t.0) refl, rw (q.1, t.1) refl)

pub field_exact : {A B : Type 0} (key : List ℕ) (form : Form A) (more : Fields B) → IsExact form → AreExact more → AreExact (field key form more)
field_exact key form more exact others = record { keys = λ p. rw (itself key, others.keys p.1) refl; back = back; only = only }
  where
    back : (p : _ × _) → (form.fits p.0 && more.fits p.1) ≡ true → (field key form more).reads (values_of ((field key form more).members p)) ≡ Ok p
    back p fits = let q = both_true (form.fits p.0) _ fits in rw (exact.back p.0 q.0, others.back p.1 q.1) refl

    only : (ms : Members) (p : _ × _) → pointwise bytes_eq (keys_of ms) (key ∷ more.keys) ≡ true → field_reads form.reads more.reads (values_of ms) ≡ Ok p
        → (ms ≡ member key (form.tree p.0) (more.members p.1)) × ((form.fits p.0 && more.fits p.1) ≡ true)
    only no_members p same h = cc
    only (member k d ms) p same h =
        let s = both_true (bytes_eq k key) _ same in
        let e = same_bytes k key s.0 in
        let r = both_read (form.reads d) (more.reads (values_of ms)) (λ a b. (a, b)) p h in
        let q = exact.only d r.0 r.2 in
        let t = others.only ms r.1 s.1 r.3 in
        placed key k d ms form more e q t p r.4

pub object_exact : {A : Type 0} (fields : Fields A) → AreExact fields → IsExact (object_of fields)
object_exact fields exact = record { back = λ a fits. rw (exact.keys a) (exact.back a fits); only = only }
  where
    found : (b : Bool) (ms : Members) (a : _) → pointwise bytes_eq (keys_of ms) fields.keys ≡ b
        → Says_is (then_read (cond b (Ok (values_of ms)) (Err WrongKeys)) fields.reads) a → (ms ≡ fields.members a) × (fields.fits a ≡ true)
    found true ms a same h = exact.only ms a same h
    found false ms a same h = cc

    only : (d : Data) (a : _) → (object_of fields).reads d ≡ Ok a → (d ≡ object (fields.members a)) × (fields.fits a ≡ true)
    only null a h = cc
    only (boolean b) a h = cc
    only (number n) a h = cc
    only (string s) a h = cc
    only (array ds) a h = cc
    only (object ms) a h = let p = found _ ms a refl h in (ap object p.0, p.1)

pub tested_exact : {A : Type 0} (refusal : Refusal) (test : A → Bool) (form : Form A) → IsExact form → IsExact (tested refusal test form)
tested_exact refusal test form exact = record { back = back; only = λ d a h. only d a (form.reads d) refl h }
  where
    back : (a : _) → (form.fits a && test a) ≡ true → (tested refusal test form).reads (form.tree a) ≡ Ok a
    back a fits = let p = both_true (form.fits a) _ fits in rw (exact.back a p.0, p.1) refl

    only : (d : Data) (a : _) (r : Read _) → form.reads d ≡ r → Says_is (then_read r (λ b. cond (test b) (Ok b) (Err refusal))) a
        → (d ≡ form.tree a) × ((form.fits a && test a) ≡ true)
    only d a (Ok b) is h =
        let p = if_ok (test b) b a refusal h in
        let q = exact.only d a (is ∙ ap Ok p.1) in
        (q.0, rw (q.1) (ap test (sym p.1) ∙ p.0))
    only d a (Err e) is h = cc

pub mapped_exact : {A B : Type 0} (there : A → B) (back : B → A) (form : Form A) → ((b : B) → there (back b) ≡ b)
    → ((a : A) → back (there a) ≡ a) → IsExact form → IsExact (mapped there back form)
mapped_exact there back form again again' exact =
    record { back = λ b fits. rw (exact.back (back b) fits) (ap Ok (again b)); only = λ d b h. only d b (form.reads d) refl h }
  where
    only : (d : Data) (b : _) (r : Read _) → form.reads d ≡ r → Says_is (then_read r (λ a. Ok (there a))) b
        → (d ≡ form.tree (back b)) × (form.fits (back b) ≡ true)
    only d b (Ok a) is h =
        let e : there a ≡ b = cc h in
        let q = exact.only d a is in
        let same : a ≡ back b = sym (again' a) ∙ ap back e in
        (q.0 ∙ ap form.tree same, sym (ap form.fits same) ∙ q.1)
    only d b (Err e) is h = cc
