-- What a permitted body measures makes the groups of a report.
use Rattle.std.proofs.Common.{◌≡◌, ℕ, zero, suc, ◌+◌, ◌<◌, ◌||◌, Bool, true, false, cond, List, [], ◌∷◌, ◌++◌, length, map, get_or, is_none, refl, sym, ap, subst, arith, All}
use Rattle.std.specs.List.{list_any, list_all, filter, flat_map, enumerate_from, AllByRecursion}
use Rattle.std.proofs.lemmas.List.Elements.{All-head, All-tail}
use Rattle.pm_base.specs.declared.Class.{Class}
use Rattle.pm_base.specs.declared.Class.TheVariants.{ManagedElement, GnbCuCp, NrCellCu, GnbDu, NrCellDu}
use Rattle.pm_base.specs.declared.class.TheConstants.{CLASSES}
use Rattle.pm_dn.specs.Tree.{IsTree}
use Rattle.pm_dn.proofs.TreeLemmas.{IsTree-let_in}
use Rattle.pm_meas.specs.declared.def.Def.{Def}
use Rattle.pm_meas.specs.Def.{IsDef}
use Rattle.pm_meas.specs.Catalogue.{IsCatalogue}
use Rattle.pm_inventory.specs.Inventory.{InventoryState}
use Rattle.pm_inventory.specs.Slot.{def_at}
use Rattle.pm_history.specs.declared.metric.Metric.{Metric}
use Rattle.pm_history.specs.Terms.{Measured}
use Rattle.pm_form.specs.Lists.{each_fits}
use Rattle.pm_form.specs.Names.{measure_name}
use Rattle.pm_form.proofs.NameLemmas.{measure_name-IsMeasureName}
use Rattle.pm_file.specs.ReportForm.{type_form}
use Rattle.pm_file.specs.Agreement.{is_some_list}
use Rattle.pm_file.specs.Numbers.{metric_text}
use Rattle.pm_asked.specs.Asked.{Numbered, asks_for, is_of_class, measured_objects, same_class, metric_of, measured_of, measured_asked}
use Rattle.pm_jobs.specs.Numbered.{numbered, AreBelow}
use Rattle.pm_jobs.specs.Rules.{is_measured}
use Rattle.pm_ready.specs.Shape.{is_named, HasNames}
use Rattle.pm_ready.proofs.BoolLemmas.{both, and}

-- ---- filters

pub list_all-filter : {A : Type 0} (p q : A → Bool) (xs : List A) → list_all p xs ≡ true → list_all p (filter q xs) ≡ true
list_all-filter p q [] e = refl
list_all-filter p q (x ∷ xs) e = let h = both (p x) (list_all p xs) e in by (q x) h.0 (list_all-filter p q xs h.1)
  where
    by : (b : Bool) → p x ≡ true → list_all p (filter q xs) ≡ true → list_all p (cond b (x ∷ filter q xs) (filter q xs)) ≡ true
    by true h more = and (p x) (list_all p (filter q xs)) h more
    by false h more = more

filter-passes : {A : Type 0} (p : A → Bool) (xs : List A) → list_all p (filter p xs) ≡ true
filter-passes p [] = refl
filter-passes p (x ∷ xs) = by (p x) refl (filter-passes p xs)
  where
    by : (b : Bool) → p x ≡ b → list_all p (filter p xs) ≡ true → list_all p (cond b (x ∷ filter p xs) (filter p xs)) ≡ true
    by true is more = and (p x) (list_all p (filter p xs)) is more
    by false is more = more

some-filter : {A : Type 0} (p : A → Bool) (xs : List A) → list_any p xs ≡ true → is_some_list (filter p xs) ≡ true
some-filter p [] e = e
some-filter p (x ∷ xs) e = by (p x) e (λ h. some-filter p xs h)
  where
    by : (b : Bool) → (b || list_any p xs) ≡ true → (list_any p xs ≡ true → is_some_list (filter p xs) ≡ true)
        → is_some_list (cond b (x ∷ filter p xs) (filter p xs)) ≡ true
    by true h more = refl
    by false h more = more h

-- ---- names

below-tail : (end n : ℕ) (ns : List ℕ) → AreBelow end (n ∷ ns) → AreBelow end ns
below-tail end n ns below i lt = below (suc i) (omega (arith, lt))

name_at : (ds : List Def) (n : ℕ) → All IsDef ds → n < length ds → measure_name (get_or (map (λ (d : Def). d.name) ds) n []) ≡ true
name_at [] n all lt = absurd (omega arith)
name_at (d ∷ ds) zero all lt = let is : IsDef d = All-head IsDef d ds all in measure_name-IsMeasureName d.name is.name_is
name_at (d ∷ ds) (suc n) all lt = name_at ds n (All-tail IsDef d ds all) (omega (arith, lt))

abbrev pub has_objects : Measured → Bool
has_objects m = is_some_list m.objects

module _ (inventory : InventoryState) where
  type_fits : (n : ℕ) → IsCatalogue inventory.measures → n < length inventory.measures → type_form.fits (metric_text inventory n) ≡ true
  unfolding type_form
  type_fits n is lt = name_at inventory.measures n is.permitted lt

  pub types-fit : (ns : List ℕ) (p : Numbered → Bool) → IsCatalogue inventory.measures → AreBelow (length inventory.measures) ns
      → each_fits type_form.fits (map (metric_text inventory) (map (λ (k : Metric). k.number) (map metric_of (filter p (numbered inventory ns))))) ≡ true
  types-fit [] p is below = refl
  types-fit (n ∷ ns) p is below =
      by (p (n, def_at inventory.measures n)) (type_fits n is (below zero (omega arith))) (types-fit ns p is (below-tail (length inventory.measures) n ns below))
    where
      by : (b : Bool) → type_form.fits (metric_text inventory n) ≡ true
          → each_fits type_form.fits (map (metric_text inventory) (map (λ (k : Metric). k.number) (map metric_of (filter p (numbered inventory ns))))) ≡ true
          → each_fits type_form.fits (map (metric_text inventory) (map (λ (k : Metric). k.number)
          (map metric_of (cond b ((n, def_at inventory.measures n) ∷ filter p (numbered inventory ns)) (filter p (numbered inventory ns)))))) ≡ true
      by true own more = and (type_form.fits (metric_text inventory n)) _ own more
      by false own more = more

  object_named : (o : ℕ) → IsTree inventory.objects → o < length inventory.objects → is_named inventory o ≡ true
  object_named o is lt = ap is_none (IsTree-let_in inventory.objects o is lt).named

  pub objects-named : (os : List ℕ) → IsTree inventory.objects → AreBelow (length inventory.objects) os → list_all (is_named inventory) os ≡ true
  objects-named [] is below = refl
  objects-named (o ∷ os) is below =
      and (is_named inventory o) _ (object_named o is (below zero (omega arith))) (objects-named os is (below-tail (length inventory.objects) o os below))

  -- ---- what is measured

  -- that of a class, and what comes after it
  one-class : (os : List ℕ) (c : Class) (l : List Numbered) (rest : List Measured)
      → each_fits type_form.fits (map (metric_text inventory) (map (λ (k : Metric). k.number) (map metric_of l))) ≡ true
      → list_all (is_named inventory) (measured_objects inventory os c) ≡ true → list_all has_objects (measured_of inventory os c l ++ rest) ≡ true
      → (list_all has_objects rest ≡ true → AllByRecursion (HasNames inventory) rest) → AllByRecursion (HasNames inventory) (measured_of inventory os c l ++ rest)
  one-class os c [] rest types names some more = more some
  one-class os c (x ∷ xs) rest types names some more =
      let b = both _ (list_all has_objects rest) some in
      (record { metrics = refl; objects = b.0; types = types; names = names }, more b.1)

  each-class : (ns os : List ℕ) (cs : List Class) → IsCatalogue inventory.measures → IsTree inventory.objects
      → AreBelow (length inventory.measures) ns → AreBelow (length inventory.objects) os
      → list_all has_objects (flat_map (λ c. measured_of inventory os c (filter (λ (m : Numbered). same_class m.1.class c) (numbered inventory ns))) cs) ≡ true
      → AllByRecursion (HasNames inventory) (flat_map (λ c. measured_of inventory os c (filter (λ (m : Numbered). same_class m.1.class c) (numbered inventory ns))) cs)
  each-class ns os [] catalogue tree metrics objects some = tt
  each-class ns os (c ∷ cs) catalogue tree metrics objects some =
      one-class os c _ _ (types-fit ns (λ (m : Numbered). same_class m.1.class c) catalogue metrics)
      (list_all-filter (is_named inventory) (is_of_class inventory c) os (objects-named os tree objects)) some
      (λ more. each-class ns os cs catalogue tree metrics objects more)

  pub have_names : (ns os : List ℕ) → IsCatalogue inventory.measures → IsTree inventory.objects
      → AreBelow (length inventory.measures) ns → AreBelow (length inventory.objects) os
      → list_all has_objects (measured_asked inventory (numbered inventory ns) os) ≡ true
      → AllByRecursion (HasNames inventory) (measured_asked inventory (numbered inventory ns) os)
  have_names ns os catalogue tree metrics objects some = each-class ns os CLASSES catalogue tree metrics objects some

  -- ---- that of a body is not nothing

  same-is : (a b : Class) → same_class a b ≡ true → a ≡ b
  same-is ManagedElement ManagedElement e = refl
  same-is GnbCuCp GnbCuCp e = refl
  same-is NrCellCu NrCellCu e = refl
  same-is GnbDu GnbDu e = refl
  same-is NrCellDu NrCellDu e = refl
  same-is ManagedElement _ e = cc
  same-is GnbCuCp _ e = cc
  same-is NrCellCu _ e = cc
  same-is GnbDu _ e = cc
  same-is NrCellDu _ e = cc

  one-measured : (os : List ℕ) (c : Class) (l : List Numbered) (rest : List Measured) → list_all (λ (m : Numbered). same_class m.1.class c) l ≡ true
      → list_all (is_measured inventory os) l ≡ true → list_all has_objects rest ≡ true → list_all has_objects (measured_of inventory os c l ++ rest) ≡ true
  one-measured os c [] rest same measured more = more
  one-measured os c (x ∷ xs) rest same measured more =
      let class = same-is x.1.class c (both _ (list_all (λ (m : Numbered). same_class m.1.class c) xs) same).0 in
      let some : list_any (is_of_class inventory c) os ≡ true =
      subst (λ d. list_any (is_of_class inventory d) os ≡ true) class (both _ (list_all (is_measured inventory os) xs) measured).0 in
      and _ _ (some-filter (is_of_class inventory c) os some) more

  each-measured : (ms : List Numbered) (os : List ℕ) (cs : List Class) → list_all (is_measured inventory os) ms ≡ true
      → list_all has_objects (flat_map (λ c. measured_of inventory os c (filter (λ (m : Numbered). same_class m.1.class c) ms)) cs) ≡ true
  each-measured ms os [] measured = refl
  each-measured ms os (c ∷ cs) measured =
      one-measured os c _ _ (filter-passes (λ (m : Numbered). same_class m.1.class c) ms)
      (list_all-filter (is_measured inventory os) (λ (m : Numbered). same_class m.1.class c) ms measured) (each-measured ms os cs measured)

  pub all-measured : (ms : List Numbered) (os : List ℕ) → list_all (is_measured inventory os) ms ≡ true → list_all has_objects (measured_asked inventory ms os) ≡ true
  all-measured ms os measured = each-measured ms os CLASSES measured

  front : (a b : List Measured) → is_some_list a ≡ true → is_some_list (a ++ b) ≡ true
  front [] b e = cc
  front (x ∷ a) b e = refl

  later : (a b : List Measured) → is_some_list b ≡ true → is_some_list (a ++ b) ≡ true
  later [] b e = e
  later (x ∷ a) b e = refl

  some-flat : (f : Class → List Measured) (cs : List Class) (k : ℕ) (d : Class) → k < length cs → is_some_list (f (get_or cs k d)) ≡ true
      → is_some_list (flat_map f cs) ≡ true
  some-flat f [] k d lt e = absurd (omega arith)
  some-flat f (c ∷ cs) zero d lt e = front (f c) (flat_map f cs) e
  some-flat f (c ∷ cs) (suc k) d lt e = later (f c) (flat_map f cs) (some-flat f cs k d (omega (arith, lt)) e)

  some-class : (f : Class → List Measured) (c : Class) → is_some_list (f c) ≡ true → is_some_list (flat_map f CLASSES) ≡ true
  some-class f GnbCuCp e = some-flat f CLASSES 0 ManagedElement (omega arith) e
  some-class f GnbDu e = some-flat f CLASSES 1 ManagedElement (omega arith) e
  some-class f ManagedElement e = some-flat f CLASSES 2 ManagedElement (omega arith) e
  some-class f NrCellCu e = some-flat f CLASSES 3 ManagedElement (omega arith) e
  some-class f NrCellDu e = some-flat f CLASSES 4 ManagedElement (omega arith) e

  same-self : (c : Class) → same_class c c ≡ true
  same-self ManagedElement = refl
  same-self GnbCuCp = refl
  same-self NrCellCu = refl
  same-self GnbDu = refl
  same-self NrCellDu = refl

  some-own : (x : Numbered) (xs : List Numbered) (os : List ℕ)
      → is_some_list (measured_of inventory os x.1.class (filter (λ (m : Numbered). same_class m.1.class x.1.class) (x ∷ xs))) ≡ true
  some-own x xs os =
      let rest : List Numbered = filter (λ (m : Numbered). same_class m.1.class x.1.class) xs in
      subst (λ b. is_some_list (measured_of inventory os x.1.class (cond b (x ∷ rest) rest)) ≡ true) (sym (same-self x.1.class)) refl

  pub is-some : (ms : List Numbered) (os : List ℕ) → is_some_list ms ≡ true → is_some_list (measured_asked inventory ms os) ≡ true
  is-some [] os e = cc
  is-some (x ∷ xs) os e =
      some-class (λ c. measured_of inventory os c (filter (λ (m : Numbered). same_class m.1.class c) (x ∷ xs))) x.1.class (some-own x xs os)

  pub some-metrics : (t : List ℕ) (ts : List (List ℕ)) (ds : List Def) (k : ℕ) → list_any (λ d. asks_for d t) ds ≡ true
      → is_some_list (filter (λ (metric : Numbered). list_any (asks_for metric.1) (t ∷ ts)) (enumerate_from k ds)) ≡ true
  some-metrics t ts [] k e = cc
  some-metrics t ts (d ∷ ds) k e = by (asks_for d t) (list_any (asks_for d) ts) e (λ h. some-metrics t ts ds (k + 1) h)
    where
      by : (a b : Bool) → (a || list_any (λ d. asks_for d t) ds) ≡ true
          → (list_any (λ d. asks_for d t) ds ≡ true
          → is_some_list (filter (λ (metric : Numbered). list_any (asks_for metric.1) (t ∷ ts)) (enumerate_from (k + 1) ds)) ≡ true)
          → is_some_list (cond (a || b) ((k, d) ∷ filter (λ (metric : Numbered). list_any (asks_for metric.1) (t ∷ ts)) (enumerate_from (k + 1) ds))
          (filter (λ (metric : Numbered). list_any (asks_for metric.1) (t ∷ ts)) (enumerate_from (k + 1) ds))) ≡ true
      by true b h more = refl
      by false true h more = refl
      by false false h more = more h
