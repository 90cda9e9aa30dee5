-- The sums of a map after a change.
use Rattle.std.proofs.Common.{◌≡◌, ◌<◌, ◌≤◌, ◌+◌, ◌-◌, ◌*◌, ◌^◌, ◌++◌, ℕ, Bool, true, false, inl, inr, List, [], ◌∷◌, length, map, take, get_or, refl, sym, ap, subst, ◌∙◌, arith, length-append}
use Rattle.std.specs.Prelude.{◌||◌, ◌⊎◌, not, Option, Some, None, is_some, cond, min, nat_lt, filter, IsSome}
use Rattle.std.specs.List.{list_any, sum_by, flat_map}
use Rattle.std.specs.Option.{unwrap_or}
use Rattle.std.specs.BTreeMap.{BTreeMap, get_by, UpdatesBy}
use Rattle.std.proofs.lemmas.Bool.{false≢true, cases_Bool, cases_eq, cond-true, cond-false}
use Rattle.std.proofs.lemmas.List.{take_more, map-append, get_or_default, length-map, length-take, append_assoc, append-nil}
use Rattle.std.proofs.lemmas.List.Elements.{filter-append}
use Rattle.std.proofs.lemmas.List.Folds.{list_any-append}
use Rattle.std.proofs.lemmas.List.Sums.{sum_by-append}
use Rattle.std.proofs.lemmas.Grind.{common_steps, flat_map-append}
use Rattle.pm_file.specs.Content.{ReportContent}
use Rattle.pm_kpi.specs.Key.{KeyContent, key_content, key_eq}
use Rattle.pm_kpi.specs.Rows.{AskedContent, ShareContent, shares_of_row, rows_in_report, rows_of, shares_of}
use Rattle.pm_kpi.specs.Totals.{totals_of, totals_at, adds_in, plus, plus_capped}
use Rattle.pm_kpi.specs.Maps.{has_key, sums_at, HasSame, IsWithin, Holds}
use Rattle.pm_kpi.specs.Asked.{share_content}
use Rattle.pm_kpi.specs.declared.adds.Adds.{Adds}
use Rattle.pm_kpi.specs.declared.key.Key.{Key}
use Rattle.pm_kpi.specs.declared.share.Share.{Share}
use Rattle.pm_kpi.specs.declared.totals.Totals.{Totals}
use Rattle.pm_kpi.specs.declared.sums.TheConstants.{MOST_SHARES}
use Rattle.pm_kpi.proofs.KeyLemmas.{key_equiv, key_eq-same, query, order, get_updated}

-- ---- a key is put into the map

none_found : (o : Option Totals) → is_some o ≡ false → unwrap_or o (totals_of []) ≡ totals_of []
none_found None is = refl
none_found (Some t) is = absurd (false≢true (sym is))

pub put_same : (copy key : Key) (m n : BTreeMap Key Totals) (t : Totals) → key_content copy ≡ key_content key → t ≡ totals_of []
    → false ≡ is_some (get_by (order key) m) → UpdatesBy order (order copy) m n (Some t) → HasSame m n
put_same copy key m n t same none absent updates = λ q. elim (cases_Bool (key_eq (key_content copy) q)) [
  | inl here ↦
      ap (λ o. unwrap_or o (totals_of [])) (get_updated copy m n (Some t) updates q ∙ cond-true (key_eq (key_content copy) q) (Some t) (get_by (query q) m) here)
      ∙ none
      ∙ sym (subst (λ (l : KeyContent). unwrap_or (get_by (query l) m) (totals_of []) ≡ totals_of [])
      (sym same ∙ key_eq-same (key_content copy) q here)
      (none_found (get_by (order key) m) (sym absent)))
  | inr there ↦
      ap (λ o. unwrap_or o (totals_of [])) (get_updated copy m n (Some t) updates q ∙ cond-false (key_eq (key_content copy) q) (Some t) (get_by (query q) m) there)
]

some_stays : (b : Bool) (t : Totals) (o : Option Totals) → is_some o ≡ true → is_some (cond b (Some t) o) ≡ true
some_stays true t o is = refl
some_stays false t o is = is

pub put_stays : (copy : Key) (m n : BTreeMap Key Totals) (t : Totals) → UpdatesBy order (order copy) m n (Some t)
    → (q : KeyContent) → has_key m q ≡ true → has_key n q ≡ true
put_stays copy m n t updates = λ q has.
    ap is_some (get_updated copy m n (Some t) updates q) ∙ some_stays (key_eq (key_content copy) q) t (get_by (query q) m) has

-- ---- a share is added

some_is : (t : Totals) (o : Option Totals) → Some t ≡ o → IsSome o
some_is t None is = cc
some_is t (Some u) is = refl

pub share_added : (k : Key) (m n : BTreeMap Key Totals) (t w : Totals) (a : Adds) → Some t ≡ get_by (order k) m → w ≡ plus t a
    → (IsSome (get_by (order k) m) → UpdatesBy order (order k) m n (Some w))
    → (q : KeyContent) → sums_at n q ≡ cond (key_eq q (key_content k)) (plus (sums_at m q) a) (sums_at m q)
share_added k m n t w a was is updates q =
    let u = updates (some_is t (get_by (order k) m) was) in
    let turned : key_eq q (key_content k) ≡ key_eq (key_content k) q = key_equiv.symm q (key_content k) in
    elim (cases_Bool (key_eq (key_content k) q)) [
      | inl here ↦
          ap (λ o. unwrap_or o (totals_of [])) (get_updated k m n (Some w) u q ∙ cond-true (key_eq (key_content k) q) (Some w) (get_by (query q) m) here)
          ∙ is
          ∙ ap (λ (o : Option Totals). plus (unwrap_or o (totals_of [])) a)
          (subst (λ (l : KeyContent). Some t ≡ get_by (query l) m) (key_eq-same (key_content k) q here) was)
          ∙ sym (cond-true (key_eq q (key_content k)) (plus (sums_at m q) a) (sums_at m q) (turned ∙ here))
      | inr there ↦
          ap (λ o. unwrap_or o (totals_of [])) (get_updated k m n (Some w) u q ∙ cond-false (key_eq (key_content k) q) (Some w) (get_by (query q) m) there)
          ∙ sym (cond-false (key_eq q (key_content k)) (plus (sums_at m q) a) (sums_at m q) (turned ∙ there))
    ]

pub share_stays : (k : Key) (m n : BTreeMap Key Totals) (t w : Totals) → Some t ≡ get_by (order k) m
    → (IsSome (get_by (order k) m) → UpdatesBy order (order k) m n (Some w))
    → (q : KeyContent) → has_key n q ≡ has_key m q
share_stays k m n t w was updates q =
    let u = updates (some_is t (get_by (order k) m) was) in
    elim (cases_Bool (key_eq (key_content k) q)) [
      | inl here ↦
          ap is_some (get_updated k m n (Some w) u q ∙ cond-true (key_eq (key_content k) q) (Some w) (get_by (query q) m) here)
          ∙ ap is_some (subst (λ (l : KeyContent). Some t ≡ get_by (query l) m) (key_eq-same (key_content k) q here) was)
      | inr there ↦
          ap is_some (get_updated k m n (Some w) u q ∙ cond-false (key_eq (key_content k) q) (Some w) (get_by (query q) m) there)
    ]

-- ---- the sums of one share more

capped : (x y : ℕ) → x + y ≤ 2 ^ 128 - 1 → plus_capped x y ≡ x + y
capped x y fits = omega (arith, fits)

sum_whole : (f : Adds → ℕ) (rows : List Adds) (a : Adds)
    → sum_by f (filter (λ (x : Adds). x.whole) (rows ++ a ∷ [])) ≡ sum_by f (filter (λ (x : Adds). x.whole) rows) + cond a.whole (f a) 0
sum_whole f rows a =
    ap (sum_by f) (filter-append (λ (x : Adds). x.whole) rows (a ∷ []))
    ∙ sum_by-append f (filter (λ (x : Adds). x.whole) rows) (filter (λ (x : Adds). x.whole) (a ∷ []))
    ∙ ap (λ n. sum_by f (filter (λ (x : Adds). x.whole) rows) + n) (one a.whole)
  where
    one : (b : Bool) → sum_by f (cond b (a ∷ []) []) ≡ cond b (f a) 0
    one true = omega arith
    one false = refl

or_none : (b : Bool) → (b || false) ≡ b
or_none true = refl
or_none false = refl

some_rows : (rows : List Adds) (a : Adds) → true ≡ nat_lt 0 (length (rows ++ a ∷ []))
some_rows rows a = sym (positive (length (rows ++ a ∷ [])) (omega (arith, length-append rows (a ∷ []))))
  where
    positive : (n : ℕ) → 0 < n → nat_lt 0 n ≡ true
    positive n h = grind arith

pub totals_of-push : (rows : List Adds) (a : Adds) → (totals_of rows).above + cond a.whole a.above 0 ≤ 2 ^ 128 - 1
    → (totals_of rows).below + cond a.whole a.below 0 ≤ 2 ^ 128 - 1 → plus (totals_of rows) a ≡ totals_of (rows ++ a ∷ [])
totals_of-push rows a above_fits below_fits =
    let test : Adds → Bool = λ x. x.suspect || not x.whole in
    let above : plus_capped (totals_of rows).above (cond a.whole a.above 0) ≡ (totals_of (rows ++ a ∷ [])).above =
    capped (totals_of rows).above (cond a.whole a.above 0) above_fits ∙ sym (sum_whole (λ (x : Adds). x.above) rows a) in
    let below : plus_capped (totals_of rows).below (cond a.whole a.below 0) ≡ (totals_of (rows ++ a ∷ [])).below =
    capped (totals_of rows).below (cond a.whole a.below 0) below_fits ∙ sym (sum_whole (λ (x : Adds). x.below) rows a) in
    let suspect : (list_any test rows || (a.suspect || not a.whole)) ≡ list_any test (rows ++ a ∷ []) =
    ap (λ b. list_any test rows || b) (sym (or_none (a.suspect || not a.whole))) ∙ sym (list_any-append test rows (a ∷ [])) in
    λ i. record { stands = some_rows rows a i; above = above i; below = below i; suspect = suspect i }

adds_in-push : (q : KeyContent) (shares : List ShareContent) (s : ShareContent)
    → adds_in q (shares ++ s ∷ []) ≡ adds_in q shares ++ cond (key_eq q s.key) (s.adds ∷ []) []
adds_in-push q shares s =
    ap (map (λ (x : ShareContent). x.adds)) (filter-append (λ (x : ShareContent). key_eq q x.key) shares (s ∷ []))
    ∙ map-append (λ (x : ShareContent). x.adds) (filter (λ (x : ShareContent). key_eq q x.key) shares) (filter (λ (x : ShareContent). key_eq q x.key) (s ∷ []))
    ∙ ap (λ l. adds_in q shares ++ l) (one (key_eq q s.key))
  where
    one : (b : Bool) → map (λ (x : ShareContent). x.adds) (cond b (s ∷ []) []) ≡ cond b (s.adds ∷ []) []
    one true = refl
    one false = refl

-- A share is small.
pub record IsSmall (a : Adds) : Type 0 where
  pub above : a.above ≤ 8 * (2 ^ 64 - 1)
  pub below : a.below ≤ 8 * (2 ^ 64 - 1)

part : (b : Bool) (x most : ℕ) → x ≤ most → cond b x 0 ≤ most
part true x most is = is
part false x most is = omega arith

fits : (count x y : ℕ) → count < 1099511627776 → x ≤ count * (8 * (2 ^ 64 - 1)) → y ≤ 8 * (2 ^ 64 - 1) → x + y ≤ 2 ^ 128 - 1
fits count x y few here more = omega (arith, few, here, more)

grown : (count x y : ℕ) → x ≤ count * (8 * (2 ^ 64 - 1)) → y ≤ 8 * (2 ^ 64 - 1) → x + y ≤ (count + 1) * (8 * (2 ^ 64 - 1))
grown count x y here more = omega (arith, here, more)

kept : (count x : ℕ) → x ≤ count * (8 * (2 ^ 64 - 1)) → x ≤ (count + 1) * (8 * (2 ^ 64 - 1))
kept count x here = omega (arith, here)

longer : (shares : List ShareContent) (s : ShareContent) → length shares + 1 ≡ length (shares ++ s ∷ [])
longer shares s = sym (length-append shares (s ∷ []))

-- One share more.
pub holds_push : (m n : BTreeMap Key Totals) (shares : List ShareContent) (s : ShareContent) → length shares < 1099511627776 → IsSmall s.adds
    → ((q : KeyContent) → sums_at n q ≡ cond (key_eq q s.key) (plus (sums_at m q) s.adds) (sums_at m q)) → Holds m shares → Holds n (shares ++ s ∷ [])
holds_push m n shares s few small added holds = record {
  each = λ q. elim (cases_Bool (key_eq q s.key)) [
    | inl here ↦
        added q ∙ cond-true (key_eq q s.key) (plus (sums_at m q) s.adds) (sums_at m q) here
        ∙ ap (λ t. plus t s.adds) (holds.each q)
        ∙ totals_of-push (adds_in q shares) s.adds (above_fits q) (below_fits q)
        ∙ ap totals_of (sym (adds_in-push q shares s ∙ ap (λ l. adds_in q shares ++ l) (cond-true (key_eq q s.key) (s.adds ∷ []) [] here)))
    | inr there ↦
        added q ∙ cond-false (key_eq q s.key) (plus (sums_at m q) s.adds) (sums_at m q) there
        ∙ holds.each q
        ∙ ap totals_of (sym (adds_in-push q shares s ∙ ap (λ l. adds_in q shares ++ l) (cond-false (key_eq q s.key) (s.adds ∷ []) [] there) ∙ append-nil (adds_in q shares)))
  ];
  within = λ q. elim (cases_Bool (key_eq q s.key)) [
    | inl here ↦
        subst (λ t. IsWithin (length (shares ++ s ∷ [])) t)
        (sym (added q ∙ cond-true (key_eq q s.key) (plus (sums_at m q) s.adds) (sums_at m q) here)) (more q)
    | inr there ↦
        subst (λ t. IsWithin (length (shares ++ s ∷ [])) t)
        (sym (added q ∙ cond-false (key_eq q s.key) (plus (sums_at m q) s.adds) (sums_at m q) there)) (same q)
  ];
}
  where
    above_fits : (q : KeyContent) → (totals_at shares q).above + cond s.adds.whole s.adds.above 0 ≤ 2 ^ 128 - 1
    above_fits q =
        fits (length shares) (totals_at shares q).above (cond s.adds.whole s.adds.above 0) few
        (subst (λ (t : Totals). t.above ≤ length shares * (8 * (2 ^ 64 - 1))) (holds.each q) (holds.within q).above)
        (part s.adds.whole s.adds.above _ small.above)

    below_fits : (q : KeyContent) → (totals_at shares q).below + cond s.adds.whole s.adds.below 0 ≤ 2 ^ 128 - 1
    below_fits q =
        fits (length shares) (totals_at shares q).below (cond s.adds.whole s.adds.below 0) few
        (subst (λ (t : Totals). t.below ≤ length shares * (8 * (2 ^ 64 - 1))) (holds.each q) (holds.within q).below)
        (part s.adds.whole s.adds.below _ small.below)

    below_sum : (x y : ℕ) → plus_capped x y ≤ x + y
    below_sum x y = omega arith

    more : (q : KeyContent) → IsWithin (length (shares ++ s ∷ [])) (plus (sums_at m q) s.adds)
    more q = subst (λ k. IsWithin k (plus (sums_at m q) s.adds)) (longer shares s) (record {
      above = omega (arith, below_sum (sums_at m q).above (cond s.adds.whole s.adds.above 0), grown (length shares) (sums_at m q).above (cond s.adds.whole s.adds.above 0) (holds.within q).above (part s.adds.whole s.adds.above _ small.above));
      below = omega (arith, below_sum (sums_at m q).below (cond s.adds.whole s.adds.below 0), grown (length shares) (sums_at m q).below (cond s.adds.whole s.adds.below 0) (holds.within q).below (part s.adds.whole s.adds.below _ small.below));
    })

    same : (q : KeyContent) → IsWithin (length (shares ++ s ∷ [])) (sums_at m q)
    same q = subst (λ k. IsWithin k (sums_at m q)) (longer shares s) (record {
      above = kept (length shares) (sums_at m q).above (holds.within q).above;
      below = kept (length shares) (sums_at m q).below (holds.within q).below;
    })

-- ---- the steps of the loops

pub one_more_room : (shares : List Share) (i : ℕ) (m n : BTreeMap Key Totals) (s : Share) → i < length shares → s ≡ get_or shares i s
    → ((k : ℕ) (d : Share) → k < i → has_key m (key_content (get_or shares k d).key) ≡ true)
    → ((q : KeyContent) → has_key m q ≡ true → has_key n q ≡ true) → has_key n (key_content s.key) ≡ true
    → (k : ℕ) (d : Share) → k < i + 1 → has_key n (key_content (get_or shares k d).key) ≡ true
one_more_room shares i m n s within is before stays put = λ k d less. elim (last k less) [
  | inl earlier ↦ stays (key_content (get_or shares k d).key) (before k d earlier)
  | inr same ↦
      subst (λ (x : Share). has_key n (key_content x.key) ≡ true)
      (is ∙ get_or_default shares i s d within ∙ ap (λ j. get_or shares j d) (sym same)) put
]
  where
    last : (k : ℕ) → k < i + 1 → (k < i) ⊎ (k ≡ i)
    last k less = elim (cases_eq k i) [ inl same ↦ inr same | inr differs ↦ inl (omega (arith, less, differs)) ]

pub one_more_share : (shares : List Share) (i : ℕ) (base : List ShareContent) (m n : BTreeMap Key Totals) (s : Share) → i < length shares → s ≡ get_or shares i s
    → length base + length shares ≤ MOST_SHARES
    → ((q : KeyContent) → sums_at n q ≡ cond (key_eq q (key_content s.key)) (plus (sums_at m q) s.adds) (sums_at m q))
    → Holds m (base ++ map share_content (take i shares)) → Holds n (base ++ map share_content (take (i + 1) shares))
one_more_share shares i base m n s within is few added holds =
    subst (Holds n)
    (append_assoc base (map share_content (take i shares)) (share_content s ∷ [])
    ∙ ap (λ l. base ++ l) (sym (ap (map share_content) (take_more shares i s within ∙ ap (λ x. take i shares ++ x ∷ []) (sym is)) ∙ map-append share_content (take i shares) (s ∷ []))))
    (holds_push m n (base ++ map share_content (take i shares)) (share_content s) short (record { above = s.small_above; below = s.small_below }) added holds)
  where
    short : length (base ++ map share_content (take i shares)) < 1099511627776
    short = omega (arith, length-append base (map share_content (take i shares)), length-map (take i shares) share_content, length-take i shares, few, within)

-- ---- one report more

pub holds_same : (m n : BTreeMap Key Totals) (shares : List ShareContent) → HasSame m n → Holds m shares → Holds n shares
holds_same m n shares same holds = record {
  each = λ q. same q ∙ holds.each q;
  within = λ q. subst (λ t. IsWithin (length shares) t) (sym (same q)) (holds.within q);
}

pub shares_of-append : (asked : AskedContent) (xs ys : List ReportContent) → shares_of asked (xs ++ ys) ≡ shares_of asked xs ++ shares_of asked ys
shares_of-append asked xs ys =
    ap (flat_map (shares_of_row asked)) (flat_map-append rows_in_report xs ys) ∙ flat_map-append (shares_of_row asked) (rows_of xs) (rows_of ys)
