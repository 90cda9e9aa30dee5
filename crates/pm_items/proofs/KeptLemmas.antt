-- What is kept of a history, and the entry of its last item.
use Rattle.std.proofs.Common.{◌≡◌, ◌≤◌, cond, List, [], ◌∷◌, ◌++◌, Option, Some, None, refl, sym, ap, ◌∙◌, subst, arith}
use Rattle.std.proofs.lemmas.List.{append-nil}
use Rattle.std.specs.Option.{is_some, option_to_list}
use Rattle.pm_history.specs.declared.entry.Entry.{Entry}
use Rattle.pm_history.specs.History.{History, Start, ◌▷◌, grown, size, IsHistory, MayFollow}
use Rattle.pm_items.specs.Items.{Item, item_of, items_of, kept}
use Rattle.pm_items.specs.Unstored.{IsUnstored, AreUnstored, AddsUnstored}
use Rattle.pm_items.specs.Kept.{HasLast}

-- ---- one entry

pub kept-none : (h : History) (e : Entry) → item_of h e ≡ None → kept (h ▷ e) ≡ kept h
kept-none h e is = ap (λ o. cond (is_some o) (h ▷ e) (kept h)) is

pub kept-some : (h : History) (e : Entry) (item : Item) → item_of h e ≡ Some item → kept (h ▷ e) ≡ h ▷ e
kept-some h e item is = ap (λ o. cond (is_some o) (h ▷ e) (kept h)) is

pub items-none : (h : History) (e : Entry) → item_of h e ≡ None → items_of (h ▷ e) ≡ items_of h
items-none h e is = ap (λ o. items_of h ++ option_to_list o) is ∙ append-nil (items_of h)

pub items-some : (h : History) (e : Entry) (item : Item) → item_of h e ≡ Some item → items_of (h ▷ e) ≡ items_of h ++ item ∷ []
items-some h e item is = ap (λ o. items_of h ++ option_to_list o) is

-- ---- keeping twice

pub kept_is_kept : (h : History) → (kept (kept h) ≡ kept h) × (items_of (kept h) ≡ items_of h)
kept_is_kept Start = (refl, refl)
kept_is_kept (h ▷ e) = by (item_of h e) refl (kept_is_kept h)
  where
    by : (o : Option Item) → item_of h e ≡ o → (kept (kept h) ≡ kept h) × (items_of (kept h) ≡ items_of h)
        → (kept (kept (h ▷ e)) ≡ kept (h ▷ e)) × (items_of (kept (h ▷ e)) ≡ items_of (h ▷ e))
    by None is rest =
        let same = kept-none h e is in
        (ap kept same ∙ (rest.0 ∙ sym same), ap items_of same ∙ (rest.1 ∙ sym (items-none h e is)))
    by (Some item) is rest = let same = kept-some h e item is in (ap kept same, ap items_of same)

-- ---- what is kept, and what comes after it

pub grown-more : (h : History) (xs : List Entry) (e : Entry) → grown h (xs ++ e ∷ []) ≡ grown h xs ▷ e
grown-more h [] e = refl
grown-more h (x ∷ xs) e = grown-more (h ▷ x) xs e

unstored-more : (h : History) (xs : List Entry) (e : Entry) → AreUnstored h xs → IsUnstored (grown h xs) e
    → AreUnstored h (xs ++ e ∷ [])
unstored-more h [] e q one = (one, tt)
unstored-more h (x ∷ xs) e q one = (q.0, unstored-more (h ▷ x) xs e q.1 one)

grown-history : (h : History) (xs : List Entry) → IsHistory (grown h xs) → IsHistory h
grown-history h [] is = is
grown-history h (x ∷ xs) is = (grown-history (h ▷ x) xs is).0

pub kept_begins : (h : History) → IsHistory h → AddsUnstored (kept h) h
kept_begins Start is = record { more = []; unstored = tt; is = refl }
kept_begins (h ▷ e) is = by (item_of h e) refl (kept_begins h is.0)
  where
    by : (o : Option Item) → item_of h e ≡ o → AddsUnstored (kept h) h → AddsUnstored (kept (h ▷ e)) (h ▷ e)
    by None none rest =
        let one : IsUnstored h e = record { follows = is.1; without = none } in
        let adds : AddsUnstored (kept h) (h ▷ e) = record {
          more = rest.more ++ e ∷ [];
          unstored = unstored-more (kept h) rest.more e rest.unstored (subst (λ x. IsUnstored x e) rest.is one);
          is = ap (λ x. x ▷ e) rest.is ∙ sym (grown-more (kept h) rest.more e);
        } in
        subst (λ x. AddsUnstored x (h ▷ e)) (sym (kept-none h e none)) adds
    by (Some item) some rest =
        let adds : AddsUnstored (h ▷ e) (h ▷ e) = record { more = []; unstored = tt; is = refl } in
        subst (λ x. AddsUnstored x (h ▷ e)) (sym (kept-some h e item some)) adds

pub kept-history : (h : History) → IsHistory h → IsHistory (kept h)
kept-history h is = let adds = kept_begins h is in grown-history (kept h) adds.more (subst IsHistory adds.is is)

-- ---- the last item

kept-size : (h : History) → size (kept h) ≤ size h
kept-size Start = omega arith
kept-size (h ▷ e) = by (item_of h e) refl (kept-size h)
  where
    by : (o : Option Item) → item_of h e ≡ o → size (kept h) ≤ size h → size (kept (h ▷ e)) ≤ size (h ▷ e)
    by None is le = let same = ap size (kept-none h e is) in omega arith
    by (Some item) is le = let same = ap size (kept-some h e item is) in omega arith

pub nil-more : (xs : List Item) (x : Item) → [] ≡ xs ++ x ∷ [] → ⊥
nil-more [] x h = absurd cc
nil-more (y ∷ ys) x h = absurd cc

pub more-same : (xs ys : List Item) (x y : Item) → xs ++ x ∷ [] ≡ ys ++ y ∷ [] → (xs ≡ ys) × (x ≡ y)
more-same [] [] x y h = (refl, cc)
more-same [] (b ∷ bs) x y h = let rest : [] ≡ bs ++ y ∷ [] = cc in absurd (nil-more bs y rest)
more-same (a ∷ xs) [] x y h = let rest : [] ≡ xs ++ x ∷ [] = cc in absurd (nil-more xs x rest)
more-same (a ∷ xs) (b ∷ bs) x y h =
    let rest : xs ++ x ∷ [] ≡ bs ++ y ∷ [] = cc in
    let first : a ≡ b = cc in
    let p = more-same xs bs x y rest in
    (λ i. first i ∷ p.0 i, p.1)

pub last_item : (h : History) (others : List Item) (item : Item) → IsHistory h → kept h ≡ h → items_of h ≡ others ++ item ∷ []
    → HasLast h others item
last_item Start others item is same items = absurd (nil-more others item items)
last_item (h ▷ e) others item is same items = by (item_of h e) refl
  where
    by : (o : Option Item) → item_of h e ≡ o → HasLast (h ▷ e) others item
    by None none =
        let sizes = ap size (sym (kept-none h e none) ∙ same) in
        let le = kept-size h in
        absurd (omega arith)
    by (Some i) some =
        let p = more-same (items_of h) others i item (sym (items-some h e i some) ∙ items) in
        let adds = kept_begins h is.0 in
        let twice = kept_is_kept h in
        record {
          g = kept h;
          history = kept-history h is.0;
          between = adds.more;
          e = e;
          follows = subst (λ x. MayFollow x e) adds.is is.1;
          is = ap (λ x. x ▷ e) adds.is;
          kept_is = twice.0;
          items_is = twice.1 ∙ p.0;
          unstored = adds.unstored;
          item_is = ap (λ x. item_of x e) (sym adds.is) ∙ (some ∙ ap Some p.1);
        }
