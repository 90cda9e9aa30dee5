-- The beginnings of a history that end with an item.
use Rattle.std.proofs.Common.{◌≡◌, ◌⊎◌, List, [], ◌∷◌, ◌++◌, Option, Some, None, refl, sym, ap, ◌∙◌, inl, inr, append_assoc}
use Rattle.std.proofs.lemmas.List.{append-nil}
use Rattle.pm_history.specs.declared.entry.Entry.{Entry}
use Rattle.pm_history.specs.History.{History, Start, ◌▷◌, IsHistory}
use Rattle.pm_items.specs.Items.{Item, item_of, items_of, kept}
use Rattle.pm_items.specs.Kept.{KeepsPrefix, IsBeginning}
use Rattle.pm_items.proofs.KeptLemmas.{kept-none, kept-some, items-none, items-some, more-same, grown-more, kept_begins}

-- a list has no last element, or one
last-or-none : (xs : List Item) → (xs ≡ []) ⊎ ((ys : List Item) × (y : Item) × (xs ≡ ys ++ y ∷ []))
last-or-none [] = inl refl
last-or-none (x ∷ xs) =
    elim (last-or-none xs) [
      | inl none ↦ inr ([], x, ap (λ zs. x ∷ zs) none)
      | inr some ↦ inr (x ∷ some.0, some.1, ap (λ zs. x ∷ zs) some.2)
    ]

prefix-more : (h : History) (e : Entry) (items : List Item) → KeepsPrefix h items → KeepsPrefix (h ▷ e) items
prefix-more h e items b = record {
  g = b.g;
  begins = record { more = b.begins.more ++ e ∷ []; is = ap (λ x. x ▷ e) b.begins.is ∙ sym (grown-more b.g b.begins.more e) };
  history = b.history;
  kept_is = b.kept_is;
  items_is = b.items_is;
}

nil-left : (xs ys : List Item) → [] ≡ xs ++ ys → [] ≡ xs
nil-left [] ys same = refl
nil-left (x ∷ xs) ys same = absurd cc

pub prefixes_kept : (h : History) (first more : List Item) → IsHistory h → items_of h ≡ first ++ more → KeepsPrefix h first
prefixes_kept Start first more ih same =
    record { g = Start; begins = record { more = []; is = refl }; history = tt; kept_is = refl; items_is = nil-left first more same }
prefixes_kept (h ▷ e) first more ih same = by (item_of h e) refl (λ m same. prefixes_kept h first m ih.0 same)
  where
    by : (o : Option Item) → item_of h e ≡ o → ((m : List Item) → items_of h ≡ first ++ m → KeepsPrefix h first)
        → KeepsPrefix (h ▷ e) first
    by None is rest = prefix-more h e first (rest more (sym (items-none h e is) ∙ same))
    by (Some i) is rest =
        elim (last-or-none more) [
          | inl none ↦ record {
            g = h ▷ e;
            begins = record { more = []; is = refl };
            history = ih;
            kept_is = kept-some h e i is;
            items_is = same ∙ (ap (λ m. first ++ m) none ∙ append-nil first);
          }
          | inr some ↦
              let split = sym (items-some h e i is) ∙ (same ∙ (ap (λ m. first ++ m) some.2 ∙ sym (append_assoc first some.0 (some.1 ∷ [])))) in
              prefix-more h e first (rest some.0 (more-same (items_of h) (first ++ some.0) i some.1 split).0)
        ]

pub kept_grows : (h : History) (e : Entry) → IsHistory h → IsBeginning (kept h) (kept (h ▷ e))
kept_grows h e ih = by (item_of h e) refl
  where
    by : (o : Option Item) → item_of h e ≡ o → IsBeginning (kept h) (kept (h ▷ e))
    by None is = record { more = []; is = kept-none h e is }
    by (Some i) is =
        let adds = kept_begins h ih in
        record { more = adds.more ++ e ∷ []; is = kept-some h e i is ∙ (ap (λ x. x ▷ e) adds.is ∙ sym (grown-more (kept h) adds.more e)) }
