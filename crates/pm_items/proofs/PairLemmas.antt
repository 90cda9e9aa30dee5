-- Two histories with the same items, entry by entry.
use Rattle.std.proofs.Common.{◌≡◌, ℕ, Bool, true, false, cond, [], ◌∷◌, ◌++◌, Option, Some, None, refl, sym, ap, ◌∙◌, subst}
use Rattle.pm_base.specs.Moment.{tick_of}
use Rattle.pm_history.specs.declared.entry.Entry.{Entry}
use Rattle.pm_history.specs.declared.entry.Entry.TheVariants.{Boot, Now}
use Rattle.pm_history.specs.History.{History, Start, ◌▷◌, last_moment, IsHistory, MayFollow}
use Rattle.pm_items.specs.Items.{Item, Opened, Booked, Changed, is_later, open_cells, item_of, items_of}
use Rattle.pm_items.specs.Unstored.{IsUnstored}
use Rattle.pm_items.proofs.KeptLemmas.{items-none, items-some, nil-more, more-same}

-- ---- an item tells its entry

abbrev entry_of : Item → Entry
entry_of (Opened m) = Boot m
entry_of (Booked m t cells) = Now m
entry_of (Changed e) = e

abbrev entry_or : Entry → Option Item → Entry
entry_or d None = d
entry_or d (Some i) = entry_of i

entry-now : (m : ℕ) (i : Item) (b : Bool) → entry_of i ≡ Now m → entry_or (Now m) (cond b (Some i) None) ≡ Now m
entry-now m i true is = is
entry-now m i false is = refl

entry-is : (h : History) (e : Entry) → entry_or e (item_of h e) ≡ e
entry-is h (Now m) = entry-now m (Booked m (tick_of (last_moment h)) (open_cells h)) (is_later h m) refl
entry-is h (Boot m) = refl
entry-is h _ = refl

item-entry : (h : History) (e : Entry) (i : Item) → item_of h e ≡ Some i → entry_of i ≡ e
item-entry h e i is = ap (entry_or e) (sym is) ∙ entry-is h e

-- ---- what holds of nothing, and stays with an entry without an item on either side and with one that has the same item on both,
-- ---- holds of both

module _
    (P : History → History → Type 0)
    (start : P Start Start)
    (left : (g h : History) (e : Entry) → IsUnstored g e → P g h → P (g ▷ e) h)
    (right : (g h : History) (e : Entry) → IsUnstored h e → P g h → P g (h ▷ e))
    (both : (g h : History) (e : Entry) (i : Item) → IsHistory g → IsHistory h → MayFollow g e → MayFollow h e
    → item_of g e ≡ Some i → item_of h e ≡ Some i → items_of g ≡ items_of h → P g h → P (g ▷ e) (h ▷ e))
  where
    with_none : (h : History) → IsHistory h → [] ≡ items_of h → P Start h
    with_none Start ih same = start
    with_none (h ▷ e) ih same = by (item_of h e) refl (with_none h ih.0)
      where
        by : (o : Option Item) → item_of h e ≡ o → ([] ≡ items_of h → P Start h) → P Start (h ▷ e)
        by None is rest = right Start h e (record { follows = ih.1; without = is }) (rest (same ∙ items-none h e is))
        by (Some i) is rest = absurd (nil-more (items_of h) i (same ∙ items-some h e i is))

    with_item : (g : History) (d : Entry) (i : Item) → IsHistory g → MayFollow g d → item_of g d ≡ Some i
        → ((h : History) → IsHistory h → items_of g ≡ items_of h → P g h)
        → (h : History) → IsHistory h → items_of g ++ i ∷ [] ≡ items_of h → P (g ▷ d) h
    with_item g d i ig fg sg old Start ih same = absurd (nil-more (items_of g) i (sym same))
    with_item g d i ig fg sg old (h ▷ e) ih same = by (item_of h e) refl (with_item g d i ig fg sg old h ih.0)
      where
        by : (o : Option Item) → item_of h e ≡ o → (items_of g ++ i ∷ [] ≡ items_of h → P (g ▷ d) h) → P (g ▷ d) (h ▷ e)
        by None is rest = right (g ▷ d) h e (record { follows = ih.1; without = is }) (rest (same ∙ items-none h e is))
        by (Some j) is rest =
            let p = more-same (items_of g) (items_of h) i j (same ∙ items-some h e j is) in
            let entries : d ≡ e = sym (item-entry g d i sg) ∙ (ap entry_of p.1 ∙ item-entry h e j is) in
            let fh : MayFollow h d = subst (MayFollow h) (sym entries) ih.1 in
            let sh : item_of h d ≡ Some i = ap (item_of h) entries ∙ (is ∙ ap Some (sym p.1)) in
            subst (λ x. P (g ▷ d) (h ▷ x)) entries (both g h d i ig ih.0 fg fh sg sh p.0 (old h ih.0 p.0))

    pub pair_induction : (g h : History) → IsHistory g → IsHistory h → items_of g ≡ items_of h → P g h
    pair_induction Start h ig ih same = with_none h ih same
    pair_induction (g ▷ d) h ig ih same = by (item_of g d) refl (λ k ik old. pair_induction g k ig.0 ik old)
      where
        by : (o : Option Item) → item_of g d ≡ o → ((k : History) → IsHistory k → items_of g ≡ items_of k → P g k) → P (g ▷ d) h
        by None is rest = left g h d (record { follows = ig.1; without = is }) (rest h ih (sym (items-none g d is) ∙ same))
        by (Some i) is rest = with_item g d i ig.0 ig.1 is rest h ih (sym (items-some g d i is) ∙ same)
