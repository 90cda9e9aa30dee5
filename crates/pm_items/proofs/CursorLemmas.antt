-- Stored cursors of two histories with the same items, and their bound.
use Rattle.std.proofs.Common.{◌≡◌, ℕ, ◌≤◌, Bool, true, false, cond, List, [], ◌∷◌, length, get_or, Option, Some, refl, sym, ap, ◌∙◌, arith, length-append}
use Rattle.std.specs.Str.{bytes_eq}
use Rattle.std.specs.List.{count_by}
use Rattle.pm_history.specs.declared.entry.Side.{Side}
use Rattle.pm_history.specs.declared.entry.Entry.{Entry}
use Rattle.pm_history.specs.declared.entry.Entry.TheVariants.{Boot, Subscribed}
use Rattle.pm_history.specs.History.{History, Start, ◌▷◌, IsHistory}
use Rattle.pm_history.specs.Terms.{Terms}
use Rattle.pm_history.specs.Notices.{notices_of}
use Rattle.pm_history.proofs.StayLemmas.{notices_of-next}
use Rattle.pm_items.specs.Items.{Item, Booked, Changed, item_of, items_of}
use Rattle.pm_items.specs.Unstored.{IsUnstored}
use Rattle.pm_items.specs.Cursors.{is_booked, cursor_in, cursor_by, stored_cursor, CursorsFit, FitsNext, AllFit}
use Rattle.pm_items.proofs.PairLemmas.{pair_induction}
use Rattle.pm_items.proofs.ToldLemmas.{items_tell}
use Rattle.pm_items.proofs.SubscribedLemmas.{same_subscriptions}

module _ (terms : Side → List ℕ → Terms) (taken : List (List ℕ)) where
  stored-unstored : (h : History) (e : Entry) (id : List ℕ) → IsUnstored h e
      → stored_cursor terms taken (h ▷ e) id ≡ stored_cursor terms taken h id
  stored-unstored h e id q = ap (cursor_by terms taken h id (stored_cursor terms taken h id)) q.without

  stored-item : (g h : History) (e : Entry) (i : Item) (id : List ℕ) → IsHistory g → IsHistory h → items_of g ≡ items_of h
      → item_of g e ≡ Some i → item_of h e ≡ Some i → stored_cursor terms taken g id ≡ stored_cursor terms taken h id
      → stored_cursor terms taken (g ▷ e) id ≡ stored_cursor terms taken (h ▷ e) id
  stored-item g h e i id ig ih same sg sh old =
      ap (cursor_by terms taken g id (stored_cursor terms taken g id)) sg
      ∙ (by i ∙ sym (ap (cursor_by terms taken h id (stored_cursor terms taken h id)) sh))
    where
      by : (i : Item) → cursor_by terms taken g id (stored_cursor terms taken g id) (Some i)
          ≡ cursor_by terms taken h id (stored_cursor terms taken h id) (Some i)
      by (Booked m t cells) =
          let ids = (same_subscriptions g h ig ih same).1 in
          λ k. cursor_in (ids k) (get_or taken (count_by is_booked (same k)) []) id
      by (Changed (Subscribed m name port path)) =
          let notices = (items_tell terms g h ig ih same).1 in
          λ k. cond (bytes_eq name id) (length (notices k)) (old k)
      by _ = old

  stored-same : (g h : History) → IsHistory g → IsHistory h → items_of g ≡ items_of h
      → (id : List ℕ) → stored_cursor terms taken g id ≡ stored_cursor terms taken h id
  stored-same g h ig ih same =
      pair_induction (λ g h. (id : List ℕ) → stored_cursor terms taken g id ≡ stored_cursor terms taken h id) (λ id. refl)
      (λ g h e q old id. stored-unstored g e id q ∙ old id)
      (λ g h e q old id. old id ∙ sym (stored-unstored h e id q))
      (λ g h e i ig ih fg fh sg sh same old id. stored-item g h e i id ig ih same sg sh (old id))
      g h ig ih same

  -- ---- at most as many as there are notices

  cursor_in-bounded : (h : History) (ids : List (List ℕ)) (cs : List ℕ) (id : List ℕ) → CursorsFit terms taken h ids cs
      → cursor_in ids cs id ≤ length (notices_of terms h)
  cursor_in-bounded h [] cs id fit = omega arith
  cursor_in-bounded h (i ∷ is) [] id fit = omega arith
  cursor_in-bounded h (i ∷ is) (c ∷ cs) id fit = by (bytes_eq i id) (cursor_in-bounded h is cs id fit.2)
    where
      by : (b : Bool) → cursor_in is cs id ≤ length (notices_of terms h)
          → cond b c (cursor_in is cs id) ≤ length (notices_of terms h)
      by true rest = fit.1
      by false rest = rest

  by-bounded : (h : History) (id : List ℕ) (old : ℕ) (o : Option Item) → old ≤ length (notices_of terms h)
      → FitsNext terms taken h o
      → cursor_by terms taken h id old o ≤ length (notices_of terms h)
  by-bounded h id old (Some (Booked m t cells)) le fit = cursor_in-bounded h _ _ id fit
  by-bounded h id old (Some (Changed (Subscribed m name port path))) le fit = by (bytes_eq name id)
    where
      by : (b : Bool) → cond b (length (notices_of terms h)) old ≤ length (notices_of terms h)
      by true = omega arith
      by false = le
  by-bounded h id old _ le fit = le

  stored-bounded : (h : History) (id : List ℕ) → IsHistory h → AllFit terms taken h
      → stored_cursor terms taken h id ≤ length (notices_of terms h)
  stored-bounded Start id ih fit = omega arith
  stored-bounded (h ▷ e) id ih fit =
      let next = by-bounded h id _ (item_of h e) (stored-bounded h id ih.0 fit.0) fit.1 in
      let grown = simp length-append at (ap length (notices_of-next terms h e ih.1.later)) in
      omega arith

pub same_cursors : (terms : Side → List ℕ → Terms) (taken : List (List ℕ)) (g h : History) → IsHistory g → IsHistory h
    → items_of g ≡ items_of h
    → (id : List ℕ) → stored_cursor terms taken g id ≡ stored_cursor terms taken h id
same_cursors terms taken g h ig ih same = stored-same terms taken g h ig ih same

pub cursors_bounded : (terms : Side → List ℕ → Terms) (taken : List (List ℕ)) (h : History) (id : List ℕ) → IsHistory h
    → AllFit terms taken h
    → stored_cursor terms taken h id ≤ length (notices_of terms h)
cursors_bounded terms taken h id ih fit = stored-bounded terms taken h id ih fit

pub boots_store_none : (terms : Side → List ℕ → Terms) (taken : List (List ℕ)) (h : History) (moment : ℕ) (id : List ℕ)
    → stored_cursor terms taken (h ▷ Boot moment) id ≡ stored_cursor terms taken h id
boots_store_none terms taken h moment id = refl
