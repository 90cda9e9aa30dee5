-- Cursors of later items leave the stored ones as they are.
use Rattle.std.proofs.Common.{◌≡◌, ℕ, ◌+◌, ◌<◌, ◌≤◌, Bool, true, false, cond, List, [], ◌∷◌, ◌++◌, length, Option, Some, None, refl, sym, ap, ◌∙◌, arith}
use Rattle.std.specs.Str.{bytes_eq}
use Rattle.std.specs.List.{count_by}
use Rattle.std.proofs.Math.ListN.{get_or-append}
use Rattle.std.proofs.lemmas.List.Sums.{sum_by-append}
use Rattle.pm_history.specs.declared.entry.Side.{Side}
use Rattle.pm_history.specs.declared.entry.Entry.{Entry}
use Rattle.pm_history.specs.declared.entry.Entry.TheVariants.{Subscribed}
use Rattle.pm_history.specs.History.{History, Start, ◌▷◌}
use Rattle.pm_history.specs.Terms.{Terms}
use Rattle.pm_history.specs.Notices.{notices_of}
use Rattle.pm_items.specs.Items.{Item, Booked, Changed, item_of, items_of}
use Rattle.pm_items.specs.Subscribed.{subscribers_after}
use Rattle.pm_items.specs.Cursors.{is_booked, bookings, cursor_in, cursor_by, stored_cursor}
use Rattle.pm_items.proofs.KeptLemmas.{items-some, items-none}

count-more : (xs : List Item) (x : Item) → count_by is_booked (xs ++ x ∷ []) ≡ count_by is_booked xs + cond (is_booked x) 1 0
count-more xs x = let both = sum_by-append (λ (i : Item). cond (is_booked i) 1 0) xs (x ∷ []) in omega (arith, both)

bookings-more : (h : History) (e : Entry) (i : Item) → item_of h e ≡ Some i
    → bookings (h ▷ e) ≡ bookings h + cond (is_booked i) 1 0
bookings-more h e i is = ap (count_by is_booked) (items-some h e i is) ∙ count-more (items_of h) i

booked-room : (taken : List (List ℕ)) (n m : ℕ) (b : Bool) → m ≡ n + cond b 1 0 → m ≤ length taken → b ≡ true → n < length taken
booked-room taken n m true is le passes = omega (arith, is)
booked-room taken n m false is le passes = absurd cc

module _ (terms : Side → List ℕ → Terms) (taken more : List (List ℕ)) where
  stays-item : (h : History) (id : List ℕ) (old new : ℕ) (i : Item) → (is_booked i ≡ true → bookings h < length taken) → old ≡ new
      → cursor_by terms (taken ++ more) h id old (Some i) ≡ cursor_by terms taken h id new (Some i)
  stays-item h id old new (Booked m t cells) room same =
      ap (λ cs. cursor_in (subscribers_after h) cs id) (get_or-append taken more [] (bookings h) (room refl))
  stays-item h id old new (Changed (Subscribed m name port path)) room same =
      ap (cond (bytes_eq name id) (length (notices_of terms h))) same
  stays-item h id old new _ room same = same

  stored-stays : (h : History) (id : List ℕ) → bookings h ≤ length taken
      → stored_cursor terms (taken ++ more) h id ≡ stored_cursor terms taken h id
  stored-stays Start id le = refl
  stored-stays (h ▷ e) id le = by (item_of h e) refl (stored-stays h id)
    where
      by : (o : Option Item) → item_of h e ≡ o
          → (bookings h ≤ length taken → stored_cursor terms (taken ++ more) h id ≡ stored_cursor terms taken h id)
          → stored_cursor terms (taken ++ more) (h ▷ e) id ≡ stored_cursor terms taken (h ▷ e) id
      by None is old =
          let same = ap (count_by is_booked) (items-none h e is) in
          ap (cursor_by terms (taken ++ more) h id _) is
          ∙ (old (omega (arith, same)) ∙ sym (ap (cursor_by terms taken h id _) is))
      by (Some i) is old =
          let same = bookings-more h e i is in
          let room = booked-room taken (bookings h) (bookings (h ▷ e)) (is_booked i) same le in
          ap (cursor_by terms (taken ++ more) h id _) is
          ∙ (stays-item h id _ _ i room (old (omega (arith, same))) ∙ sym (ap (cursor_by terms taken h id _) is))

pub cursors_stay : (terms : Side → List ℕ → Terms) (taken more : List (List ℕ)) (h : History) (id : List ℕ)
    → bookings h ≤ length taken
    → stored_cursor terms (taken ++ more) h id ≡ stored_cursor terms taken h id
cursors_stay terms taken more h id le = stored-stays terms taken more h id le
