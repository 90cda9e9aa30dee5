-- Subscriptions that stand for a history, one step on.
use Rattle.std.proofs.Common.{◌≡◌, ℕ, zero, suc, ◌<◌, Bool, true, false, cond, List, [], ◌∷◌, length, remove, set, get_or, Some, None, refl, sym, ap, ◌∙◌, arith}
use Rattle.std.specs.Option.{option_map}
use Rattle.std.specs.Str.{bytes_eq}
use Rattle.pm_history.specs.declared.entry.Entry.{Entry}
use Rattle.pm_history.specs.declared.entry.Entry.TheVariants.{Subscribed, Unsubscribed}
use Rattle.pm_history.specs.History.{History, ◌▷◌}
use Rattle.pm_history.specs.Standing.{with_id, without_id}
use Rattle.pm_items.specs.Subscribed as history
use Rattle.pm_notice.specs.declared.subscription.Subscription.{Subscription}
use Rattle.pm_notice.specs.Plan.{subscription_under, with_subscription}
use Rattle.pm_notice.specs.StandFor.{StandFor, IsOfOthers, destination, ids_of, cursors_of, id_at, with_cursor}
use Rattle.pm_notice.proofs.OrderLemmas.{IsSorted, subscribers_after-sorted}
use Rattle.pm_notice.proofs.InsertLemmas.{ids-with, under-with}
use Rattle.pm_notice.proofs.RemoveLemmas.{remove-without, ids-without, under-without}

sorted : (xs : List Subscription) (h : History) (cs : List ℕ) → StandFor xs h cs → IsSorted (ids_of xs)
sorted xs h cs stand = rw stand.ids (subscribers_after-sorted h)

-- One is made.
pub stand-with : (s : Subscription) (xs : List Subscription) (h : History) (cs : List ℕ) (moment : ℕ) → subscription_under s.id xs ≡ None → StandFor xs h cs
    → StandFor (with_subscription s xs) (h ▷ Subscribed moment s.id s.port s.path) (cursors_of (with_subscription s xs))
stand-with s xs h cs moment none stand =
    record {
      ids = ids-with s xs ∙ ap (with_id s.id) stand.ids;
      destinations = λ id. ap (option_map destination) (under-with s xs id none) ∙ by (bytes_eq s.id id) id (stand.destinations id);
      served = refl;
    }
  where
    by : (b : Bool) (id : List ℕ) → option_map destination (subscription_under id xs) ≡ history.subscribed_after h id
        → option_map destination (cond b (Some s) (subscription_under id xs)) ≡ cond b (Some (destination s)) (history.subscribed_after h id)
    by true id old = refl
    by false id old = old

-- One is deleted.
pub stand-without : (xs : List Subscription) (place : ℕ) (h : History) (cs : List ℕ) (moment : ℕ) → place < length xs → StandFor xs h cs
    → StandFor (remove xs place) (h ▷ Unsubscribed moment (id_at xs place)) (cursors_of (remove xs place))
stand-without xs place h cs moment lt stand =
    let is = remove-without xs place (sorted xs h cs stand) lt in
    let gone = id_at xs place in
    record {
      ids = ap ids_of is ∙ ids-without gone xs ∙ ap (without_id gone) stand.ids;
      destinations = λ id. ap (λ ys. option_map destination (subscription_under id ys)) is
          ∙ ap (option_map destination) (under-without gone id xs) ∙ by (bytes_eq gone id) id (stand.destinations id);
      served = refl;
    }
  where
    by : (b : Bool) (id : List ℕ) → option_map destination (subscription_under id xs) ≡ history.subscribed_after h id
        → option_map destination (cond b None (subscription_under id xs)) ≡ cond b None (history.subscribed_after h id)
    by true id old = refl
    by false id old = old

-- Subscriptions that differ in their cursors alone.
abbrev pub AreSame : List Subscription → List Subscription → Type 0
AreSame [] [] = Unit {0}
AreSame (x ∷ xs) (y ∷ ys) = (y.id ≡ x.id) × (y.port ≡ x.port) × (y.path ≡ x.path) × AreSame xs ys
AreSame _ _ = ⊥

same-ids : (xs ys : List Subscription) → AreSame xs ys → ids_of ys ≡ ids_of xs
same-ids [] [] same = refl
same-ids [] (y ∷ ys) same = absurd same
same-ids (x ∷ xs) [] same = absurd same
same-ids (x ∷ xs) (y ∷ ys) same = rw (same.0, same-ids xs ys same.3) refl

same-under : (id : List ℕ) (xs ys : List Subscription) → AreSame xs ys
    → option_map destination (subscription_under id ys) ≡ option_map destination (subscription_under id xs)
same-under id [] [] same = refl
same-under id [] (y ∷ ys) same = absurd same
same-under id (x ∷ xs) [] same = absurd same
same-under id (x ∷ xs) (y ∷ ys) same =
    ap (λ i. option_map destination (cond (bytes_eq i id) (Some y) (subscription_under id ys))) same.0
    ∙ by (bytes_eq x.id id) (same-under id xs ys same.3)
  where
    by : (b : Bool) → option_map destination (subscription_under id ys) ≡ option_map destination (subscription_under id xs)
        → option_map destination (cond b (Some y) (subscription_under id ys)) ≡ option_map destination (cond b (Some x) (subscription_under id xs))
    by true rest = rw (same.1, same.2) refl
    by false rest = rest

pub stand-same : (xs ys : List Subscription) (h : History) (cs : List ℕ) → AreSame xs ys → StandFor xs h cs → StandFor ys h (cursors_of ys)
stand-same xs ys h cs same stand =
    record {
      ids = same-ids xs ys same ∙ stand.ids;
      destinations = λ id. same-under id xs ys same ∙ stand.destinations id;
      served = refl;
    }

itself : (xs : List Subscription) → AreSame xs xs
itself [] = tt
itself (x ∷ xs) = (refl, refl, refl, itself xs)

pub with_cursor-same : (place cursor : ℕ) (xs : List Subscription) → AreSame xs (with_cursor place cursor xs)
with_cursor-same place cursor [] = tt
with_cursor-same zero cursor (x ∷ xs) = (refl, refl, refl, itself xs)
with_cursor-same (suc place) cursor (x ∷ xs) = (refl, refl, refl, with_cursor-same place cursor xs)

pub set-cursor : (place cursor : ℕ) (xs : List Subscription) (s : Subscription) → place < length xs → s ≡ get_or xs place s
    → set xs place (record { id = s.id; port = s.port; path = s.path; cursor = cursor }) ≡ with_cursor place cursor xs
set-cursor place cursor [] s lt is = absurd (omega (arith, lt))
set-cursor zero cursor (x ∷ xs) s lt is = rw is refl
set-cursor (suc place) cursor (x ∷ xs) s lt is = ap (λ (t : List Subscription). x ∷ t) (set-cursor place cursor xs s (omega (arith, lt)) is)

-- An entry of something else changes nothing.
others-ids : (h : History) (e : Entry) → IsOfOthers e → history.subscribers_after (h ▷ e) ≡ history.subscribers_after h
others-ids h (Subscribed moment id port path) other = absurd other
others-ids h (Unsubscribed moment id) other = absurd other
others-ids h _ other = refl

others-destinations : (h : History) (e : Entry) (id : List ℕ) → IsOfOthers e → history.subscribed_after (h ▷ e) id ≡ history.subscribed_after h id
others-destinations h (Subscribed moment name port path) id other = absurd other
others-destinations h (Unsubscribed moment name) id other = absurd other
others-destinations h _ id other = refl

pub others_stay : (subs : List Subscription) (h : History) (cursors : List ℕ) (e : Entry) → IsOfOthers e → StandFor subs h cursors → StandFor subs (h ▷ e) cursors
others_stay subs h cursors e other stand =
    record {
      ids = stand.ids ∙ sym (others-ids h e other);
      destinations = λ id. stand.destinations id ∙ sym (others-destinations h e id other);
      served = stand.served;
    }
