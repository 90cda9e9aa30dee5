-- No cursor is past the number of notices.
use Rattle.std.proofs.Common.{◌≡◌, ℕ, zero, suc, ◌≤◌, ◌&&◌, length, subst, Bool, true, false, List, [], ◌∷◌, ◌++◌, take, drop, remove, leb, refl, le-leb, leb-true, arith}
use Rattle.std.specs.Ordering.{nat_cmp, match_ordering}
use Rattle.std.specs.declared.cmp.Ordering.{Ordering}
use Rattle.std.specs.declared.cmp.Ordering.TheVariants.{Less, Equal, Greater}
use Rattle.std.specs.Cmp.Lexicographic.{slice_cmp}
use Rattle.std.proofs.lemmas.Bool.{and_parts}
use Rattle.pm_notice.specs.declared.notice.Notice.{Notice}
use Rattle.pm_notice.specs.declared.subscription.Subscription.{Subscription}
use Rattle.pm_notice.specs.declared.subscription.SubPlan.{SubPlan}
use Rattle.pm_notice.specs.declared.subscription.SubPlan.TheVariants.{New, Same, Deleted}
use Rattle.std.proofs.Common.{Option, Some, None, Result, Ok, Err, IfOk, cond, ltb, position}
use Rattle.pm_form.specs.Form.{Read, text_says}
use Rattle.pm_form.specs.Names.{job_id}
use Rattle.pm_http.specs.declared.reply.Reply.{Reply}
use Rattle.pm_notice.specs.Consumer.{Consumer, consumer_form}
use Rattle.pm_notice.specs.declared.error.SubError.{SubError}
use Rattle.pm_notice.specs.declared.error.SubError.TheVariants.{P1, P3, P4}
use Rattle.pm_notice.specs.Plan.{with_subscription, enacted, has_id, goes_to, subscription_under, plan_beside, plan_of_body, plan_to_make, plan_at, plan_to_remove}
use Rattle.pm_notice.specs.Planned.{Answers}
use Rattle.pm_state.specs.declared.subscribing.SubChange.{SubChange}
use Rattle.pm_notice.specs.Round.{are_within, AreRounds}
use Rattle.pm_state.specs.SubsGiven.{BeginsWithin}

both : (a b : Bool) → a ≡ true → b ≡ true → (a && b) ≡ true
both true b p q = q
both false b p q = absurd (cc (p))

pub within-more : (subs : List Subscription) (m n : ℕ) → m ≤ n → are_within m subs ≡ true → are_within n subs ≡ true
within-more [] m n le is = refl
within-more (s ∷ ss) m n le is =
    let parts = and_parts _ _ is in
    let at = leb-true s.cursor m parts.0 in
    both _ _ (le-leb s.cursor n (omega (arith, at, le))) (within-more ss m n le parts.1)

pub within-rounds : (notices : List Notice) (total moment : ℕ) (olds news : List Subscription) → AreRounds notices total moment olds news
    → are_within total news ≡ true
within-rounds notices total moment [] [] rounds = refl
within-rounds notices total moment (o ∷ os) (n ∷ ns) rounds =
    both _ _ (le-leb n.cursor total rounds.0.ends.within) (within-rounds notices total moment os ns rounds.1)
within-rounds notices total moment [] (n ∷ ns) rounds = absurd rounds
within-rounds notices total moment (o ∷ os) [] rounds = absurd rounds

within-made : (total : ℕ) (s : Subscription) (subs : List Subscription) → s.cursor ≤ total → are_within total subs ≡ true
    → are_within total (with_subscription s subs) ≡ true
within-made total s [] le is = both _ _ (le-leb s.cursor total le) refl
within-made total s (x ∷ xs) le is =
    let parts = and_parts _ _ is in by (slice_cmp nat_cmp s.id x.id) parts.0 (within-made total s xs le parts.1)
  where
    by : (o : Ordering) → leb x.cursor total ≡ true → are_within total (with_subscription s xs) ≡ true
        → are_within total (match_ordering o (s ∷ (x ∷ xs)) (x ∷ xs) (x ∷ with_subscription s xs)) ≡ true
    by Less first rest = both _ _ (le-leb s.cursor total le) is
    by Equal first rest = is
    by Greater first rest = both _ _ first rest

within-append : (total : ℕ) (xs ys : List Subscription) → are_within total xs ≡ true → are_within total ys ≡ true → are_within total (xs ++ ys) ≡ true
within-append total [] ys is more = more
within-append total (x ∷ xs) ys is more = let parts = and_parts _ _ is in both _ _ parts.0 (within-append total xs ys parts.1 more)

within-take : (total n : ℕ) (xs : List Subscription) → are_within total xs ≡ true → are_within total (take n xs) ≡ true
within-take total zero xs is = refl
within-take total (suc n) [] is = refl
within-take total (suc n) (x ∷ xs) is = let parts = and_parts _ _ is in both _ _ parts.0 (within-take total n xs parts.1)

within-drop : (total n : ℕ) (xs : List Subscription) → are_within total xs ≡ true → are_within total (drop n xs) ≡ true
within-drop total zero xs is = is
within-drop total (suc n) [] is = refl
within-drop total (suc n) (x ∷ xs) is = within-drop total n xs (and_parts _ _ is).1

within-removed : (total : ℕ) (subs : List Subscription) (place : ℕ) → are_within total subs ≡ true → are_within total (remove subs place) ≡ true
within-removed total subs place is =
    within-append total (take place subs) (drop (suc place) subs) (within-take total place subs is) (within-drop total (suc place) subs is)

pub within-enacted : (total : ℕ) (plan : SubPlan) (subs : List Subscription) → BeginsWithin total plan → are_within total subs ≡ true
    → are_within total (enacted plan subs) ≡ true
within-enacted total (New s) subs begins is = within-made total s subs begins is
within-enacted total Same subs begins is = is
within-enacted total (Deleted place) subs begins is = within-removed total subs place is

-- ---- what is planned begins within

abbrev IsBegun : ℕ → Result SubPlan SubError → Type 0
IsBegun total (Ok plan) = BeginsWithin total plan
IsBegun total (Err error) = Unit {0}

beside-begun : (total : ℕ) (subs : List Subscription) (id : List ℕ) (cursor : ℕ) (c : Consumer) (o : Option Subscription) → cursor ≤ total
    → IsBegun total (plan_beside subs id cursor c o)
beside-begun total subs id cursor c (Some s) le = by (goes_to c s)
  where
    by : (b : Bool) → IsBegun total (cond b (Ok Same) (Err P4))
    by true = tt
    by false = tt
beside-begun total subs id cursor c None le = by (ltb (length subs) 8)
  where
    by : (b : Bool) → IsBegun total (cond b (Ok (New (record { id = id; port = c.port; path = c.path; cursor = cursor }))) (Err P1))
    by true = le
    by false = tt

body-begun : (total : ℕ) (subs : List Subscription) (id : List ℕ) (cursor : ℕ) (r : Read Consumer) → cursor ≤ total
    → IsBegun total (plan_of_body subs id cursor r)
body-begun total subs id cursor (Ok c) le = beside-begun total subs id cursor c (subscription_under id subs) le
body-begun total subs id cursor (Err error) le = tt

make-begun : (total : ℕ) (subs : List Subscription) (id body : List ℕ) (cursor : ℕ) → cursor ≤ total
    → IsBegun total (plan_to_make subs id body cursor)
make-begun total subs id body cursor le = by (job_id id)
  where
    by : (b : Bool) → IsBegun total (cond b (plan_of_body subs id cursor (text_says consumer_form body)) (Err P3))
    by true = body-begun total subs id cursor (text_says consumer_form body) le
    by false = tt

remove-begun : (total : ℕ) (subs : List Subscription) (id : List ℕ) → IsBegun total (plan_to_remove subs id)
remove-begun total subs id = by (position (has_id id) subs)
  where
    by : (o : Option ℕ) → IsBegun total (plan_at o)
    by (Some place) = tt
    by None = tt

begun-is : (total : ℕ) (says : Result SubPlan SubError) (plan : SubPlan) → says ≡ Ok plan → IsBegun total says → BeginsWithin total plan
begun-is total says plan is begun = subst (IsBegun total) is begun

-- What was planned of it, where this is what the definitions say.
change-begins : (total : ℕ) (says plan : Result SubPlan SubError) (r : Result SubChange Reply) → Answers plan says → IsBegun total says
    → IfOk r (λ change. plan ≡ Ok change.plan) → IfOk r (λ change. BeginsWithin total change.plan)
change-begins total says plan (Err reply) answers begun is = tt
change-begins total says plan (Ok change) answers begun is =
    begun-is total says change.plan (subst (λ p. Answers p says) is answers) begun

pub make-begins : (total : ℕ) (subs : List Subscription) (id body : List ℕ) (cursor : ℕ) (plan : Result SubPlan SubError) (r : Result SubChange Reply)
    → cursor ≤ total → Answers plan (plan_to_make subs id body cursor) → IfOk r (λ change. plan ≡ Ok change.plan)
    → IfOk r (λ change. BeginsWithin total change.plan)
make-begins total subs id body cursor plan r le answers is =
    change-begins total (plan_to_make subs id body cursor) plan r answers (make-begun total subs id body cursor le) is

pub remove-begins : (total : ℕ) (subs : List Subscription) (id : List ℕ) (plan : Result SubPlan SubError) (r : Result SubChange Reply)
    → Answers plan (plan_to_remove subs id) → IfOk r (λ change. plan ≡ Ok change.plan) → IfOk r (λ change. BeginsWithin total change.plan)
remove-begins total subs id plan r answers is = change-begins total (plan_to_remove subs id) plan r answers (remove-begun total subs id) is
