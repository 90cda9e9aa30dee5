-- Changes of the subscriptions, and rounds.
use Rattle.std.proofs.Common.{◌≡◌, ◌≢◌, ◌⊎◌, ◌&&◌, le-leb, inl, inr, ℕ, ◌≤◌, List, [], ◌∷◌, length, Option, Some, None, Result, Ok, MatchOption, refl, sym, ap, ◌∙◌, subst, arith}
use Rattle.pm_disk.specs.Moments.{Told}
use Rattle.pm_inventory.specs.Inventory.{InventoryState}
use Rattle.pm_history.specs.History.{History, grown, last_moment}
use Rattle.pm_items.specs.Items.{kept}
use Rattle.pm_items.specs.Kept.{IsBeginning}
use Rattle.pm_http.specs.declared.reply.Reply.{Reply}
use Rattle.pm_notice.specs.declared.error.SubError.{SubError}
use Rattle.pm_notice.specs.declared.notice.Notice.{Notice}
use Rattle.pm_notice.specs.declared.subscription.Subscription.{Subscription}
use Rattle.pm_notice.specs.declared.subscription.SubPlan.{SubPlan}
use Rattle.pm_notice.specs.Plan.{plan_to_make, plan_to_remove}
use Rattle.pm_notice.specs.Round.{AreRounds, rounds_posts, stops}
use Rattle.pm_notice.specs.Rounds.{AreAllRounds, HaveDue, are_from}
use Rattle.pm_notice.specs.StandFor.{StandFor, cursors_of}
use Rattle.pm_notify.specs.Kept.{notices_of}
use Rattle.pm_notify.specs.Notices.{AreNoticesFrom}
use Rattle.pm_state.specs.declared.state.State.{State}
use Rattle.pm_state.specs.ChangeItem.{AreItemsOf}
use Rattle.pm_state.specs.Given.{Given, no_memory}
use Rattle.pm_state.specs.Stands.{StateStands}
use Rattle.pm_state.specs.SubsGiven.{IsSubRefusal, sub_given, sub_cursors, sub_entries, sub_reply}
use Rattle.pm_state.proofs.StateLemmas.{GoesOn, changes-go-on}
use Rattle.pm_state.proofs.SubsLemmas.{sub-at}
use Rattle.pm_engine.specs.declared.engine.Engine.{Engine}
use Rattle.pm_engine.specs.Adding.{AddsStored}
use Rattle.pm_engine.specs.Bears.{Bears, Run}
use Rattle.pm_engine.specs.Giving.{GivesBy}
use Rattle.pm_engine.specs.Round.{AreServed}
use Rattle.pm_engine.specs.Wish.{IsSubGiven, SubscribesBy, UnsubscribesBy}
use Rattle.pm_engine.proofs.BearsLemmas.{changes-stored}
use Rattle.pm_engine.proofs.BetweenLemmas.{kept-begins}

-- ---- a change

sub-on : (g : History) (state : State) (subs : List Subscription) (plan : SubPlan) → StateStands g state
    → GoesOn state.inventory (grown g (sub_entries subs state.last plan)) state.last state.events
sub-on g state subs plan stands =
    changes-go-on state.inventory g state.last state.events (sub_entries subs state.last plan) state.in_range (sub-at subs plan state.last)
    (record { history = stands.history; begun = stands.begun; last = stands.last; events_stand = stands.events; only = stands.only })

pub sub-begins : (g : History) (state : State) (subs : List Subscription) (plan : SubPlan) → StateStands g state
    → IsBeginning (kept g) (kept (grown g (sub_entries subs state.last plan)))
sub-begins g state subs plan stands = kept-begins g (sub_entries subs state.last plan) (sub-on g state subs plan stands).history

pub sub-stored : (g : History) (state : State) (subs : List Subscription) (plan : SubPlan) (item : Option (List ℕ)) → StateStands g state
    → AreItemsOf state.inventory item (sub_entries subs state.last plan)
    → AddsStored state.inventory g (sub_entries subs state.last plan) item
sub-stored g state subs plan item stands are =
    changes-stored state.inventory g (sub_entries subs state.last plan) item stands.history (sub-on g state subs plan stands).history are

-- What is given where this is planned.
pub planned-entries : (subs : List Subscription) (moment : ℕ) (id : List ℕ) (says : Result SubPlan SubError) (plan : SubPlan) → says ≡ Ok plan
    → (sub_given subs moment id says).entries ≡ sub_entries subs moment plan
planned-entries subs moment id says plan is = ap (λ (r : Result SubPlan SubError). (sub_given subs moment id r).entries) is

pub planned-reply : (subs : List Subscription) (moment : ℕ) (id : List ℕ) (says : Result SubPlan SubError) (plan : SubPlan) → says ≡ Ok plan
    → (sub_given subs moment id says).reply ≡ sub_reply subs id plan
planned-reply subs moment id says plan is = ap (λ (r : Result SubPlan SubError). (sub_given subs moment id r).reply) is

-- A refusal.
pub refusal-gives : (IsTold : Type 0) (engine : Engine) (told : Told) (g : History) (cursors id : List ℕ) (subs : List Subscription) (moment : ℕ)
    (says : Result SubPlan SubError) (reply : Reply) (o : Option Reply) → cursors_of subs ≡ cursors
    → (reply ≡ no_memory) ⊎ IsSubRefusal says reply
    → MatchOption o (reply.status ≡ 503) (λ other. (other ≡ reply) × (reply.status ≢ 503)) → Bears IsTold engine told g cursors
    → GivesBy (IsSubGiven subs moment id says) IsTold engine told g cursors o
refusal-gives IsTold engine told g cursors id subs moment says reply None served answer match bears = bears
refusal-gives IsTold engine told g cursors id subs moment says reply (Some other) served answer match bears = elim answer [
  | inl none ↦ absurd (match.1 (ap (λ (r : Reply). r.status) none))
  | inr refusal ↦ record {
    given = sub_given subs moment id says;
    next = sub_cursors subs says;
    is = (refl, refl);
    reply_is = match.0 ∙ (refusal.reply_is ∙ sym (ap (λ (r : Result SubPlan SubError). (sub_given subs moment id r).reply) refusal.refused_by));
    bears = subst (λ es. Bears IsTold engine told (grown g es) (sub_cursors subs says))
        (sym (ap (λ (r : Result SubPlan SubError). (sub_given subs moment id r).entries) refusal.refused_by))
        (subst (Bears IsTold engine told g) (sym (ap (sub_cursors subs) refusal.refused_by ∙ served)) bears);
  }
]

-- ---- over the subscriptions that stand

pub subscribes : (inventory : InventoryState) (g : History) (cursors id body : List ℕ) (subs mid : List Subscription) (last total : ℕ)
    → StandFor subs g cursors → mid ≡ subs → last ≡ last_moment g → total ≡ length (notices_of inventory g)
    → (given : Given) (next : List ℕ) → IsSubGiven mid last id (plan_to_make subs id body total) given next
    → SubscribesBy inventory g cursors id body given next
subscribes inventory g cursors id body subs mid last total stand mid-is last-is total-is given next is = record {
  subs = subs;
  stand = stand;
  given_is = is.0 ∙ (λ i. sub_given (mid-is i) (last-is i) id (plan_to_make subs id body (total-is i)));
  next_is = is.1 ∙ (λ i. sub_cursors (mid-is i) (plan_to_make subs id body (total-is i)));
}

pub unsubscribes : (g : History) (cursors id : List ℕ) (subs mid : List Subscription) (last : ℕ)
    → StandFor subs g cursors → mid ≡ subs → last ≡ last_moment g
    → (given : Given) (next : List ℕ) → IsSubGiven mid last id (plan_to_remove subs id) given next → UnsubscribesBy g cursors id given next
unsubscribes g cursors id subs mid last stand mid-is last-is given next is = record {
  subs = subs;
  stand = stand;
  given_is = is.0 ∙ (λ i. sub_given (mid-is i) (last-is i) id (plan_to_remove subs id));
  next_is = is.1 ∙ (λ i. sub_cursors (mid-is i) (plan_to_remove subs id));
}

-- With these cursors.
pub stand-with : (subs : List Subscription) (g : History) (cursors : List ℕ) → StandFor subs g (cursors_of subs) → cursors_of subs ≡ cursors
    → StandFor subs g cursors
stand-with subs g cursors stand served = subst (StandFor subs g) served stand

-- ---- rounds

from-none : (subs : List Subscription) → are_from 0 subs
from-none [] = refl
from-none (s ∷ ss) = λ i. le-leb 0 s.cursor (omega arith) i && from-none ss i

-- Rounds over the notices that are kept are those over all notices.
pub rounds-served : (law : AreAllRounds) (inventory : InventoryState) (run next : Run) (some all : List Notice) (olds news : List Subscription)
    (total last : ℕ) → AreNoticesFrom inventory 0 (notices_of inventory run.settled) all → total ≡ length (notices_of inventory run.settled)
    → last ≡ last_moment run.history → StandFor olds run.history run.cursors
    → ((moment : ℕ) → last_moment run.history ≤ moment → HaveDue some all moment 0)
    → AreRounds some total last olds news
    → next ≡ record { history = run.history; settled = run.settled; cursors = cursors_of news }
    → AreServed inventory run next (rounds_posts some last olds news) (stops total news)
rounds-served law inventory run next some all olds news total last told total-is last-is stand due rounds next-is =
    let have = due last (omega (arith, last-is)) in
    record {
      all = all;
      told = told;
      olds = olds;
      news = news;
      stand = stand;
      rounds = subst (λ (m : ℕ). AreRounds all (length (notices_of inventory run.settled)) m olds news) last-is
          (subst (λ (t : ℕ). AreRounds all t last olds news) total-is ((law.rounds some all total last 0 olds news have (from-none olds)).0 rounds));
      posts_are = law.posts some all last 0 olds news have (from-none olds) ∙ ap (λ (m : ℕ). rounds_posts all m olds news) last-is;
      short_is = ap (λ (t : ℕ). stops t news) total-is;
      next_is = next-is;
    }
