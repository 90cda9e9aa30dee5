-- A session, from its parts.
use Rattle.std.proofs.Common.{◌≡◌, ◌+◌, ◌<◌, inl, inr, ℕ, zero, suc, true, false, List, [], ◌∷◌, ◌++◌, length, Option, Some, None, MatchOption, IfNone, Err, refl, sym, ap, ◌∙◌, subst, arith, append_assoc, append-nil, length-append}
use Rattle.httparse.specs.Grammar.{RequestHead, print_request}
use Rattle.pm_base.specs.declared.code.Code.{Code}
use Rattle.pm_outside.specs.Causes.{faults_after}
use Rattle.pm_outside.specs.Posts.{Post}
use Rattle.pm_disk.specs.Moments.{Told}
use Rattle.pm_inventory.specs.Inventory.{InventoryState}
use Rattle.pm_items.specs.Items.{kept}
use Rattle.pm_ledger.specs.Between.{EachBetween}
use Rattle.pm_ledger.specs.Ledger.{IsLedgerOf, IsReady, IsTied}
use Rattle.pm_ledger.specs.declared.ledger.Ledger.{Ledger}
use Rattle.pm_notice.specs.Round.{faults_after_stops}
use Rattle.pm_ledger.proofs.StoreLemmas.{holds_at_rest}
use Rattle.pm_http.specs.declared.request.Request.{Request}
use Rattle.pm_http.specs.declared.next.Next.{Next}
use Rattle.pm_http.specs.declared.next.Next.TheVariants as next
use Rattle.pm_http.specs.Stream.{IsFirst, IsNext, StopsAtLimit, MayBeTold, readable}
use Rattle.pm_http.specs.Reply.{reply_text, Writes}
use Rattle.pm_http.specs.declared.reply.Reply.{Reply}
use Rattle.pm_http.specs.declared.error.ReplyError.{ReplyError}
use Rattle.pm_http.specs.declared.error.ReplyError.TheVariants as reply_error
use Rattle.pm_state.specs.Given.{refused}
use Rattle.pm_tally.specs.Taking.{WritesSome}
use Rattle.pm_tally.specs.Outcome.{Output, Gains, GainsPrefix}
use Rattle.pm_engine.specs.declared.engine.Engine.{Engine}
use Rattle.pm_engine.specs.Bears.{inventory_of, Run, Carries, IsUsable}
use Rattle.pm_engine.specs.Round.{AreServed, Knows, Delivers}
use Rattle.pm_top.specs.SessionTurn.{Turned, texts, text_of, posts_of, shorts_of, IsAnsweredOver}
use Rattle.pm_top.specs.Session.{Input, input_of, output_of, Mail, mail_of, Sends, Store, store_of, Reads, Tells, Rests, Quits, framing_text, IsAnsweredBy, IsLast, IsUnwritten, EndsWith, EndsSession, IsSoFar, IsSession}
use Rattle.pm_top.specs.SessionSteps.{GoesOn, GoesOnBy, TakesTurn, HasTurned, RefusesFraming}
use Rattle.pm_top.specs.declared.session_end.SessionEnd.{SessionEnd}
use Rattle.pm_top.specs.declared.session_end.SessionEnd.TheVariants.{Ended, Closed, Framing, CutShort, Limit, ReadFault, WriteFault, StoreFault, StoreFull, Memory}

-- While no call is under way each image holds what is kept.
pub at_rest : (IsTold : Type 0) (inventory : InventoryState) (engine : Engine) (told : Told) (run : Run) → inventory_of engine ≡ inventory
    → IsUsable IsTold engine told → Carries IsTold engine told run → Rests inventory (store_of IsTold told) run
at_rest IsTold inventory engine told run same usable carries = λ t.
    let held = holds_at_rest (inventory_of engine) engine.ledger told.now run.history usable.ready (carries.bears.store t) carries.bears.stands.history in
    subst (λ i. EachBetween i (kept run.settled) (kept run.settled) told.now) same
    (subst (λ h. EachBetween (inventory_of engine) (kept h) (kept h) told.now) (sym carries.settled) held)

-- ---- posts

-- Nothing was posted.
pub unsent : (IsTold : Type 0) (posts : List Post) (failed : ℕ) → Sends (mail_of IsTold posts posts failed failed) [] 0
unsent IsTold posts failed = (λ _. sym (append-nil posts), refl)

stops-add : (m n failed : ℕ) → faults_after_stops (m + n) failed ≡ faults_after_stops m (faults_after_stops n failed)
stops-add zero n failed =
    let same : 0 + n ≡ n = omega arith in
    ap (λ k. faults_after_stops k failed) same
stops-add (suc m) n failed =
    let same : suc m + n ≡ suc (m + n) = omega arith in
    ap (λ k. faults_after_stops k failed) same ∙ ap (faults_after true) (stops-add m n failed)

-- One after the other.
sent-more : (IsTold : Type 0) (a b c : List Post) (f g h : ℕ) (ps qs : List Post) (m n : ℕ) → Sends (mail_of IsTold a b f g) ps m
    → Sends (mail_of IsTold b c g h) qs n → Sends (mail_of IsTold a c f h) (ps ++ qs) (n + m)
sent-more IsTold a b c f g h ps qs m n first more = (
  λ t. more.0 t ∙ (ap (λ (xs : List Post). xs ++ qs) (first.0 t) ∙ append_assoc a ps qs),
  more.1 ∙ (ap (faults_after_stops n) first.1 ∙ sym (stops-add n m f)),
)

-- ---- turns

-- What a request that was read gives is one turn more, or the end.
pub takes_turn : (inventory : InventoryState) (start : ℕ) (input : Input) (output : Output) (mail : Mail) (store : Store)
    (IsCarried : Run → Type 0) (run : Run) (request : Request) (o : Option SessionEnd) → Reads input request
    → MatchOption o (GoesOn inventory output mail IsCarried run request) (EndsWith inventory output mail store run request)
    → TakesTurn inventory start input output mail store IsCarried run o
takes_turn inventory start input output mail store IsCarried run request None reads on = record { request = request; reads = reads; on = on }
takes_turn inventory start input output mail store IsCarried run request (Some Closed) reads ends = record { request = request; reads = reads; ends = ends }
takes_turn inventory start input output mail store IsCarried run request (Some WriteFault) reads ends = inl (record { request = request; reads = reads; ends = ends })
takes_turn inventory start input output mail store IsCarried run request (Some StoreFault) reads ends = record { request = request; reads = reads; ends = ends }
takes_turn inventory start input output mail store IsCarried run request (Some (StoreFull length' need)) reads ends = record { request = request; reads = reads; ends = ends }
takes_turn inventory start input output mail store IsCarried run request (Some Ended) reads ends = absurd ends
takes_turn inventory start input output mail store IsCarried run request (Some (Framing code offset)) reads ends = absurd ends
takes_turn inventory start input output mail store IsCarried run request (Some (CutShort offset)) reads ends = absurd ends
takes_turn inventory start input output mail store IsCarried run request (Some Limit) reads ends = absurd ends
takes_turn inventory start input output mail store IsCarried run request (Some ReadFault) reads ends = absurd ends
takes_turn inventory start input output mail store IsCarried run request (Some Memory) reads ends = absurd ends

-- What an engine carries it knows, whatever it does with its disk; and what it knows after rounds it carries.
pub known : (IsTold : Type 0) (engine : Engine) (told : Told) (run : Run) → Carries IsTold engine told run → Knows engine run
known IsTold engine told run carries = record { stands = carries.bears.stands; served = carries.bears.served; settled = carries.settled }

delivered : (IsTold : Type 0) (old new : Engine) (told : Told) (mid next : Run) → Carries IsTold old told mid → Knows new next
    → inventory_of new ≡ inventory_of old → new.ledger ≡ old.ledger → next.history ≡ mid.history → Carries IsTold new told next
delivered IsTold old new told mid next carries knows same ledger history = record {
  bears = record {
    stands = knows.stands;
    served = knows.served;
    store = λ t.
        subst (λ (l : Ledger). IsLedgerOf (inventory_of new) l told.now next.history) (sym ledger)
        (subst (λ i. IsLedgerOf i old.ledger told.now next.history) (sym same)
        (subst (λ h. IsLedgerOf (inventory_of old) old.ledger told.now h) (sym history) (carries.bears.store t)));
  };
  settled = knows.settled;
}

pub still-usable : (IsTold : Type 0) (old new : Engine) (told : Told) → new.ledger ≡ old.ledger → IsUsable IsTold old told → IsUsable IsTold new told
still-usable IsTold old new told ledger usable = record {
  ready = subst IsReady (sym ledger) usable.ready;
  tied = λ t. subst (λ (l : Ledger). IsTied l told.now) (sym ledger) (usable.tied t);
}

-- The turn of a request that was answered, and its rounds.
pub record Made (IsTold : Type 0) (inventory : InventoryState) (engine : Engine) (told : Told) (mail : Mail) (run : Run) (request : Request)
    (reply : Reply) (now : ℕ) : Type 0 where
  pub by : IsAnsweredBy inventory run request
  pub text : text_of by.turned ≡ reply_text reply now request.close
  pub sends : Sends mail by.turned.posts by.turned.short
  pub carried : Carries IsTold engine told by.next

pub made : (IsTold : Type 0) (inventory : InventoryState) (engine final : Engine) (told : Told) (mail : Mail) (run : Run) (request : Request) (reply : Reply)
    (now short : ℕ) → now ≡ engine.state.last → inventory_of engine ≡ inventory → inventory_of final ≡ inventory_of engine
    → final.ledger ≡ engine.ledger → (turn : IsAnsweredOver inventory run request reply (Carries IsTold engine told))
    → Delivers mail.IsTold mail.before mail.after engine final turn.0 short → mail.failed_after ≡ faults_after_stops short mail.failed
    → Made IsTold inventory final told mail run request reply now
made IsTold inventory engine final told mail run request reply now short now-is same final-same ledger turn delivers counted = record {
  by = record {
    turned = record { request = request; reply = reply; now = now; posts = delivers.posts; short = short };
    next = delivers.next;
    of = refl;
    turn = record {
      mid = turn.0;
      replied = record { answered = turn.1; now = now-is ∙ turn.2.bears.stands.last };
      served = subst (λ i. AreServed i turn.0 delivers.next delivers.posts short) same delivers.served;
    };
  };
  text = refl;
  sends = (delivers.posted, counted);
  carried = delivered IsTold engine final told turn.0 delivers.next turn.2 delivers.knows final-same ledger (ap (λ (r : Run). r.history) delivers.served.next_is);
}

pub goes-on : (IsTold OutTold : Type 0) (inventory : InventoryState) (engine : Engine) (told : Told) (old new : List ℕ) (mail : Mail) (run : Run)
    (request : Request) (reply : Reply) (now : ℕ) → Made IsTold inventory engine told mail run request reply now
    → request.close ≡ false → (OutTold → new ≡ old ++ reply_text reply now request.close)
    → GoesOn inventory (output_of OutTold old new) mail (Carries IsTold engine told) run request
goes-on IsTold OutTold inventory engine told old new mail run request reply now made on writes = record {
  by = made.by;
  on = on;
  gains = λ t. writes t ∙ ap (λ (x : List ℕ). old ++ x) (sym made.text);
  sends = made.sends;
  carried = made.carried;
}

-- It was the last one.
pub ends-last : (IsTold OutTold : Type 0) (inventory : InventoryState) (engine : Engine) (told : Told) (old new : List ℕ) (mail : Mail) (run : Run)
    (request : Request) (reply : Reply) (now : ℕ) → inventory_of engine ≡ inventory → IsUsable IsTold engine told
    → Made IsTold inventory engine told mail run request reply now → (OutTold → new ≡ old ++ reply_text reply now request.close)
    → IsLast inventory (output_of OutTold old new) mail (store_of IsTold told) run request
ends-last IsTold OutTold inventory engine told old new mail run request reply now same usable made writes = record {
  by = made.by;
  gains = λ t. writes t ∙ ap (λ (x : List ℕ). old ++ x) (sym made.text);
  sends = made.sends;
  rests = at_rest IsTold inventory engine told made.by.next same usable made.carried;
}

-- It was the last one, and its reply wasn't written whole.
pub unwritten : (IsTold : Type 0) (inventory : InventoryState) (engine : Engine) (told : Told) (output : Output) (mail : Mail) (run : Run) (request : Request)
    (reply : Reply) (now : ℕ) → now ≡ engine.state.last → inventory_of engine ≡ inventory → IsUsable IsTold engine told
    → IsAnsweredOver inventory run request reply (Carries IsTold engine told) → GainsPrefix output (reply_text reply now request.close) → Sends mail [] 0
    → IsUnwritten inventory output mail (store_of IsTold told) run request
unwritten IsTold inventory engine told output mail run request reply now now-is same usable turn gains sends = record {
  turned = record { request = request; reply = reply; now = now; posts = []; short = 0 };
  next = turn.0;
  of = refl;
  replied = record { answered = turn.1; now = now-is ∙ turn.2.bears.stands.last };
  gains = gains;
  sends = sends;
  rests = at_rest IsTold inventory engine told turn.0 same usable turn.2;
}

-- Of a text that couldn't be written whole some first bytes are.
pub in-part : (old new text : List ℕ) (e : ReplyError) → Writes old new text (Err e) → WritesSome old text new
in-part old new text reply_error.WriteFault writes = (writes.0, writes.2)
in-part old new text reply_error.Memory writes = (0, writes ∙ sym (append-nil old))

-- Nothing is written.
pub nothing : (OutTold : Type 0) (written : List ℕ) → Gains (output_of OutTold written written) []
nothing OutTold written told = sym (append-nil written)

-- No request is answered any more, and nothing is written.
pub quits : (IsTold OutTold MailTold : Type 0) (inventory : InventoryState) (engine : Engine) (told : Told) (run : Run) (Tells' : Type 0) (written : List ℕ)
    (posts : List Post) (failed : ℕ) → inventory_of engine ≡ inventory → IsUsable IsTold engine told → Carries IsTold engine told run → Tells'
    → Quits inventory (mail_of MailTold posts posts failed failed) (store_of IsTold told) run Tells' (Gains (output_of OutTold written written) [])
quits IsTold OutTold MailTold inventory engine told run Tells' written posts failed same usable carries tells = record {
  told = tells;
  writes = nothing OutTold written;
  sends = unsent MailTold posts failed;
  rests = at_rest IsTold inventory engine told run same usable carries;
}

-- What the input tells.
pub tells : (InTold : Type 0) (given : ℕ) (before after : List ℕ) (field next : Next) → field ≡ next → (InTold → IsNext before given field after)
    → (InTold → StopsAtLimit given before → MayBeTold (readable given before) field) → Tells (input_of InTold given before after) next
tells InTold given before after field next same is within = subst (λ n. Tells (input_of InTold given before after) n) same (λ t. (is t, within t))

-- A request is refused by how it is framed.
refused-as : (inventory : InventoryState) (start given : ℕ) (InTold OutTold : Type 0) (before after old new : List ℕ) (mail : Mail)
    (store : Store) (run : Run) (code : Code) (at offset : ℕ) (end : SessionEnd) → Sends mail [] 0 → Rests inventory store run → Tells (input_of InTold given before after) (next.Framing code at)
    → (InTold → at ≡ start + offset) → RefusesFraming (output_of OutTold old new) code offset (framing_text code run) end
    → EndsSession inventory start (input_of InTold given before after) (output_of OutTold old new) mail store run end
refused-as inventory start given InTold OutTold before after old new mail store run code at offset (Framing code' offset') sends rests tells at-is refuses =
    subst (λ c. Quits inventory mail store run (Tells (input_of InTold given before after) (next.Framing c (start + offset'))) (Gains (output_of OutTold old new) (framing_text c run))) (sym refuses.0)
    (subst (λ o. Quits inventory mail store run (Tells (input_of InTold given before after) (next.Framing code (start + o))) (Gains (output_of OutTold old new) (framing_text code run))) (sym refuses.1)
    (record {
      told = λ t. subst (λ a. IsNext before given (next.Framing code a) after × (StopsAtLimit given before → MayBeTold (readable given before) (next.Framing code a))) (at-is t) (tells t);
      writes = refuses.2;
      sends = sends;
      rests = rests;
    }))
refused-as inventory start given InTold OutTold before after old new mail store run code at offset WriteFault sends rests tells at-is refuses =
    inr (record { code = code; at = at; quits = record { told = tells; writes = refuses; sends = sends; rests = rests } })
refused-as inventory start given InTold OutTold before after old new mail store run code at offset Ended sends rests tells at-is refuses = absurd refuses
refused-as inventory start given InTold OutTold before after old new mail store run code at offset Closed sends rests tells at-is refuses = absurd refuses
refused-as inventory start given InTold OutTold before after old new mail store run code at offset (CutShort offset') sends rests tells at-is refuses = absurd refuses
refused-as inventory start given InTold OutTold before after old new mail store run code at offset Limit sends rests tells at-is refuses = absurd refuses
refused-as inventory start given InTold OutTold before after old new mail store run code at offset ReadFault sends rests tells at-is refuses = absurd refuses
refused-as inventory start given InTold OutTold before after old new mail store run code at offset StoreFault sends rests tells at-is refuses = absurd refuses
refused-as inventory start given InTold OutTold before after old new mail store run code at offset (StoreFull length' need) sends rests tells at-is refuses = absurd refuses
refused-as inventory start given InTold OutTold before after old new mail store run code at offset Memory sends rests tells at-is refuses = absurd refuses

pub framed : (IsTold OutTold InTold : Type 0) (inventory : InventoryState) (start given : ℕ) (before after old new : List ℕ) (mail : Mail) (engine : Engine)
    (told : Told) (run : Run) (code : Code) (at offset : ℕ) (end : SessionEnd) → Sends mail [] 0 → inventory_of engine ≡ inventory → IsUsable IsTold engine told
    → Carries IsTold engine told run → Tells (input_of InTold given before after) (next.Framing code at) → (InTold → at ≡ start + offset)
    → RefusesFraming (output_of OutTold old new) code offset (reply_text (refused code) engine.state.last true) end
    → EndsSession inventory start (input_of InTold given before after) (output_of OutTold old new) mail (store_of IsTold told) run end
framed IsTold OutTold InTold inventory start given before after old new mail engine told run code at offset end sends same usable carries tells at-is refuses =
    refused-as inventory start given InTold OutTold before after old new mail (store_of IsTold told) run code at offset end sends
    (at_rest IsTold inventory engine told run same usable carries) tells at-is
    (subst (λ m. RefusesFraming (output_of OutTold old new) code offset (reply_text (refused code) m true) end) carries.bears.stands.last refuses)

-- The place of a request that is cut short.
pub placed-at : (InTold : Type 0) (start given : ℕ) (before after : List ℕ) (at offset : ℕ) → (InTold → at ≡ start + offset)
    → Tells (input_of InTold given before after) (next.CutShort at) → Tells (input_of InTold given before after) (next.CutShort (start + offset))
placed-at InTold start given before after at offset at-is tells =
    λ t. subst (λ a. IsNext before given (next.CutShort a) after × (StopsAtLimit given before → MayBeTold (readable given before) (next.CutShort a))) (at-is t) (tells t)

pub if-none : {A : Type 0} (o : Option A) (P : Type 0) → P → IfNone o P
if-none None P p = p
if-none (Some a) P p = tt

-- A turn more.
pub grows : (inventory : InventoryState) (InTold OutTold MailTold : Type 0) (start given given' : ℕ) (bytes left left' written mid written' : List ℕ)
    (posts between posts' : List Post) (f g h : ℕ) (IsCarried : Run → Type 0) (run : Run) (turns : List Turned) (now : Run)
    → IsSoFar inventory (input_of InTold start bytes left) (output_of OutTold written mid) (mail_of MailTold posts between f g) run turns now given
    → (on : GoesOnBy inventory (input_of InTold given left left') (output_of OutTold mid written') (mail_of MailTold between posts' g h) IsCarried now)
    → (InTold → given' + length left' ≡ given + length left)
    → IsSoFar inventory (input_of InTold start bytes left') (output_of OutTold written written') (mail_of MailTold posts posts' f h) run
    (on.on.by.turned ∷ turns) on.on.by.next given'
grows inventory InTold OutTold MailTold start given given' bytes left left' written mid written' posts between posts' f g h IsCarried run turns now so_far on counted =
    let by = on.on.by in
    record {
      runs = (now, so_far.runs, by.turn);
      on = (ap (λ (r : Request). r.close) by.of ∙ on.on.on, so_far.on);
      asks = λ t. (left, so_far.asks t, subst (λ r. IsFirst left r left') (sym by.of) (on.reads t));
      counted = λ t. counted t ∙ so_far.counted t;
      gains = λ t. on.on.gains t ∙ (ap (λ (w : List ℕ). w ++ text_of by.turned) (so_far.gains t) ∙ append_assoc written (texts turns) (text_of by.turned));
      sends = sent-more MailTold posts between posts' f g h (posts_of turns) by.turned.posts (shorts_of turns) by.turned.short so_far.sends on.on.sends;
    }

-- A request has a byte at least.
pub has_bytes : (head : RequestHead) → 0 < length (print_request head)
unfolding print_request
has_bytes head = grind (arith, length-append)

pub takes : (bytes : List ℕ) (request : Request) (left : List ℕ) → IsFirst bytes request left → length left < length bytes
takes bytes request left first =
    let size = ap length first.reads.1 ∙ length-append (print_request first.head) (request.body ++ left) in
    let rest = length-append request.body left in
    omega (arith, size, rest, has_bytes first.head)

-- A turn more, from a run that is carried.
pub turns-on : (inventory : InventoryState) (InTold OutTold MailTold : Type 0) (start given given' : ℕ) (bytes left left' written mid written' : List ℕ)
    (posts between posts' : List Post) (f g h : ℕ) (IsCarried IsCarried' : Run → Type 0) (run : Run) (other : InventoryState) → other ≡ inventory
    → (has : HasTurned inventory (input_of InTold start bytes left) (output_of OutTold written mid) (mail_of MailTold posts between f g) IsCarried run given)
    → GoesOnBy other (input_of InTold given left left') (output_of OutTold mid written') (mail_of MailTold between posts' g h) IsCarried' has.now
    → (InTold → given' + length left' ≡ given + length left)
    → HasTurned inventory (input_of InTold start bytes left') (output_of OutTold written written') (mail_of MailTold posts posts' f h) IsCarried' run given'
turns-on inventory InTold OutTold MailTold start given given' bytes left left' written mid written' posts between posts' f g h IsCarried IsCarried' run other
    same has on' counted =
    let on = subst (λ i. GoesOnBy i (input_of InTold given left left') (output_of OutTold mid written') (mail_of MailTold between posts' g h) IsCarried' has.now)
    same on' in
    record {
      turns = on.on.by.turned ∷ has.turns;
      now = on.on.by.next;
      so_far = grows inventory InTold OutTold MailTold start given given' bytes left left' written mid written' posts between posts' f g h IsCarried' run
          has.turns has.now has.so_far on counted;
      carried = on.on.carried;
    }

-- No turn yet.
pub no-turn : (inventory : InventoryState) (InTold OutTold MailTold : Type 0) (start : ℕ) (bytes written : List ℕ) (posts : List Post) (failed : ℕ)
    (IsCarried : Run → Type 0) (run : Run) → IsCarried run
    → HasTurned inventory (input_of InTold start bytes bytes) (output_of OutTold written written) (mail_of MailTold posts posts failed failed) IsCarried run start
no-turn inventory InTold OutTold MailTold start bytes written posts failed IsCarried run carried = record {
  turns = [];
  now = run;
  so_far = record {
    runs = refl;
    on = tt;
    asks = λ _. refl;
    counted = λ _. refl;
    gains = nothing OutTold written;
    sends = unsent MailTold posts failed;
  };
  carried = carried;
}

-- The turns and the end.
pub session-of : (inventory : InventoryState) (InTold OutTold MailTold : Type 0) (start start' given : ℕ) (bytes left left' written mid written' : List ℕ)
    (posts between posts' : List Post) (f g h : ℕ) (store : Store) (IsCarried : Run → Type 0) (run : Run) (end : SessionEnd) (other : InventoryState)
    → other ≡ inventory → start' ≡ start
    → (has : HasTurned inventory (input_of InTold start bytes left) (output_of OutTold written mid) (mail_of MailTold posts between f g) IsCarried run given)
    → EndsSession other start' (input_of InTold given left left') (output_of OutTold mid written') (mail_of MailTold between posts' g h) store has.now end
    → IsSession inventory (input_of InTold start bytes left') (output_of OutTold written written') (mail_of MailTold posts posts' f h) store run end
session-of inventory InTold OutTold MailTold start start' given bytes left left' written mid written' posts between posts' f g h store IsCarried run end other
    same-inventory same has ends = record {
      turns = has.turns;
      now = has.now;
      given = given;
      left = left;
      written = mid;
      posted = between;
      failed = g;
      so_far = has.so_far;
      ends =
          subst (λ i. EndsSession i start (input_of InTold given left left') (output_of OutTold mid written') (mail_of MailTold between posts' g h) store has.now end)
          same-inventory
          (subst (λ s. EndsSession other s (input_of InTold given left left') (output_of OutTold mid written') (mail_of MailTold between posts' g h) store has.now end)
          same ends);
    }
