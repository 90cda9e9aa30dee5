-- The device calls by which an area is opened, and the journal after them.
use Rattle.std.proofs.Common.{◌≡◌, inl, inr, ℕ, ◌≤◌, List, [], length, Result, Ok, Err, refl, sym, ◌∙◌, ap, subst, arith}
use Rattle.pm_disk.specs.declared.area.Area.{Area}
use Rattle.pm_disk.specs.Area.{AreaState, IsImage, IsWrite, IsCut, IsSync}
use Rattle.pm_disk.specs.Moments.{DiskState, Told, IsStep, Throughout, of, other}
use Rattle.pm_disk.proofs.MomentLemmas.{at_rest, step_on, run_on, weaken, at_end}
use Rattle.pm_journal.specs.declared.journal.Journal.{Journal}
use Rattle.pm_journal.specs.declared.phase.Phase.TheVariants.{Reading, Ready}
use Rattle.pm_journal.specs.Items.{HasList}
use Rattle.pm_journal.specs.Lists.{KeepsArea, KeepsLists}
use Rattle.pm_journal.specs.Opening.{IsBegun, IsShort, IsRefreshing, IsOpened}
use Rattle.pm_journal.proofs.ImageLemmas.{sync_image}
use Rattle.pm_journal.proofs.ListLemmas.{keeps_itself, keeps_few, HasList-exists}

pub reading_is_not_ready : Reading ≡ Ready → ⊥
reading_is_not_ready same = cc

seen_after_sync : {E : Type 0} (result : Result Unit E) (old new : AreaState) → IsSync result old new → new.seen ≡ old.seen
seen_after_sync (Ok u) old new sync = ap (λ (a : AreaState). a.seen) sync.done
seen_after_sync (Err e) old new sync = ap (λ (a : AreaState). a.seen) sync.failed

-- A sync alone.
pub stays_at_sync : {E : Type 0} (area : Area) (result : Result Unit E) (old new : Told)
    → IsImage (of old.now area) (of old.now area).seen → IsStep area (IsSync result) old new
    → Throughout (KeepsArea area old.now) old new
stays_at_sync area result old new seen one = step_on (KeepsArea area old.now) area (IsSync result) old old new
    (at_rest (KeepsArea area old.now) old (record { seen = refl; images = λ image is. is; that = refl })) one (record {
      seen = seen_after_sync result (of old.now area) (of new.now area) one.this;
      images = λ image is. sync_image result (of old.now area) (of new.now area) seen one.this image is;
      that = one.that;
    })

-- An area that stays as it was keeps its lists.
pub lists_stay : (area : Area) (old new : Told) → Throughout (KeepsArea area old.now) old new
    → Throughout (KeepsLists area old.now) old new
lists_stay area old new run = weaken (KeepsArea area old.now) (KeepsLists area old.now) old new (λ state stays. record {
  each = λ image is. (image, stays.images image is, keeps_itself image);
  that = stays.that;
}) run

-- While a fresh area is made an empty journal.
keeps_refreshing : (area : Area) (old : Told) (mid state : DiskState) → IsImage (of old.now area) (of old.now area).seen
    → length (of old.now area).seen ≤ 9 → of mid (other area) ≡ of old.now (other area) → IsRefreshing area mid state
    → KeepsLists area old.now state
keeps_refreshing area old mid state seen few that at = record {
  each = λ image is. ((of old.now area).seen, seen, keeps_few (of old.now area).seen image few (omega (arith, is.no_longer, at.greatest)));
  that = at.that ∙ that;
}

-- An area of few bytes that stays as it was, and then is made an empty journal.
pub lists_refreshed : (area : Area) (old mid new : Told) → IsImage (of old.now area) (of old.now area).seen
    → length (of old.now area).seen ≤ 9 → Throughout (KeepsArea area old.now) old mid
    → Throughout (IsRefreshing area mid.now) mid new → Throughout (KeepsLists area old.now) old new
lists_refreshed area old mid new seen few first then =
    let that = (at_end (KeepsArea area old.now) old mid first).that in
    run_on (KeepsLists area old.now) old mid new (lists_stay area old mid first)
    (weaken (IsRefreshing area mid.now) (KeepsLists area old.now) mid new (λ state at. keeps_refreshing area old mid.now state seen few that at) then)

pub refresh_begins : (area : Area) (old : Told) → IsShort (of old.now area) → Throughout (IsRefreshing area old.now) old old
refresh_begins area old short = at_rest (IsRefreshing area old.now) old (record { greatest = short.greatest; that = refl })

pub refresh_cuts : {E : Type 0} (area : Area) (to : ℕ) (result : Result Unit E) (old mid new : Told)
    → Throughout (IsRefreshing area old.now) old mid → IsStep area (IsCut to result) mid new
    → Throughout (IsRefreshing area old.now) old new
refresh_cuts area to result old mid new run one =
    let so_far = at_end (IsRefreshing area old.now) old mid run in
    step_on (IsRefreshing area old.now) area (IsCut to result) old mid new run one (record { greatest = omega (arith, so_far.greatest, one.this.greatest); that = one.that ∙ so_far.that })

pub refresh_writes : {E : Type 0} (area : Area) (bytes : List ℕ) (result : Result Unit E) (old mid new : Told)
    → Throughout (IsRefreshing area old.now) old mid → length bytes ≡ 9 → IsStep area (IsWrite 0 bytes result) mid new
    → Throughout (IsRefreshing area old.now) old new
refresh_writes area bytes result old mid new run nine one =
    let so_far = at_end (IsRefreshing area old.now) old mid run in
    step_on (IsRefreshing area old.now) area (IsWrite 0 bytes result) old mid new run one (record { greatest = omega (arith, so_far.greatest, one.this.greatest, nine); that = one.that ∙ so_far.that })

synced_greatest : {E : Type 0} (result : Result Unit E) (mid new : AreaState) → IsImage mid mid.seen → mid.greatest ≤ 9
    → IsSync result mid new → new.greatest ≤ 9
synced_greatest (Ok u) mid new seen le sync = omega (arith, ap (λ (a : AreaState). a.greatest) sync.done, seen.no_longer, le)
synced_greatest (Err e) mid new seen le sync = omega (arith, ap (λ (a : AreaState). a.greatest) sync.failed, le)

pub refresh_syncs : {E : Type 0} (area : Area) (result : Result Unit E) (old mid new : Told)
    → Throughout (IsRefreshing area old.now) old mid → IsImage (of mid.now area) (of mid.now area).seen
    → IsStep area (IsSync result) mid new → Throughout (IsRefreshing area old.now) old new
refresh_syncs area result old mid new run seen one =
    let so_far = at_end (IsRefreshing area old.now) old mid run in
    step_on (IsRefreshing area old.now) area (IsSync result) old mid new run one (record {
      greatest = synced_greatest result (of mid.now area) (of new.now area) seen so_far.greatest one.this;
      that = one.that ∙ so_far.that;
    })

-- The journal that is opened.
pub journal_opened : (limit : ℕ) (bytes : List ℕ) (area : AreaState) (journal : Journal) → IsBegun limit bytes area
    → journal.at ≡ 8 → journal.length ≡ length area.seen → (journal.phase ≡ Ready → ⊥) → IsOpened limit bytes journal area
journal_opened limit bytes area journal begun gate length_is reading = elim begun.is [
  | inl fresh ↦ record {
    begun = begun;
    items = [];
    list = inl (fresh.0.few, refl);
    at = record {
      on_disk = begun.on_disk;
      list = record { fits = tt; gate = 0; rest = []; is = fresh.1; stops = inl (omega arith) };
      gate = gate;
      length = length_is;
      ready = λ ready. absurd (reading ready);
    };
  }
  | inr marked ↦
      let exists = HasList-exists bytes (omega (arith, marked.0.not_fresh)) marked.0.marked in
      record {
        begun = begun;
        items = exists.0;
        list = inr exists.1;
        at = record {
          on_disk = begun.on_disk;
          list = subst (λ (l : List ℕ). HasList l exists.0) (sym marked.1) exists.1;
          gate = gate;
          length = length_is;
          ready = λ ready. absurd (reading ready);
        };
      }
]
