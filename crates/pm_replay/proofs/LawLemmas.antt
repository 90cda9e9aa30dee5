-- An item is allowed exactly where the items of its history permit it.
use Rattle.std.proofs.Common.{◌≡◌, ℕ, ◌<◌, ◌≤◌, ◌↔◌, Bool, true, false, not, List, [], ◌∷◌, length, Option, Some, None, refl, sym, ap, ◌∙◌, subst, arith}
use Rattle.pm_base.specs.Moment.{IsMoment, tick_of}
use Rattle.pm_inventory.specs.Inventory.{InventoryState, slots, slot_number}
use Rattle.pm_meas.specs.declared.cell.Cell.{Cell}
use Rattle.pm_history.specs.declared.entry.Side.{Side}
use Rattle.pm_history.specs.declared.entry.Side.TheVariants.{Job, Monitor}
use Rattle.pm_history.specs.Entry.{Made, Moved, Deleted}
use Rattle.pm_history.specs.History.{History, Start, ◌▷◌, size, last_moment}
use Rattle.pm_items.specs.Alike.{is_begun}
use Rattle.pm_items.specs.Cursors.{cursors_taken, CursorsFit}
use Rattle.pm_items.specs.Subscribed.{subscribers_after}
use Rattle.pm_items.specs.Permitted.{Rules, Suits, Permits}
use Rattle.pm_asked.specs.Asked.{terms_of}
use Rattle.pm_jobs.specs.State.{JobsState}
use Rattle.pm_store.specs.declared.item.Item1.{Item1}
use Rattle.pm_store.specs.declared.item.Item1.TheVariants.{Boot, Booked, JobMade, JobState, JobDeleted, MonitorMade, MonitorState, MonitorDeleted, Subscribed, Unsubscribed}
use Rattle.pm_store.specs.Stored.{item_in}
use Rattle.pm_replay.specs.Allowed.{IsBeside, MayMake, MayMove, MayDelete, Allows}
use Rattle.pm_replay.specs.Rules.{AreRules}
use Rattle.pm_replay.specs.Laws.{IsNext, AllowedAsPermitted}
use Rattle.pm_replay.proofs.StandingLemmas.{stands-is, state-is}
use Rattle.pm_replay.proofs.MakingLemmas.{fresh-is, making-permits, permits-making}
use Rattle.pm_replay.proofs.FittingLemmas.{fit-permits, permits-fit}

begun-is : (h : History) → 0 < size h → is_begun h ≡ true
begun-is Start some = absurd (omega (arith, some))
begun-is (h ▷ e) some = refl

no-cursors : (terms : Side → List ℕ → _) (taken : List (List ℕ)) (h : History) (ids : List (List ℕ)) (cursors : List ℕ) → ids ≡ [] → CursorsFit terms taken h ids cursors
    → cursors ≡ []
no-cursors terms taken h [] [] is fit = refl
no-cursors terms taken h [] (c ∷ cs) is fit = absurd fit
no-cursors terms taken h (i ∷ ids) cursors is fit = absurd (cc (is))

module _ (inventory : InventoryState) (rules : Rules) (taken : List (List ℕ)) (jobs : JobsState) (h : History) (are : AreRules inventory rules) where
  made : (side : Side) (id body : List ℕ) (item : Item1) → IsNext inventory jobs h taken item
      → (MayMake inventory jobs side id body ↔ Suits (terms_of inventory) rules taken h side id (Made body))
  made side id body item next = (
    λ may. (
      fresh-is inventory h jobs next.stands side id may.fresh,
      are.makes h side id body ∙ making-permits inventory h jobs next.stands side id body may,
    ),
    λ suits. permits-making inventory h jobs next.stands side id body suits.0 (sym (are.makes h side id body) ∙ suits.1),
  )

  moved : (side : Side) (id : List ℕ) (unlocked : Bool) (item : Item1) → IsNext inventory jobs h taken item
      → (MayMove jobs side id unlocked ↔ Suits (terms_of inventory) rules taken h side id (Moved unlocked))
  moved side id unlocked item next = (
    λ may. sym (state-is inventory h side jobs id next.stands) ∙ may,
    λ suits. state-is inventory h side jobs id next.stands ∙ suits,
  )

  deleted : (side : Side) (id : List ℕ) (item : Item1) → IsNext inventory jobs h taken item
      → (MayDelete jobs side id ↔ Suits (terms_of inventory) rules taken h side id Deleted)
  deleted side id item next = (
    λ may. sym (stands-is inventory h side jobs id next.stands) ∙ may,
    λ suits. stands-is inventory h side jobs id next.stands ∙ suits,
  )

  pub allowed : (item : Item1) → IsNext inventory jobs h taken item
      → (Allows inventory jobs (last_moment h) item ↔ Permits (terms_of inventory) rules taken h (item_in (slot_number inventory) item))
  allowed (Boot moment version text) next = (
    λ may. may.later,
    λ later. record { in_range = next.item_is.moment; later = later; same = next.over },
  )
  allowed (Booked moment tick cells cursors) next = (
    λ may. record {
      begun = begun-is h next.begun;
      later = may.tick_taken.later;
      soon = may.tick_taken.soon;
      takes = may.tick_taken.takes;
      cells_fit = fit-permits inventory rules cells are may.cells_fit;
      cursors_fit =
          subst (λ ids. CursorsFit (terms_of inventory) taken h ids (cursors_taken taken h)) (sym next.unsubscribed)
          (subst (CursorsFit (terms_of inventory) taken h []) (sym (next.cursors ∙ may.unsubscribed)) tt);
    },
    λ permits. record {
      tick_taken = record { in_range = next.item_is.moment; later = permits.later; soon = permits.soon; takes = permits.takes };
      cells_fit = permits-fit inventory rules cells next.distinct next.item_is.fields.1.0.1 next.over permits.cells_fit;
      unsubscribed = sym next.cursors ∙ no-cursors (terms_of inventory) taken h (subscribers_after h) (cursors_taken taken h) next.unsubscribed permits.cursors_fit;
    },
  )
  allowed (JobMade moment id body) next =
      let both = made Job id body _ next in (
        λ may. record { begun = begun-is h next.begun; later = may.0.later; beside = may.0.same; may = both.0 may.1 },
        λ permits. (record { later = permits.later; same = permits.beside }, both.1 permits.may),
      )
  allowed (JobState moment id unlocked) next =
      let both = moved Job id unlocked _ next in (
        λ may. record { begun = begun-is h next.begun; later = may.0.later; beside = may.0.same; may = both.0 may.1 },
        λ permits. (record { later = permits.later; same = permits.beside }, both.1 permits.may),
      )
  allowed (JobDeleted moment id) next =
      let both = deleted Job id _ next in (
        λ may. record { begun = begun-is h next.begun; later = may.0.later; beside = may.0.same; may = both.0 may.1 },
        λ permits. (record { later = permits.later; same = permits.beside }, both.1 permits.may),
      )
  allowed (MonitorMade moment id body) next =
      let both = made Monitor id body _ next in (
        λ may. record { begun = begun-is h next.begun; later = may.0.later; beside = may.0.same; may = both.0 may.1 },
        λ permits. (record { later = permits.later; same = permits.beside }, both.1 permits.may),
      )
  allowed (MonitorState moment id unlocked) next =
      let both = moved Monitor id unlocked _ next in (
        λ may. record { begun = begun-is h next.begun; later = may.0.later; beside = may.0.same; may = both.0 may.1 },
        λ permits. (record { later = permits.later; same = permits.beside }, both.1 permits.may),
      )
  allowed (MonitorDeleted moment id) next =
      let both = deleted Monitor id _ next in (
        λ may. record { begun = begun-is h next.begun; later = may.0.later; beside = may.0.same; may = both.0 may.1 },
        λ permits. (record { later = permits.later; same = permits.beside }, both.1 permits.may),
      )
  allowed (Subscribed moment id port path) next = absurd (next.held tt)
  allowed (Unsubscribed moment id) next = absurd (next.held tt)

pub allowed_as_permitted : AllowedAsPermitted
allowed_as_permitted inventory rules taken jobs h item are next = allowed inventory rules taken jobs h are item next
