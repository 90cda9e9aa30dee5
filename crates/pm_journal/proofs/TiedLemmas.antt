-- The area is as the journal knows it, after each call that is Ok.
use Rattle.std.proofs.Common.{◌≡◌, inl, ℕ, List, [], ◌∷◌, ◌++◌, Option, Some, None, sym, ◌∙◌, subst}
use Rattle.std.proofs.lemmas.List.{append-nil}
use Rattle.pm_disk.specs.Area.{AreaState}
use Rattle.pm_journal.specs.declared.item.Item.{Item}
use Rattle.pm_journal.specs.declared.journal.Journal.{Journal}
use Rattle.pm_journal.specs.declared.phase.Phase.TheVariants.{Ready, Spent}
use Rattle.pm_journal.specs.Items.{HasList}
use Rattle.pm_journal.specs.Journal.{IsAt, IsTied, IsReady, IsUsable}
use Rattle.pm_journal.specs.Opening.{IsOpened}
use Rattle.pm_journal.specs.Reading.{IsNext}
use Rattle.pm_journal.proofs.ItemsLemmas.{EachFits-left}

pub tied_opened : {limit : ℕ} {bytes : List ℕ} {journal : Journal} {area : AreaState} → IsOpened limit bytes journal area
    → IsTied journal area
tied_opened opened = ([], opened.items, opened.at)

pub tied_next : (next : Option Item) (old new : Journal) (area area' : AreaState) (given left : List (List ℕ))
    → IsNext next old new area area' given left → IsTied new area'
tied_next None old new area area' given left ends = (given, [], ends.at)
tied_next (Some item) old new area area' given left hands = (given ++ item.bytes ∷ [], hands.0.rest, hands.0.at)

-- A journal that is ready has none left.
pub at_ready : (journal : Journal) (area : AreaState) (given left : List (List ℕ)) → IsAt journal area given left
    → journal.phase ≡ Ready → IsAt journal area given []
at_ready journal area given left at ready =
    let end = at.ready ready in
    record {
      on_disk = at.on_disk;
      list = subst (λ (l : List (List ℕ)). HasList area.seen l) (sym (append-nil given)) (record { fits = EachFits-left given left at.list.fits; gate = end.gate; rest = []; is = end.is; stops = inl end.closed });
      gate = at.gate;
      length = at.length;
      ready = at.ready;
    }

ready_is_not_spent : Ready ≡ Spent → ⊥
ready_is_not_spent same = cc

-- A journal that is ready isn't spent.
pub usable_if_ready : (journal : Journal) → IsReady journal → IsUsable journal
usable_if_ready journal ready = λ spent. ready_is_not_spent (sym ready ∙ spent)
