use Rattle.std.proofs.Common.{[], ◌∷◌, ℕ, Option, Some, option_to_list, sym, ap, ◌∙◌}
use Rattle.pm_inventory.specs.Inventory.{slots}
use Rattle.pm_close.specs.declared.watched.WatchedObject.{WatchedObject}
use Rattle.pm_close.specs.Watched.{watched_on, object_numbers}
use Rattle.pm_close.specs.WatchedOf.{ObjectBegins}
use Rattle.pm_close.proofs.EachLemmas.{each-one}
use Rattle.pm_close.proofs.NumberedLemmas.{measures-none, measures-one, slot-reads}
use Rattle.pm_close.proofs.watched_of.watched_object.Goals as goal

pub returns-in_err-slot-clause-numbers : goal.returns-in_err-slot-clause-numbers
returns-in_err-slot-clause-numbers c =
    ap (λ (o : Option WatchedObject). object_numbers (option_to_list o)) c.from_residual.ensures
    ∙ sym (measures-none c.args.inventory.now c.args.object c.args.of.now.metric.number c.requires.object c.requires.metric
    (sym c.in_err-slot.ensures.number))

pub returns-clause-numbers : goal.returns-clause-numbers
returns-clause-numbers c =
    ap (λ (n : ℕ). n ∷ []) c.new.ensures.object
    ∙ sym (measures-one c.args.inventory.now c.args.object c.args.of.now.metric.number c.in_ok-slot.slot c.requires.object
    c.requires.metric (sym c.in_ok-slot.ensures.number))

pub returns-clause-begins : goal.returns-clause-begins
returns-clause-begins c =
    let inventory = c.args.inventory.now in
    λ objects. each-one (ObjectBegins inventory (watched_on c.args.of.now objects)) c.new.result
    (λ terms h w granularity armed. c.new.ensures.stands terms (slots inventory) h w granularity armed objects
    (slot-reads inventory c.args.object c.args.of.now.metric.number c.from.result
    (sym c.in_ok-slot.ensures.number ∙ ap (λ (n : ℕ). Some n) (sym c.from.ensures))))
