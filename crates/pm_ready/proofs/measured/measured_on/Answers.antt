use Rattle.std.proofs.Common.{◌≡◌, ◌∙◌, ◌++◌, ℕ, List, get_or, map, ap}
use Rattle.std.specs.List.{filter}
use Rattle.std.specs.Prelude.{option_to_list}
use Rattle.std.proofs.lemmas.List.{map-append}
use Rattle.pm_base.specs.declared.class.Class.{Class}
use Rattle.pm_base.specs.declared.class.Class.TheVariants.{ManagedElement}
use Rattle.pm_base.specs.declared.class.TheConstants.{CLASSES}
use Rattle.pm_history.specs.Terms.{Measured}
use Rattle.pm_asked.specs.Asked.{Numbered, same_class, measured_of}
use Rattle.pm_jobs.specs.Numbered.{numbered}
use Rattle.pm_ready.specs.Measured as own
use Rattle.pm_ready.proofs.StepLemmas.{flat_more}
use Rattle.pm_ready.proofs.measured.measured_on.Goals as goal

pub loop-class-preserved : goal.loop-class-preserved
loop-class-preserved c =
    let inventory = c.args.inventory.now in
    let metrics : List ℕ = c.args.metrics.now in
    let objects : List ℕ = c.args.objects.now in
    let f : Class → List Measured = λ d. measured_of inventory objects d (filter (λ (m : Numbered). same_class m.1.class d) (numbered inventory metrics)) in
    let old = c.loop-class.found.items in
    let more : map own.measured_of c.push_some.new.found.items ≡ map own.measured_of old ++ f (get_or CLASSES c.loop-class.class-index ManagedElement) =
    ap (map own.measured_of) c.in_ok-push_some.ensures ∙ map-append own.measured_of old (option_to_list c.in_ok-measured.measured)
    ∙ ap (λ l. map own.measured_of old ++ l) c.in_ok-measured.ensures in
    flat_more f CLASSES c.loop-class.class-index ManagedElement (map own.measured_of old) (map own.measured_of c.push_some.new.found.items) c.loop-class-test.true more c.loop-class.invariant
