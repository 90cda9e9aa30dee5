use Rattle.std.proofs.Common.{◌≡◌, Bool, List, [], ◌∷◌, get_or, Option, Some, None, sym, ap, ◌∙◌, arith}
use Rattle.std.specs.Option.{option_map}
use Rattle.pm_jobs.specs.declared.standing.Standing.{Standing}
use Rattle.pm_jobs.specs.Plan.{state_entry}
use Rattle.pm_jobs.specs.State.{on, ids_on}
use Rattle.pm_replay.proofs.FoundLemmas.{none-standing, id-at}
use Rattle.pm_replay.proofs.change.plan_state.Goals as goal

differ : (b : Bool) → None ≡ Some b → ⊥
differ b is = cc

pub returns-in-None-clause-refused : goal.returns-in-None-clause-refused
returns-in-None-clause-refused c = λ is move.
    let none = none-standing (on c.args.side c.args.jobs.now) c.args.id.now c.in-None.ensures.none in
    differ _ (sym (ap (option_map (λ (s : Standing). s.unlocked)) none) ∙ move)

pub returns-else-at-unlocked-clause-plan : goal.returns-else-at-unlocked-clause-plan
returns-else-at-unlocked-clause-plan c = λ inventory.
    let at : c.from.result ≡ c.in-Some.place = omega (arith, c.from.ensures) in
    record {
      suits = omega (arith, at, c.in-Some.ensures.within);
      over = tt;
      entry =
          ap (λ i. state_entry c.args.side c.args.moment i c.args.unlocked ∷ [])
          (ap (λ n. get_or (ids_on c.args.side c.args.jobs.now) n []) at ∙ id-at (ids_on c.args.side c.args.jobs.now) c.in-Some.place c.args.id.now c.in-Some.ensures.place);
    }
