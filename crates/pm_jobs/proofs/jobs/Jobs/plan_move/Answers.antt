use Rattle.std.proofs.Common.{◌≡◌, ◌∙◌, ◌<◌, true, not, length, get_or, slice_get, refl, ap}
use Rattle.std.specs.Option.{option_map}
use Rattle.pm_jobs.specs.declared.standing.Standing.{Standing}
use Rattle.pm_jobs.specs.Plan.{IsAt}
use Rattle.pm_jobs.specs.Rules.{stands, standing_at}
use Rattle.pm_jobs.specs.State.{on, ids_on}
use Rattle.pm_jobs.proofs.FindLemmas.{stands_at, state_there, beq_same, beq_other}
use Rattle.pm_jobs.proofs.jobs.Jobs.plan_move.Goals as goal

pub returns-then-items-place-clause-answer : goal.returns-then-items-place-clause-answer
returns-then-items-place-clause-answer c =
    let a = c.args in
    let place = c.in-Some.place in
    let item = c.index-items-place.result in
    let at : IsAt a.self.now a.side a.id.now place = rw c.on-items.ensures.items at c.in-Some.ensures.place in
    let within : place < length (on a.side a.self.now) = rw c.on-items.ensures.items at c.in-Some.ensures.within in
    let is : item ≡ get_or (on a.side a.self.now) place item = rw c.on-items.ensures.items at c.index-items-place.is in
    let there : stands a.self.now a.side a.id.now ≡ true = stands_at (ids_on a.side a.self.now) place a.id.now at in
    let under : standing_at (on a.side a.self.now) a.id.now ≡ slice_get (on a.side a.self.now) place = rw c.on-items.ensures.items at c.in-Some.ensures.none in
    (rw there refl, ap (option_map (λ (s : Standing). s.unlocked)) under ∙ state_there (on a.side a.self.now) place item a.unlocked within is (ap (λ (s : Standing). s.unlocked) c.index-items-place.is ∙ beq_same _ a.unlocked c.if-items-place.true))

pub returns-clause-answer : goal.returns-clause-answer
returns-clause-answer c =
    let a = c.args in
    let place = c.in-Some.place in
    let item = c.index-items-place.result in
    let at : IsAt a.self.now a.side a.id.now place = rw c.on-items.ensures.items at c.in-Some.ensures.place in
    let within : place < length (on a.side a.self.now) = rw c.on-items.ensures.items at c.in-Some.ensures.within in
    let is : item ≡ get_or (on a.side a.self.now) place item = rw c.on-items.ensures.items at c.index-items-place.is in
    let there : stands a.self.now a.side a.id.now ≡ true = stands_at (ids_on a.side a.self.now) place a.id.now at in
    let under : standing_at (on a.side a.self.now) a.id.now ≡ slice_get (on a.side a.self.now) place = rw c.on-items.ensures.items at c.in-Some.ensures.none in
    (rw there refl, (refl, refl, refl, at, ap (option_map (λ (s : Standing). s.unlocked)) under ∙ state_there (on a.side a.self.now) place item (not a.unlocked) within is (ap (λ (s : Standing). s.unlocked) c.index-items-place.is ∙ beq_other _ a.unlocked c.if-items-place.false)))
