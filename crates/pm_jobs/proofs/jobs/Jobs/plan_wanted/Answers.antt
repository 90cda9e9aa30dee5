use Rattle.std.proofs.Common.{◌≡◌, ◌∙◌, ◌<◌, true, false, length, get_or, refl, sym, ap}
use Rattle.std.specs.Prelude.{slice_get}
use Rattle.std.specs.Str.{bytes_eq}
use Rattle.pm_jobs.specs.declared.standing.Standing.{Standing}
use Rattle.pm_jobs.specs.Asked.{Asked}
use Rattle.pm_jobs.specs.Plan.{IsAt}
use Rattle.pm_jobs.specs.Rules.{stands, standing_at, was_made_with}
use Rattle.pm_jobs.specs.State.{on, ids_on}
use Rattle.pm_jobs.specs.Wanted.{wanted_content}
use Rattle.pm_jobs.proofs.FindLemmas.{stands_at, made_at}
use Rattle.pm_jobs.proofs.jobs.Jobs.plan_wanted.Goals as goal

pub returns-then-not-is_same-clause-answer : goal.returns-then-not-is_same-clause-answer
returns-then-not-is_same-clause-answer c =
    let a = c.args in
    let place = c.in-Some.place in
    let item = c.index-items-place.result in
    let items = on a.side a.self.now in
    let asked : Asked = wanted_content a.wanted in
    let at : IsAt a.self.now a.side a.id.now place = rw c.on-items.ensures.items at c.in-Some.ensures.place in
    let found : standing_at items a.id.now ≡ slice_get items place = rw c.on-items.ensures.items at c.in-Some.ensures.none in
    let within : place < length items = rw c.on-items.ensures.items at c.in-Some.ensures.within in
    let is : item ≡ get_or items place item = rw c.on-items.ensures.items at c.index-items-place.is in
    let there : stands a.self.now a.side a.id.now ≡ true = stands_at (ids_on a.side a.self.now) place a.id.now at in
    let same : was_made_with asked (standing_at items a.id.now) ≡ false =
    made_at items place item asked a.id.now found within is
    ∙ ap (λ (s : Standing). bytes_eq s.body asked.text) c.index-items-place.is
    ∙ rw (← c.as_bytes.ensures, ← c.as_bytes-in-Some.ensures) (sym c.is_same.ensures ∙ c.if-not-is_same.true) in
    rw (there, same) refl

pub returns-else-not-is_same-clause-answer : goal.returns-else-not-is_same-clause-answer
returns-else-not-is_same-clause-answer c =
    let a = c.args in
    let place = c.in-Some.place in
    let item = c.index-items-place.result in
    let items = on a.side a.self.now in
    let asked : Asked = wanted_content a.wanted in
    let at : IsAt a.self.now a.side a.id.now place = rw c.on-items.ensures.items at c.in-Some.ensures.place in
    let found : standing_at items a.id.now ≡ slice_get items place = rw c.on-items.ensures.items at c.in-Some.ensures.none in
    let within : place < length items = rw c.on-items.ensures.items at c.in-Some.ensures.within in
    let is : item ≡ get_or items place item = rw c.on-items.ensures.items at c.index-items-place.is in
    let there : stands a.self.now a.side a.id.now ≡ true = stands_at (ids_on a.side a.self.now) place a.id.now at in
    let same : was_made_with asked (standing_at items a.id.now) ≡ true =
    made_at items place item asked a.id.now found within is
    ∙ ap (λ (s : Standing). bytes_eq s.body asked.text) c.index-items-place.is
    ∙ rw (← c.as_bytes.ensures, ← c.as_bytes-in-Some.ensures) (sym c.is_same.ensures ∙ c.if-not-is_same.false) in
    (rw (there, same) refl, there)
