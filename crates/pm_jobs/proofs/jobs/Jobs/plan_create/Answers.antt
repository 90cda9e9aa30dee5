use Rattle.std.proofs.Common.{◌≡◌, ◌∙◌, ◌≤◌, ◌&&◌, ℕ, List, Bool, true, false, length, None, refl, sym}
use Rattle.std.proofs.lemmas.Bool.{leb-true}
use Rattle.pm_form.specs.Names.{job_id}
use Rattle.pm_jobs.specs.declared.error.BodyError.TheVariants.{J11}
use Rattle.pm_jobs.specs.Asked.{asked_of}
use Rattle.pm_jobs.specs.Plan.{IsAt}
use Rattle.pm_jobs.specs.Rules.{stands, has_wrong_list}
use Rattle.pm_jobs.specs.State.{ids_on}
use Rattle.pm_jobs.specs.Wanted.{text_rule}
use Rattle.pm_jobs.proofs.FindLemmas.{stands_at, wrong_list}
use Rattle.pm_jobs.proofs.jobs.Jobs.plan_create.Goals as goal

second : (a b c d : Bool) → (a && b && c && d) ≡ true → b ≡ true
second true true c d is = refl
second true false c d is = cc
second false b c d is = cc

short : (id : List ℕ) → job_id id ≡ true → length id ≤ 32
short id is = leb-true (length id) 32 (second _ _ _ _ is)

pub plan_wanted-requires : goal.plan_wanted-requires
plan_wanted-requires c = record {
  short = short c.args.id.now (sym c.is_job_id.ensures ∙ c.if-not-is_job_id.false);
  named = sym c.is_job_id.ensures ∙ c.if-not-is_job_id.false;
  back = c.in-Ok.ensures.back;
}

pub returns-in-Ok-clause-answer : goal.returns-in-Ok-clause-answer
returns-in-Ok-clause-answer c =
    let id : job_id c.args.id.now ≡ true = sym c.is_job_id.ensures ∙ c.if-not-is_job_id.false in
    rw (id, c.in-Ok.ensures.content) c.plan_wanted.ensures.answer

pub returns-in-Some-clause-answer : goal.returns-in-Some-clause-answer
returns-in-Some-clause-answer c =
    let a = c.args in
    let id : job_id a.id.now ≡ true = sym c.is_job_id.ensures ∙ c.if-not-is_job_id.false in
    let content : (asked_of a.side a.body.now ≡ None) × (text_rule a.side a.body.now ≡ J11) = rw c.in-Err-J11.field-0-is at c.in-Err-J11.ensures.content in
    let wrong : has_wrong_list a.side a.body.now ≡ true = wrong_list a.side a.body.now content.1 in
    let at : IsAt a.self.now a.side a.id.now c.in-Some.field-0 = rw c.on.ensures.items at c.in-Some.ensures.place in
    let there : stands a.self.now a.side a.id.now ≡ true = stands_at (ids_on a.side a.self.now) c.in-Some.field-0 a.id.now at in
    rw (id, content.0, wrong, there) refl
