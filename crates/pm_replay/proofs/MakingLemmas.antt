-- A body may be made where the jobs and monitors of a history permit it.
use Rattle.std.proofs.Common.{◌≡◌, ℕ, ◌+◌, ◌&&◌, Bool, true, false, not, cond, List, [], ◌∷◌, length, Option, Some, None, nat_le, nat_lt, refl, sym, ap, ◌∙◌, subst}
use Rattle.std.specs.Option.{is_some, is_none}
use Rattle.std.specs.Str.{bytes_eq}
use Rattle.std.proofs.lemmas.Slice.Eq.{bytes_eq-Decides}
use Rattle.pm_dn.specs.Refusal.{when_broken, first_code}
use Rattle.pm_form.specs.Names.{job_id}
use Rattle.pm_inventory.specs.Inventory.{InventoryState}
use Rattle.pm_history.specs.declared.entry.Side.{Side}
use Rattle.pm_history.specs.History.{History}
use Rattle.pm_history.specs.Standing.{Standing, standing_after}
use Rattle.pm_asked.specs.Asked.{terms_of}
use Rattle.pm_jobs.specs.declared.error.JobError.{JobError}
use Rattle.pm_jobs.specs.declared.error.JobError.TheVariants.{J1, J2, J9}
use Rattle.pm_jobs.specs.Asked.{Asked, asked_of}
use Rattle.pm_jobs.specs.Rules.{MOST_STANDING, MOST_LOAD, full, load_asked, body_refusal, asked_refusal, stands, is_other, has_no_form, new_refusal, create_refusal, was_made_with, standing_at}
use Rattle.pm_jobs.specs.State.{JobsState, on}
use Rattle.pm_jobs.specs.Stands.{Stands}
use Rattle.pm_replay.specs.Allowed.{IsCanonical, MayMake}
use Rattle.pm_replay.specs.Rules.{refusal_after, makes_anew, may_make}
use Rattle.pm_replay.proofs.RowLemmas.{both_true}
use Rattle.pm_replay.proofs.StandingLemmas.{stands-is, count-is, load-is}

-- ---- the first rule that is broken

first-none : (a : Option JobError) (more : List (Option JobError)) → first_code (a ∷ more) ≡ None → (a ≡ None) × (first_code more ≡ None)
first-none None more is = (refl, is)
first-none (Some e) more is = absurd (cc (is))

kept-rule : (b : Bool) (e : JobError) → when_broken (not b) e ≡ None → b ≡ true
kept-rule true e is = refl
kept-rule false e is = absurd (cc (is))

no-code : (o : Option JobError) → is_none o ≡ true → o ≡ None
no-code None is = refl
no-code (Some e) is = absurd (cc (is))

none-standing : (o : Option Standing) → is_some o ≡ false → o ≡ None
none-standing None is = refl
none-standing (Some s) is = absurd (cc (is))

module _ (inventory : InventoryState) (h : History) (jobs : JobsState) (is : Stands inventory jobs h) where
  refusal-is : (side : Side) (asked : Asked) → asked_refusal inventory jobs side asked ≡ refusal_after inventory h side asked
  refusal-is side asked =
      let count = count-is inventory h side jobs is in
      let load = load-is inventory h jobs is in
      λ i. first_code
      (body_refusal inventory side asked
      ∷ when_broken (nat_le MOST_STANDING (count i)) (full side)
      ∷ when_broken (nat_lt MOST_LOAD (load i + load_asked inventory asked)) J9
      ∷ [])

  pub fresh-is : (side : Side) (id : List ℕ) → stands jobs side id ≡ false → standing_after (terms_of inventory) side h id ≡ None
  fresh-is side id fresh = none-standing (standing_after (terms_of inventory) side h id) (sym (stands-is inventory h side jobs id is) ∙ fresh)

  pub is-fresh : (side : Side) (id : List ℕ) → standing_after (terms_of inventory) side h id ≡ None → stands jobs side id ≡ false
  is-fresh side id none = stands-is inventory h side jobs id is ∙ ap is_some none

  pub making-permits : (side : Side) (id body : List ℕ) → MayMake inventory jobs side id body → may_make inventory h side id body ≡ true
  making-permits side id body may =
      let asked = may.canonical.asked in
      let first = first-none (when_broken (not (job_id id)) J1) _ may.permitted in
      let second = first-none (when_broken (has_no_form side body (asked_of side body)) J1) _ first.1 in
      let third = first-none (when_broken (is_other jobs side id (asked_of side body)) J2) _ second.1 in
      let fourth = first-none (new_refusal inventory jobs side id (asked_of side body)) _ third.1 in
      let named = kept-rule (job_id id) J1 first.0 in
      let new : asked_refusal inventory jobs side asked ≡ None =
      sym (ap (λ b. cond b None (asked_refusal inventory jobs side asked)) may.fresh)
      ∙ (sym (ap (new_refusal inventory jobs side id) may.canonical.says) ∙ fourth.0) in
      let kept : is_none (refusal_after inventory h side asked) ≡ true = ap is_none (sym (refusal-is side asked) ∙ new) in
      let written : bytes_eq asked.text body ≡ true = (bytes_eq-Decides asked.text body).1 may.canonical.text in
      (λ i. named i && makes_anew inventory h side body (may.canonical.says i))
      ∙ (λ i. written i && kept i)

  pub permits-making : (side : Side) (id body : List ℕ) → standing_after (terms_of inventory) side h id ≡ None → may_make inventory h side id body ≡ true
      → MayMake inventory jobs side id body
  permits-making side id body none may =
      let both = both_true (job_id id) (makes_anew inventory h side body (asked_of side body)) may in
      by (asked_of side body) refl both.0 both.1
    where
      fresh : stands jobs side id ≡ false
      fresh = is-fresh side id none

      by : (o : Option Asked) → asked_of side body ≡ o → job_id id ≡ true → makes_anew inventory h side body o ≡ true → MayMake inventory jobs side id body
      by None says named anew = absurd (cc (anew))
      by (Some asked) says named anew =
          let both = both_true (bytes_eq asked.text body) (is_none (refusal_after inventory h side asked)) anew in
          let text = (bytes_eq-Decides asked.text body).0 both.0 in
          let new : asked_refusal inventory jobs side asked ≡ None = refusal-is side asked ∙ no-code (refusal_after inventory h side asked) both.1 in
          record {
            fresh = fresh;
            permitted =
                (λ i. first_code
                (when_broken (not (named i)) J1
                ∷ when_broken (has_no_form side body (says i)) J1
                ∷ when_broken (is_other jobs side id (says i)) J2
                ∷ new_refusal inventory jobs side id (says i)
                ∷ []))
                ∙ ((λ i. first_code
                (None
                ∷ None
                ∷ when_broken (fresh i && not (was_made_with asked (standing_at (on side jobs) id))) J2
                ∷ cond (fresh i) None (asked_refusal inventory jobs side asked)
                ∷ []))
                ∙ ap (λ o. first_code (None ∷ None ∷ None ∷ o ∷ [])) new);
            canonical = record { asked = asked; says = says; text = text };
          }
