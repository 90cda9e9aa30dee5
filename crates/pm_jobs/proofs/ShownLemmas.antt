-- What exists has a body to be shown, and an id that is text.
use Rattle.std.proofs.Common.{◌≡◌, ℕ, zero, suc, ◌<◌, ◌&&◌, ◌||◌, Bool, true, false, cond, List, [], ◌∷◌, length, get_or, Option, Some, None, refl, ap, ◌∙◌, arith}
use Rattle.std.specs.Prelude.{Result, Ok, Err, is_some, option_and_then, IsSome, IfOk}
use Rattle.std.specs.List.{list_any}
use Rattle.std.specs.Option.{option_map}
use Rattle.std.specs.Str.{bytes_eq, IsUtf8}
use Rattle.std.specs.List.{list_all}
use Rattle.std.proofs.lemmas.Bool.Decides.{nat_tests}
use Rattle.std.proofs.lemmas.List.Sums.{list_all-from_AllPass}
use Rattle.std.proofs.lemmas.Slice.Eq.{bytes_eq-Decides}
use Rattle.std.proofs.lemmas.Str.{IsUtf8-append, IsUtf8-nil, IsUtf8-from_ascii}
use Rattle.pm_base.specs.Names.{is_id_char}
use Rattle.pm_form.specs.Names.{job_id}
use Rattle.pm_form.proofs.NameLemmas.{IsJobId-job_id}
use Rattle.pm_history.specs.declared.entry.Side.{Side}
use Rattle.pm_history.specs.declared.entry.Side.TheVariants.{Job, Monitor}
use Rattle.pm_asked.specs.BodyReading.{job_body, monitor_body}
use Rattle.pm_jobs.specs.declared.standing.Standing.{Standing}
use Rattle.pm_jobs.specs.Asked.{asked_of}
use Rattle.pm_jobs.specs.Rules.{standing_at}
use Rattle.pm_jobs.specs.Shown.{shown}
use Rattle.pm_jobs.specs.State.{ids, AreItems}

-- What maps to something maps to something else too.
mapped : {A B C : Type 0} (f : A → B) (g : A → C) (o : Option A) → IsSome (option_map f o) → is_some (option_map g o) ≡ true
mapped f g None some = some
mapped f g (Some a) some = refl

is_shown : (side : Side) (s : Standing) → IsSome (asked_of side s.body) → is_some (shown side s) ≡ true
is_shown Job s some = mapped _ _ (job_body s.body) some
is_shown Monitor s some = mapped _ _ (monitor_body s.body) some

pub some_shown : (side : Side) (id : List ℕ) (items : List Standing) → AreItems side items
    → is_some (option_and_then (shown side) (standing_at items id)) ≡ list_any (bytes_eq id) (ids items)
some_shown side id [] all = refl
some_shown side id (s ∷ ss) all = by (bytes_eq id s.id) (is_shown side s all.0.1) (some_shown side id ss all.1)
  where
    by : (b : Bool) → is_some (shown side s) ≡ true
        → is_some (option_and_then (shown side) (standing_at ss id)) ≡ list_any (bytes_eq id) (ids ss)
        → is_some (option_and_then (shown side) (cond b (Some s) (standing_at ss id))) ≡ (b || list_any (bytes_eq id) (ids ss))
    by true this rest = this
    by false this rest = rest

pub exists_if : {E : Type 0} (r : Result (Option (List ℕ)) E) (shown : Option (List ℕ)) (exists : Bool) → IfOk r (λ o. o ≡ shown) → is_some shown ≡ exists
    → IfOk r (λ o. is_some o ≡ exists)
exists_if (Ok o) shown exists is some = ap is_some is ∙ some
exists_if (Err e) shown exists is some = tt

-- ---- ids

both : (a b : Bool) → (a && b) ≡ true → (a ≡ true) × (b ≡ true)
both true b h = (refl, h)
both false b h = cc

one : (b : ℕ) → b < 128 → IsUtf8 (b ∷ [])
one b lt = IsUtf8-from_ascii (b ∷ []) at
  where
    at : (i : ℕ) → get_or (b ∷ []) i 0 < 128
    at zero = lt
    at (suc i) = omega arith

small : (b : ℕ) → is_id_char b ≡ true → b < 128
small b e = grind (arith, nat_tests)

all_small : (s : List ℕ) → list_all is_id_char s ≡ true → IsUtf8 s
all_small [] e = IsUtf8-nil
all_small (b ∷ s) e = let q = both (is_id_char b) (list_all is_id_char s) e in IsUtf8-append (b ∷ []) s (one b (small b q.0)) (all_small s q.1)

pub id_is_text : (s : List ℕ) → job_id s ≡ true → IsUtf8 s
id_is_text s e = all_small s (list_all-from_AllPass is_id_char s (IsJobId-job_id s e).alphabet)

pub id_at : (side : Side) (items : List Standing) (place : ℕ) (d : Standing) → AreItems side items → place < length items
    → job_id (get_or items place d).id ≡ true
id_at side [] place d all lt = absurd (omega arith)
id_at side (s ∷ ss) zero d all lt = all.0.0
id_at side (s ∷ ss) (suc place) d all lt = id_at side ss place d all.1 (omega (arith, lt))

-- What exists has an id of the form of ids.
pub formed : (side : Side) (items : List Standing) (id : List ℕ) → AreItems side items → list_any (bytes_eq id) (ids items) ≡ true
    → job_id id ≡ true
formed side [] id all any = cc
formed side (s ∷ ss) id all any = by (bytes_eq id s.id) refl any (λ more. formed side ss id all.1 more)
  where
    by : (b : Bool) → bytes_eq id s.id ≡ b → (b || list_any (bytes_eq id) (ids ss)) ≡ true
        → (list_any (bytes_eq id) (ids ss) ≡ true → job_id id ≡ true) → job_id id ≡ true
    by true same any rest = ap job_id ((bytes_eq-Decides id s.id).0 same) ∙ all.0.0
    by false same any rest = rest any
