-- A tick that a request ends, for the monitors that stand.
use Rattle.std.proofs.Common.{◌≡◌, ◌≢◌, ◌<◌, ◌≤◌, ◌+◌, ◌*◌, ◌&&◌, ◌⊎◌, inl, inr, eqb, ℕ, zero, suc, Bool, true, false, List, [], ◌∷◌, length, get_or, Option, Some, None, Result, OnOk, IfOk, refl, sym, ap, subst, ◌∙◌, arith}
use Rattle.std.specs.List.{flat_map, slice_get, AllByRecursion}
use Rattle.std.specs.Option.{option_map}
use Rattle.std.specs.declared.result.Result.TheVariants.{Ok, Err}
use Rattle.std.proofs.lemmas.Bool.{cases_eq, eq-eqb, ne_eqb}
use Rattle.std.proofs.lemmas.List.{get_or_default}
use Rattle.std.proofs.lemmas.Option.{same_Some}
use Rattle.pm_base.specs.Moment.{tick_of}
use Rattle.pm_inventory.specs.Inventory.{InventoryState, slots}
use Rattle.pm_history.specs.declared.entry.Side.{Side}
use Rattle.pm_history.specs.declared.entry.Side.TheVariants.{Monitor}
use Rattle.pm_history.specs.declared.entry.Entry.{Entry}
use Rattle.pm_history.specs.Entry.{moment_of}
use Rattle.pm_history.specs.History.{History, ◌▷◌, before, last_moment, is_cut}
use Rattle.pm_history.specs.Terms.{Terms}
use Rattle.pm_history.specs.Standing.{Standing, making_of, standing_after, ids_after}
use Rattle.pm_history.specs.Notices.{crossings_by, crossings_of, crossings_under, crossings_at}
use Rattle.pm_history.proofs.HistoryLemmas.{before_all, before-stays, is_cut-past}
use Rattle.pm_jobs.specs.State.{JobsState, ids}
use Rattle.pm_jobs.specs.Stands.{Told, told}
use Rattle.pm_jobs.specs.declared.standing.Standing as job
use Rattle.pm_close.specs.declared.crossing.Crossing.{Crossing}
use Rattle.pm_close.specs.Watched.{crossed_as, all_crossed}
use Rattle.pm_meas.specs.declared.cell.Cell.{Cell}
use Rattle.pm_close.specs.declared.cells.TickCells.{TickCells}
use Rattle.pm_close.specs.MonitorPlans.{TickEnds, EndsWithNow, all_told, crossings_in_place}
use Rattle.pm_close.proofs.KnownLemmas.{knows-now}

-- ---- answers

-- what each answer gives, one answer gives of each
pub on_ok-each : {A T E : Type 0} (P : A → Type 0) (r : Result T E) → ((a : A) → OnOk r (P a)) → OnOk r ((a : A) → P a)
on_ok-each P (Ok t) each = each
on_ok-each P (Err e) each = tt

pub if_ok-weaker : {T E : Type 0} (P Q : T → Type 0) (r : Result T E) → ((t : T) → P t → Q t) → IfOk r P → IfOk r Q
if_ok-weaker P Q (Ok t) weaker is = weaker t is
if_ok-weaker P Q (Err e) weaker is = tt

-- ---- places

pub at-place : {A : Type 0} (P : A → Type 0) (xs : List A) (k : ℕ) (x : A) → AllByRecursion P xs → slice_get xs k ≡ Some x → P x
at-place P [] k x all is = absurd cc
at-place P (y ∷ ys) zero x all is = subst P (same_Some y x is) all.0
at-place P (y ∷ ys) (suc k) x all is = at-place P ys k x all.1 is

pub id-there : (items : List job.Standing) (k : ℕ) (s : job.Standing) → slice_get items k ≡ Some s → get_or (ids items) k [] ≡ s.id
id-there [] k s is = absurd cc
id-there (t ∷ ts) zero s is = ap (λ (x : job.Standing). x.id) (same_Some t s is)
id-there (t ∷ ts) (suc k) s is = id-there ts k s is

pub told-in-place : (is : List (List ℕ)) (end k : ℕ) (id : List ℕ) (crossings : List Crossing) → get_or is k [] ≡ id
    → all_told is end (crossings_in_place k crossings) ≡ all_crossed id end crossings
told-in-place is end k id [] at = refl
told-in-place is end k id (c ∷ cs) at =
    let rest = told-in-place is end k id cs at in
    λ i. crossed_as (at i) end c ∷ rest i

-- ---- histories

-- by an end of a tick that an entry ends, nothing has come since
pub before-end : (h : History) (e : Entry) (tick : ℕ) → tick_of (last_moment h) ≤ tick → tick < tick_of (moment_of e)
    → before (60 * (tick + 1)) (h ▷ e) ≡ h
before-end h e tick over ends =
    before-stays h e (60 * (tick + 1)) (omega arith) ∙ before_all h (60 * (tick + 1)) (omega arith)

pub told-some : (o : Option Standing) (t : Told) → option_map told o ≡ Some t → (s : Standing) × (o ≡ Some s)
told-some None t is = absurd cc
told-some (Some s) t is = (s, refl)

module _ (terms : Side → List ℕ → Terms) where
  pub under-is : (h : History) (e : Entry) (tick : ℕ) (id : List ℕ) (s : Standing) → tick_of (last_moment h) ≤ tick
      → tick < tick_of (moment_of e) → standing_after terms Monitor h id ≡ Some s
      → crossings_under terms (h ▷ e) (tick + 1) id
      ≡ flat_map (crossings_by terms (h ▷ e) (making_of Monitor id s) (terms Monitor s.body).granularity s.armed (tick + 1))
      (terms Monitor s.body).watched
  under-is h e tick id s over ends there =
      ap (λ (g : History). crossings_of terms (h ▷ e) id (tick + 1) (standing_after terms Monitor g id)) (before-end h e tick over ends)
      ∙ ap (crossings_of terms (h ▷ e) id (tick + 1)) there

  pub at-end : (h : History) (e : Entry) (tick : ℕ) (is : List (List ℕ)) → tick_of (last_moment h) ≤ tick → tick < tick_of (moment_of e)
      → is ≡ ids_after Monitor h → flat_map (crossings_under terms (h ▷ e) (tick + 1)) is ≡ crossings_at terms (h ▷ e) (tick + 1)
  at-end h e tick is over ends listed =
      ap (flat_map (crossings_under terms (h ▷ e) (tick + 1)))
      (listed ∙ ap (ids_after Monitor) (sym (before-end h e tick over ends)))

pub at-id : (is : List (List ℕ)) (k : ℕ) (id : List ℕ) → get_or is k [] ≡ id → k < length is → get_or is k id ≡ id
at-id is k id at lt = get_or_default is k id [] lt ∙ at

-- ---- the ticks that a request ends

pub tick-ends : (inventory : InventoryState) (jobs : JobsState) (h : History) (m : ℕ) (kept : TickCells) (row : List Cell) (cut now : Bool)
    (tick open_tick t : ℕ) → EndsWithNow inventory jobs h m kept row cut tick → open_tick ≡ kept.first + kept.ticks
    → open_tick ≤ t → t < tick → now ≡ (cut && eqb t open_tick) → TickEnds inventory h m kept row now t
tick-ends inventory jobs h m kept row cut now tick open_tick t ends is from before now_is =
    let reach = ends.cells.reach in
    let up_to = ends.up_to in
    let at : open_tick ≡ tick_of (last_moment h) = is ∙ reach in
    record {
      history = ends.history.0;
      knows = knows-now (slots inventory) h m kept row ends.history.0 ends.open_tick ends.cells;
      over = omega (arith, at, from);
      ends = omega (arith, before, up_to);
      cut_is = by (cases_eq t open_tick) at ∙ sym now_is;
    }
  where
    and_true : (b : Bool) → (b && true) ≡ b
    and_true true = refl
    and_true false = refl

    and_false : (b : Bool) → (b && false) ≡ false
    and_false true = refl
    and_false false = refl

    by : (t ≡ open_tick) ⊎ (t ≢ open_tick) → open_tick ≡ tick_of (last_moment h) → is_cut h t ≡ (cut && eqb t open_tick)
    by (inl same) at =
        ap (is_cut h) (same ∙ at) ∙ ends.cut_is ∙ sym (ap (λ b. cut && b) (eq-eqb t open_tick same) ∙ and_true cut)
    by (inr apart) at =
        is_cut-past h t ends.history.0 (omega (arith, at, from, apart)) ∙ sym (ap (λ b. cut && b) (ne_eqb t open_tick apart) ∙ and_false cut)
