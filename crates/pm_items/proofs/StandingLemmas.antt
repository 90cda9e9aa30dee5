-- What exists under an id in two histories, whatever its place.
use Rattle.std.proofs.Common.{◌≡◌, ℕ, ◌*◌, ◌<◌, ◌≤◌, Bool, true, false, ◌&&◌, cond, leb, ltb, List, Option, Some, None, refl, sym, ap, ◌∙◌, arith}
use Rattle.std.proofs.lemmas.Bool.{and_left, and_right, ne_eqb}
use Rattle.std.specs.Option.{option_map}
use Rattle.pm_base.specs.Moment.{tick_of}
use Rattle.pm_history.specs.declared.entry.Side.{Side}
use Rattle.pm_history.specs.declared.entry.Entry.{Entry}
use Rattle.pm_history.specs.declared.entry.Entry.TheVariants.{Boot}
use Rattle.pm_history.specs.Entry.{moment_of, Change, Made, Moved, Deleted}
use Rattle.pm_history.specs.History.{History, Start, ◌▷◌, size, last_moment, before, first_cut, cuts}
use Rattle.pm_history.specs.Terms.{Terms}
use Rattle.pm_history.specs.Standing.{Making, Standing, moved, runs, after_change, standing_after}
use Rattle.pm_history.specs.Counted.{ran, is_counted}
use Rattle.pm_history.proofs.StandingLemmas.{place-lt}
use Rattle.pm_items.specs.Alike.{is_begun, unplaced}

-- ---- histories that are begun alike, with the last moment in one tick

first_cut-same : (g h : History) (m : ℕ) → is_begun g ≡ is_begun h → tick_of (last_moment g) ≡ tick_of (last_moment h)
    → first_cut g m ≡ first_cut h m
first_cut-same Start Start m begun tick = refl
first_cut-same Start (h ▷ e) m begun tick = absurd cc
first_cut-same (g ▷ d) Start m begun tick = absurd cc
first_cut-same (g ▷ d) (h ▷ e) m begun tick = tick

pub cuts-same : (g h : History) (e : Entry) (t : ℕ) → is_begun g ≡ is_begun h
    → tick_of (last_moment g) ≡ tick_of (last_moment h) → cuts g e t ≡ cuts h e t
cuts-same g h (Boot m) t begun tick = ap (λ n. leb n t && leb t (tick_of m)) (first_cut-same g h m begun tick)
cuts-same g h _ t begun tick = refl

-- ---- what exists under an id, whatever its place

pub map_some : {A : Type 0} (f : A → A) (y : A) (o : Option A) → option_map f o ≡ Some y → (x : A) × (o ≡ Some x) × (f x ≡ y)
map_some f y None h = absurd cc
map_some f y (Some x) h = (x, refl, cc)

unplaced-moved : (m : ℕ) (u : Bool) (s : Standing) → unplaced (moved m u s) ≡ moved m u (unplaced s)
unplaced-moved m true s = refl
unplaced-moved m false s = refl

map-moved : (m : ℕ) (u : Bool) (o : Option Standing)
    → option_map unplaced (option_map (moved m u) o) ≡ option_map (moved m u) (option_map unplaced o)
map-moved m u None = refl
map-moved m u (Some s) = ap Some (unplaced-moved m u s)

pub moved-place : (m : ℕ) (u : Bool) (s : Standing) → (moved m u s).place ≡ s.place
moved-place m true s = refl
moved-place m false s = refl

-- what exists in both is the same, but for its place
pub both-exist : (o p : Option Standing) (s r : Standing) → option_map unplaced o ≡ option_map unplaced p → o ≡ Some s
    → p ≡ Some r → unplaced s ≡ unplaced r
both-exist o p s r same is ir =
    let path : Some (unplaced s) ≡ Some (unplaced r) = ap (option_map unplaced) (sym is) ∙ (same ∙ ap (option_map unplaced) ir) in
    cc

abbrev pub place_or : Option Standing → ℕ
place_or None = 0
place_or (Some s) = s.place

module _ (terms : Side → List ℕ → Terms) where
  pub after_change-same : (side : Side) (i j m : ℕ) (o p : Option Standing) (c : Option Change)
      → option_map unplaced o ≡ option_map unplaced p
      → option_map unplaced (after_change terms side i m o c) ≡ option_map unplaced (after_change terms side j m p c)
  after_change-same side i j m o p None same = same
  after_change-same side i j m o p (Some (Made body)) same = refl
  after_change-same side i j m o p (Some (Moved u)) same =
      map-moved m u o ∙ (ap (option_map (moved m u)) same ∙ sym (map-moved m u p))
  after_change-same side i j m o p (Some Deleted) same = refl

  -- ---- what is made now ran in no tick

  before-size : (m : ℕ) (h : History) → size (before m h) ≤ size h
  before-size m Start = omega arith
  before-size m (h ▷ e) = by (ltb (moment_of e) m) (before-size m h)
    where
      by : (b : Bool) → size (before m h) ≤ size h → size (cond b (h ▷ e) (before m h)) ≤ size (h ▷ e)
      by true le = omega arith
      by false le = omega arith

  runs-not : (place : ℕ) (o : Option Standing) → ((s : Standing) → o ≡ Some s → s.place < place) → runs place o ≡ false
  runs-not place None f = refl
  runs-not place (Some s) f = let lt = f s refl in and_left _ _ (ne_eqb s.place place (λ same. omega arith))

  pub uncounted : (h : History) (w : Making) (t : ℕ) → size h ≤ w.place → is_counted terms h w t ≡ false
  uncounted h w t le =
      let small = before-size (60 * t) h in
      let not_ran : ran terms h w t ≡ false =
      runs-not w.place (standing_after terms w.side (before (60 * t) h) w.id) (λ s is. let lt = place-lt terms w.side (before (60 * t) h) w.id s is in omega arith) in
      and_left _ _ (and_right _ _ not_ran)
