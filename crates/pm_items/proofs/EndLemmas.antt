-- The files and notices of the ends that an entry brings, after each of two histories that are alike.
use Rattle.std.proofs.Common.{◌≡◌, ℕ, ◌-◌, ◌*◌, ◌<◌, ◌≤◌, cond, List, [], ◌∷◌, ◌++◌, map, Option, Some, None, refl, sym, ap, ◌∙◌, arith}
use Rattle.std.specs.List.{flat_map}
use Rattle.std.specs.Option.{option_map}
use Rattle.pm_base.specs.Moment.{tick_of}
use Rattle.pm_history.specs.declared.entry.Side.{Side}
use Rattle.pm_history.specs.declared.entry.Side.TheVariants.{Job, Monitor}
use Rattle.pm_history.specs.declared.entry.Entry.{Entry}
use Rattle.pm_history.specs.Entry.{moment_of}
use Rattle.pm_history.specs.History.{History, ◌▷◌, last_moment, IsHistory, MayFollow, before}
use Rattle.pm_history.specs.Terms.{Terms}
use Rattle.pm_history.specs.Ticks.{behind}
use Rattle.pm_history.specs.Standing.{Standing, making_of, standing_after, ids_after}
use Rattle.pm_history.specs.Files.{report_of, is_due, file_of, files_at, files_of}
use Rattle.pm_history.specs.Notices.{crossings_by, crossings_of, crossings_at, notices_at, notices_of, FileReady, Crossing}
use Rattle.pm_history.proofs.TickLemmas.{behind-same}
use Rattle.pm_history.proofs.HistoryLemmas.{before_all, before-stays}
use Rattle.pm_history.proofs.StayLemmas.{flat_map-same, files_of-next, notices_of-next}
use Rattle.pm_items.specs.Alike.{unplaced, AreAlike}
use Rattle.pm_items.proofs.MeasuredLemmas.{have-same, file-same}
use Rattle.pm_items.proofs.SequenceLemmas.{crossings-same}

same-some : (s t : Standing) → Some (unplaced s) ≡ Some (unplaced t) → unplaced s ≡ unplaced t
same-some s t is = cc

-- the entry changes nothing of what exists
module _ (terms : Side → List ℕ → Terms) (g h : History) (e : Entry)
    (history : IsHistory (g ▷ e)) (old : AreAlike terms g h) (new : AreAlike terms (g ▷ e) (h ▷ e))
    (keeps_g : (side : Side) (id : List ℕ) → standing_after terms side (g ▷ e) id ≡ standing_after terms side g id)
    (keeps_h : (side : Side) (id : List ℕ) → standing_after terms side (h ▷ e) id ≡ standing_after terms side h id)
  where
    file-by : (id : List ℕ) (end : ℕ) → end ≤ tick_of (moment_of e) → (o p : Option Standing)
        → standing_after terms Job g id ≡ o → standing_after terms Job h id ≡ p
        → option_map unplaced o ≡ option_map unplaced p → file_of terms (g ▷ e) id end o ≡ file_of terms (h ▷ e) id end p
    file-by id end within None None is ir same = refl
    file-by id end within None (Some r) is ir same = absurd cc
    file-by id end within (Some s) None is ir same = absurd cc
    file-by id end within (Some s) (Some r) is ir same =
        let one = same-some s r same in
        let w = making_of Job id r in
        let both = have-same terms (g ▷ e) (h ▷ e) Job id s r history new (keeps_g Job id ∙ is) (keeps_h Job id ∙ ir) in
        file-same terms (g ▷ e) (h ▷ e) (making_of Job id s) w (tick_of (moment_of e)) both (terms Job s.body) end within
        ∙ (λ i. cond (is_due terms (h ▷ e) w (terms Job (one i).body) end) (report_of terms (h ▷ e) w (terms Job (one i).body) end ∷ []) [])

    crossings-by : (id : List ℕ) (end : ℕ) → end ≤ tick_of (moment_of e) → (o p : Option Standing)
        → standing_after terms Monitor g id ≡ o → standing_after terms Monitor h id ≡ p
        → option_map unplaced o ≡ option_map unplaced p
        → crossings_of terms (g ▷ e) id end o ≡ crossings_of terms (h ▷ e) id end p
    crossings-by id end within None None is ir same = refl
    crossings-by id end within None (Some r) is ir same = absurd cc
    crossings-by id end within (Some s) None is ir same = absurd cc
    crossings-by id end within (Some s) (Some r) is ir same =
        let one = same-some s r same in
        let w = making_of Monitor id r in
        let t = terms Monitor s.body in
        let both = have-same terms (g ▷ e) (h ▷ e) Monitor id s r history new (keeps_g Monitor id ∙ is) (keeps_h Monitor id ∙ ir) in
        crossings-same terms (g ▷ e) (h ▷ e) (making_of Monitor id s) w (tick_of (moment_of e)) both t.granularity s.armed end t.watched within
        ∙ (λ i. flat_map (crossings_by terms (h ▷ e) w (terms Monitor (one i).body).granularity (one i).armed end) (terms Monitor (one i).body).watched)

    before-is : (x : History) (end : ℕ) → tick_of (last_moment x) < end → end ≤ tick_of (moment_of e)
        → before (60 * end) (x ▷ e) ≡ x
    before-is x end lt within = before-stays x e (60 * end) (omega arith) ∙ before_all x (60 * end) (omega arith)

    files_at-same : (end : ℕ) → tick_of (last_moment g) < end → end ≤ tick_of (moment_of e)
        → files_at terms (g ▷ e) end ≡ files_at terms (h ▷ e) end
    files_at-same end lt within =
        let tick = old.tick in
        let bg = before-is g end lt within in
        let bh = before-is h end (omega (arith, tick)) within in
        ap (λ b. flat_map (λ id. file_of terms (g ▷ e) id end (standing_after terms Job b id)) (ids_after Job b)) bg
        ∙ (flat_map-same _ _ (ids_after Job g) (λ id. file-by id end within _ _ refl refl (old.standing Job id))
        ∙ (ap (flat_map (λ id. file_of terms (h ▷ e) id end (standing_after terms Job h id))) (old.ids Job)
        ∙ sym (ap (λ b. flat_map (λ id. file_of terms (h ▷ e) id end (standing_after terms Job b id)) (ids_after Job b)) bh)))

    crossings_at-same : (end : ℕ) → tick_of (last_moment g) < end → end ≤ tick_of (moment_of e)
        → crossings_at terms (g ▷ e) end ≡ crossings_at terms (h ▷ e) end
    crossings_at-same end lt within =
        let tick = old.tick in
        let bg = before-is g end lt within in
        let bh = before-is h end (omega (arith, tick)) within in
        ap (λ b. flat_map (λ id. crossings_of terms (g ▷ e) id end (standing_after terms Monitor b id)) (ids_after Monitor b)) bg
        ∙ (flat_map-same _ _ (ids_after Monitor g) (λ id. crossings-by id end within _ _ refl refl (old.standing Monitor id))
        ∙ (ap (flat_map (λ id. crossings_of terms (h ▷ e) id end (standing_after terms Monitor h id))) (old.ids Monitor)
        ∙ sym (ap (λ b. flat_map (λ id. crossings_of terms (h ▷ e) id end (standing_after terms Monitor b id)) (ids_after Monitor b)) bh)))

    notices_at-same : (end : ℕ) → tick_of (last_moment g) < end → end ≤ tick_of (moment_of e)
        → notices_at terms (g ▷ e) end ≡ notices_at terms (h ▷ e) end
    notices_at-same end lt within =
        let files = files_at-same end lt within in
        let crossings = crossings_at-same end lt within in
        λ i. map FileReady (files i) ++ map Crossing (crossings i)

    pub files-opening : MayFollow h e → files_of terms g ≡ files_of terms h → files_of terms (g ▷ e) ≡ files_of terms (h ▷ e)
    files-opening follows files =
        let tick = old.tick in
        let first = tick_of (last_moment g) in
        let gap = tick_of (moment_of e) - first in
        let later = history.1.later in
        let new_files = behind-same (files_at terms (g ▷ e)) (files_at terms (h ▷ e)) first gap (λ k lt le. files_at-same k lt (omega arith)) in
        let from_tick = ap (λ t. behind (files_at terms (h ▷ e)) t (tick_of (moment_of e) - t)) tick in
        files_of-next terms g e later
        ∙ ((λ i. files i ++ (new_files ∙ from_tick) i) ∙ sym (files_of-next terms h e follows.later))

    pub notices-opening : MayFollow h e → notices_of terms g ≡ notices_of terms h
        → notices_of terms (g ▷ e) ≡ notices_of terms (h ▷ e)
    notices-opening follows notices =
        let tick = old.tick in
        let first = tick_of (last_moment g) in
        let gap = tick_of (moment_of e) - first in
        let later = history.1.later in
        let new_notices = behind-same (notices_at terms (g ▷ e)) (notices_at terms (h ▷ e)) first gap (λ k lt le. notices_at-same k lt (omega arith)) in
        let from_tick = ap (λ t. behind (notices_at terms (h ▷ e)) t (tick_of (moment_of e) - t)) tick in
        notices_of-next terms g e later
        ∙ ((λ i. notices i ++ (new_notices ∙ from_tick) i) ∙ sym (notices_of-next terms h e follows.later))
