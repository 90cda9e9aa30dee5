-- What is kept over all jobs, as a plan is followed.
use Rattle.std.proofs.Common.{◌≡◌, ◌≤◌, ◌<◌, ◌+◌, ◌-◌, ℕ, Bool, false, List, length, get_or, Option, Some, None, refl, sym, ap, subst, ◌∙◌, arith, inl, inr}
use Rattle.std.specs.List.{insert, remove}
use Rattle.std.proofs.lemmas.Bool.{cases_lt}
use Rattle.std.proofs.lemmas.List.{length-map}
use Rattle.std.proofs.lemmas.List.Edits.{length-insert, get_or-insert_below, get_or-insert_at, get_or-insert_above, length-remove, get_or-remove_below, get_or-remove_above}
use Rattle.pm_base.specs.Moment.{tick_of}
use Rattle.pm_inventory.specs.Inventory.{InventoryState, SlotKey, slots}
use Rattle.pm_history.specs.declared.entry.Side.TheVariants.{Job, Monitor}
use Rattle.pm_history.specs.declared.entry.Entry.{Entry}
use Rattle.pm_history.specs.declared.entry.Entry.TheVariants.{JobMade, JobState, JobDeleted, MonitorMade, MonitorState, MonitorDeleted}
use Rattle.pm_history.specs.Entry.{moment_of}
use Rattle.pm_history.specs.History.{History, ◌▷◌, IsHistory, grown, is_cut, cuts, last_moment}
use Rattle.pm_history.proofs.TickLemmas.{or_false}
use Rattle.pm_jobs.specs.declared.standing.Standing.{Standing}
use Rattle.pm_jobs.specs.declared.plan.Plan.{Plan}
use Rattle.pm_jobs.specs.declared.plan.Plan.TheVariants.{Make, Same, Move, Already, Delete}
use Rattle.pm_jobs.specs.State.{JobsState, ids}
use Rattle.pm_jobs.specs.Plan.{Suits, entries_of, jobs_after, id_at}
use Rattle.pm_jobs.proofs.IdLemmas.{place-within}
use Rattle.pm_close.specs.declared.cells.TickCells.{TickCells}
use Rattle.pm_close.specs.declared.open_job.OpenJob.{OpenJob}
use Rattle.pm_close.specs.Cells.{CellsStand}
use Rattle.pm_close.specs.OpenJobs.{JobFits, JobsFit}
use Rattle.pm_close.specs.Following.{ComesWith, CanFollow, followed}
use Rattle.pm_close.proofs.StayLemmas.{cells-stay}
use Rattle.pm_close.proofs.JobFollowLemmas.{moved_at-length}

-- ---- lists

all-put : {X : Type 0} (P : X → Type 0) (xs : List X) (place : ℕ) (x : X) → place ≤ length xs → P x
    → ((k : ℕ) (d : X) → k < length xs → P (get_or xs k d)) → (k : ℕ) (d : X) → k < length (insert xs place x) → P (get_or (insert xs place x) k d)
all-put P xs place x within is all k d lt =
    let long = length-insert xs place x within in
    elim (cases_lt k place) [
      | inl below ↦ subst P (sym (get_or-insert_below xs place x d k below within)) (all k d (omega (arith, below, within)))
      | inr past ↦
          elim (cases_lt place k) [
            | inl above ↦
                let at : k - 1 + 1 ≡ k = omega (arith, above) in
                subst (λ i. P (get_or (insert xs place x) i d)) at
                (subst P (sym (get_or-insert_above xs place x d (k - 1) (omega (arith, above)) within))
                (all (k - 1) d (omega (arith, lt, long, above))))
            | inr up ↦
                let at : place ≡ k = omega (arith, past, up) in
                subst (λ i. P (get_or (insert xs place x) i d)) at (subst P (sym (get_or-insert_at xs place x d within)) is)
          ]
    ]

all-without : {X : Type 0} (P : X → Type 0) (xs : List X) (place : ℕ) → place < length xs
    → ((k : ℕ) (d : X) → k < length xs → P (get_or xs k d)) → (k : ℕ) (d : X) → k < length (remove xs place) → P (get_or (remove xs place) k d)
all-without P xs place within all k d lt =
    let fewer = length-remove xs place within in
    elim (cases_lt k place) [
      | inl below ↦ subst P (sym (get_or-remove_below xs place d k below within)) (all k d (omega (arith, below, within)))
      | inr past ↦ subst P (sym (get_or-remove_above xs place d k past within)) (all (k + 1) d (omega (arith, lt, fewer)))
    ]

-- ---- plans

pub can-follow : (inventory : InventoryState) (tick : ℕ) (jobs : JobsState) (kept : List OpenJob) (plan : Plan) (made : Option OpenJob)
    → length jobs.jobs ≡ length kept → Suits jobs plan → ComesWith inventory tick plan made → CanFollow kept plan made
can-follow inventory tick jobs kept (Make Job place s) (Some job) paired suits comes =
    let at = suits.at in
    let few = suits.few in
    let within = place-within s.id (ids jobs.jobs) in
    let long = length-map jobs.jobs (λ (t : Standing). t.id) in
    (omega (arith, at, within, long, paired), omega (arith, few, paired))
can-follow inventory tick jobs kept (Make Job place s) None paired suits comes = absurd comes
can-follow inventory tick jobs kept (Make Monitor place s) made paired suits comes = tt
can-follow inventory tick jobs kept Same made paired suits comes = tt
can-follow inventory tick jobs kept (Move side place unlocked moment) made paired suits comes = tt
can-follow inventory tick jobs kept Already made paired suits comes = tt
can-follow inventory tick jobs kept (Delete Job place moment) made paired suits comes = omega (arith, suits, paired)
can-follow inventory tick jobs kept (Delete Monitor place moment) made paired suits comes = tt

pub paired-after : (jobs : JobsState) (kept : List OpenJob) (plan : Plan) (made : Option OpenJob)
    → length jobs.jobs ≡ length kept → CanFollow kept plan made → length (jobs_after jobs plan).jobs ≡ length (followed kept plan made)
paired-after jobs kept (Make Job place s) (Some job) paired can =
    let one = length-insert jobs.jobs place s (omega (arith, can.0, paired)) in
    let other = length-insert kept place job can.0 in
    omega (arith, one, other, paired)
paired-after jobs kept (Make Job place s) None paired can = absurd can
paired-after jobs kept (Make Monitor place s) made paired can = paired
paired-after jobs kept Same made paired can = paired
paired-after jobs kept (Move Job place unlocked moment) made paired can = moved_at-length moment unlocked place jobs.jobs ∙ paired
paired-after jobs kept (Move Monitor place unlocked moment) made paired can = paired
paired-after jobs kept Already made paired can = paired
paired-after jobs kept (Delete Job place moment) made paired can =
    let one = length-remove jobs.jobs place (omega (arith, can, paired)) in
    let other = length-remove kept place can in
    omega (arith, one, other, paired)
paired-after jobs kept (Delete Monitor place moment) made paired can = paired

pub fits-after : (inventory : InventoryState) (cells : TickCells) (kept : List OpenJob) (plan : Plan) (made : Option OpenJob)
    → cells.slots ≡ length (slots inventory) → ComesWith inventory (cells.first + cells.ticks) plan made → CanFollow kept plan made
    → JobsFit cells kept → JobsFit cells (followed kept plan made)
fits-after inventory cells kept (Make Job place s) (Some job) wide comes can fit =
    all-put (JobFits cells) kept place job can.0 (comes.fits cells wide refl) fit
fits-after inventory cells kept (Make Job place s) None wide comes can fit = absurd can
fits-after inventory cells kept (Make Monitor place s) made wide comes can fit = fit
fits-after inventory cells kept Same made wide comes can fit = fit
fits-after inventory cells kept (Move side place unlocked moment) made wide comes can fit = fit
fits-after inventory cells kept Already made wide comes can fit = fit
fits-after inventory cells kept (Delete Job place moment) made wide comes can fit = all-without (JobFits cells) kept place can fit
fits-after inventory cells kept (Delete Monitor place moment) made wide comes can fit = fit

-- cells and cuts stay with a change
record Stay (keys : List SlotKey) (h : History) (cells : TickCells) (cut : Bool) : Type 0 where
  cells_stand : CellsStand keys h cells
  boots : is_cut h (tick_of (last_moment h)) ≡ cut

stay : (keys : List SlotKey) (h : History) (e : Entry) (cells : TickCells) (cut : Bool)
    → cuts h e (tick_of (last_moment h)) ≡ false → moment_of e ≡ last_moment h → Stay keys h cells cut → Stay keys (h ▷ e) cells cut
stay keys h e cells cut uncut at old = record {
  cells_stand = cells-stay keys h e cells (omega (arith, at)) (ap tick_of at) old.cells_stand;
  boots =
      ap (λ m. is_cut (h ▷ e) (tick_of m)) at
      ∙ (or_false (is_cut h (tick_of (last_moment h))) (cuts h e (tick_of (last_moment h))) uncut ∙ old.boots);
}

all-stay : (keys : List SlotKey) (jobs : JobsState) (h : History) (plan : Plan) (cells : TickCells) (cut : Bool)
    → IsHistory (grown h (entries_of jobs plan)) → Stay keys h cells cut → Stay keys (grown h (entries_of jobs plan)) cells cut
all-stay keys jobs h (Make Job place s) cells cut is old = stay keys h (JobMade s.changed s.id s.body) cells cut refl (is.1.beside refl).1 old
all-stay keys jobs h (Make Monitor place s) cells cut is old = stay keys h (MonitorMade s.changed s.id s.body) cells cut refl (is.1.beside refl).1 old
all-stay keys jobs h Same cells cut is old = old
all-stay keys jobs h (Move Job place unlocked moment) cells cut is old =
    stay keys h (JobState moment (id_at jobs Job place) unlocked) cells cut refl (is.1.beside refl).1 old
all-stay keys jobs h (Move Monitor place unlocked moment) cells cut is old =
    stay keys h (MonitorState moment (id_at jobs Monitor place) unlocked) cells cut refl (is.1.beside refl).1 old
all-stay keys jobs h Already cells cut is old = old
all-stay keys jobs h (Delete Job place moment) cells cut is old =
    stay keys h (JobDeleted moment (id_at jobs Job place)) cells cut refl (is.1.beside refl).1 old
all-stay keys jobs h (Delete Monitor place moment) cells cut is old =
    stay keys h (MonitorDeleted moment (id_at jobs Monitor place)) cells cut refl (is.1.beside refl).1 old

pub stays-along : (keys : List SlotKey) (jobs : JobsState) (h : History) (plan : Plan) (cells : TickCells) (cut : Bool)
    → IsHistory (grown h (entries_of jobs plan)) → CellsStand keys h cells → is_cut h (tick_of (last_moment h)) ≡ cut
    → CellsStand keys (grown h (entries_of jobs plan)) cells
    × (is_cut (grown h (entries_of jobs plan)) (tick_of (last_moment (grown h (entries_of jobs plan)))) ≡ cut)
stays-along keys jobs h plan cells cut is stand boots =
    let both = all-stay keys jobs h plan cells cut is (record { cells_stand = stand; boots = boots }) in
    (both.cells_stand, both.boots)
