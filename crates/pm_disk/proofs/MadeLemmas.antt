-- A recorded call is a step of the disk.
use Rattle.std.proofs.Common.{◌≡◌, ℕ, Bool, true, false, if◌then◌else◌, List, [], ◌∷◌, ◌++◌, length, ◌+◌, ◌≤◌, Result, Ok, Err, OnOk, OnErr, take, drop, length-append, length-take, length-drop, inl, inr, refl, sym, ◌∙◌, ap, subst, arith}
use Rattle.pm_disk.specs.declared.area.Area.{Area}
use Rattle.pm_disk.specs.declared.area.Area.TheVariants.{First, Second}
use Rattle.pm_disk.specs.Area.{AreaState, IsWrite, IsCut, IsSync, overwritten}
use Rattle.pm_disk.specs.Moments.{DiskState, Told, IsStep, of, other}
use Rattle.pm_disk.specs.Memory.{Tells}
use Rattle.pm_disk.specs.Record.{made}
use Rattle.pm_disk.specs.declared.memory.MemDisk.{MemDisk}
use Rattle.std.specs.Result.{is_ok}
use Rattle.pm_disk.specs.Made.{Made, Wrote, CutTo, Synced, Looked, written_to, cut_to, synced_to, with_area, then_state, told_after, replayed, blank}

-- The last call is a step from what the others made.
pub replayed_push : (told : Told) (calls : List Made) (call : Made)
    → replayed told (calls ++ call ∷ []) ≡ told_after (replayed told calls) call
replayed_push told [] call = refl
replayed_push told (first ∷ calls) call = replayed_push (told_after told first) calls call

pub replayed_is : (calls calls' : List Made) (call : Made) → calls' ≡ calls ++ call ∷ []
    → replayed blank calls' ≡ told_after (replayed blank calls) call
replayed_is calls calls' call is = ap (λ (cs : List Made). replayed blank cs) is ∙ replayed_push blank calls call

pub with_this : (disk : DiskState) (area : Area) (new : AreaState) → of (with_area disk area new) area ≡ new
with_this disk First new = refl
with_this disk Second new = refl

pub with_that : (disk : DiskState) (area : Area) (new : AreaState)
    → of (with_area disk area new) (other area) ≡ of disk (other area)
with_that disk First new = refl
with_that disk Second new = refl

-- What holds of an area and of the other one holds of each.
pub both : (P : Area → Type 0) (area : Area) → P area → P (other area) → (a : Area) → P a
both P First this that First = this
both P First this that Second = that
both P Second this that First = that
both P Second this that Second = this

step_to : (area : Area) (step : AreaState → AreaState → Type 0) (told new : Told) (state : AreaState)
    → new ≡ then_state told (with_area told.now area state) → step (of told.now area) state → IsStep area step told new
step_to area step told new state is one = subst (λ (t : Told). IsStep area step told t) (sym is) (record {
  past = inl refl;
  this = subst (λ (a : AreaState). step (of told.now area) a) (sym (with_this told.now area state)) one;
  that = with_that told.now area state;
})

is_write : {E : Type 0} (area : AreaState) (at : ℕ) (bytes : List ℕ) (done : Bool) (result : Result Unit E)
    → OnOk result (done ≡ true) → IsWrite at bytes result area (written_to area at bytes done)
is_write area at bytes done result when = record { synced = refl; least = refl; greatest = omega arith; written = inl refl; seen = seen result when }
  where
    seen : {E : Type 0} (r : Result Unit E) → OnOk r (done ≡ true)
        → OnOk r ((if done then overwritten area.seen at bytes else area.seen) ≡ overwritten area.seen at bytes)
    seen (Ok u) holds = ap (λ (b : Bool). if b then overwritten area.seen at bytes else area.seen) holds
    seen (Err e) none = tt

pub step_write : {E : Type 0} (area : Area) (at : ℕ) (bytes : List ℕ) (done : Bool) (result : Result Unit E) (calls calls' : List Made)
    → calls' ≡ calls ++ Wrote area at bytes done ∷ [] → OnOk result (done ≡ true)
    → IsStep area (IsWrite at bytes result) (replayed blank calls) (replayed blank calls')
step_write area at bytes done result calls calls' is when =
    let told = replayed blank calls in
    step_to area (IsWrite at bytes result) told (replayed blank calls') (written_to (of told.now area) at bytes done) (replayed_is calls calls' (Wrote area at bytes done) is) (is_write (of told.now area) at bytes done result when)

is_cut : {E : Type 0} (area : AreaState) (to : ℕ) (done : Bool) (result : Result Unit E) → OnOk result (done ≡ true)
    → IsCut to result area (cut_to area to done)
is_cut area to done result when = record { synced = refl; least = omega arith; greatest = omega arith; written = refl; seen = seen result when }
  where
    seen : {E : Type 0} (r : Result Unit E) → OnOk r (done ≡ true)
        → OnOk r ((if done then take to area.seen else area.seen) ≡ take to area.seen)
    seen (Ok u) holds = ap (λ (b : Bool). if b then take to area.seen else area.seen) holds
    seen (Err e) none = tt

pub step_cut : {E : Type 0} (area : Area) (to : ℕ) (done : Bool) (result : Result Unit E) (calls calls' : List Made)
    → calls' ≡ calls ++ CutTo area to done ∷ [] → OnOk result (done ≡ true)
    → IsStep area (IsCut to result) (replayed blank calls) (replayed blank calls')
step_cut area to done result calls calls' is when =
    let told = replayed blank calls in
    step_to area (IsCut to result) told (replayed blank calls') (cut_to (of told.now area) to done) (replayed_is calls calls' (CutTo area to done) is) (is_cut (of told.now area) to done result when)

is_sync : {E : Type 0} (area : AreaState) (done : Bool) (result : Result Unit E) → OnOk result (done ≡ true)
    → OnErr result (done ≡ false) → IsSync result area (synced_to area done)
is_sync area done (Ok u) holds none = record { done = ap (synced_to area) holds; failed = tt }
is_sync area done (Err e) none holds = record { done = tt; failed = ap (synced_to area) holds }

pub step_sync : {E : Type 0} (area : Area) (done : Bool) (result : Result Unit E) (calls calls' : List Made)
    → calls' ≡ calls ++ Synced area done ∷ [] → OnOk result (done ≡ true) → OnErr result (done ≡ false)
    → IsStep area (IsSync result) (replayed blank calls) (replayed blank calls')
step_sync area done result calls calls' is when unless =
    let told = replayed blank calls in
    step_to area (IsSync result) told (replayed blank calls') (synced_to (of told.now area) done) (replayed_is calls calls' (Synced area done) is) (is_sync (of told.now area) done result when unless)

-- A call that looks tells nothing new.
pub replayed_looked : (calls calls' : List Made) → calls' ≡ calls ++ Looked ∷ [] → replayed blank calls' ≡ replayed blank calls
replayed_looked calls calls' is = replayed_is calls calls' Looked is

-- The contents read as the calls made them, before a call on an area and after it.
pub reads_on : (old new : Area → List ℕ) (told told' : Told) (area : Area) (state : AreaState)
    → ((a : Area) → old a ≡ (of told.now a).seen) → told' ≡ then_state told (with_area told.now area state)
    → new area ≡ state.seen → new (other area) ≡ old (other area) → (a : Area) → new a ≡ (of told'.now a).seen
reads_on old new told told' area state reads is this that =
    both (λ (a : Area). new a ≡ (of told'.now a).seen) area
    (this ∙ sym (ap (λ (t : Told). (of t.now area).seen) is ∙ ap (λ (a : AreaState). a.seen) (with_this told.now area state)))
    (that ∙ reads (other area) ∙ sym (ap (λ (t : Told). (of t.now (other area)).seen) is ∙ ap (λ (a : AreaState). a.seen) (with_that told.now area state)))

pub synced_seen : (area : AreaState) (done : Bool) → (synced_to area done).seen ≡ area.seen
synced_seen area true = refl
synced_seen area false = refl

-- How long the areas are.
pub small_on : (old new : Area → List ℕ) (area : Area) (kept kept' : ℕ) → ((a : Area) → length (old a) ≤ kept) → kept ≤ kept'
    → length (new area) ≤ kept' → new (other area) ≡ old (other area) → (a : Area) → length (new a) ≤ kept'
small_on old new area kept kept' small le this that =
    both (λ (a : Area). length (new a) ≤ kept') area this (omega (arith, small (other area), le, ap length that))

-- The contents read as the calls made them.
abbrev pub Reads : (Area → List ℕ) → List Made → Type 0
Reads contents calls = (area : Area) → contents area ≡ (of (replayed blank calls).now area).seen

pub reads_looked : (contents : Area → List ℕ) (calls calls' : List Made) → Reads contents calls → calls' ≡ calls ++ Looked ∷ []
    → Reads contents calls'
reads_looked contents calls calls' reads is = λ area. reads area ∙ sym (ap (λ (t : Told). (of t.now area).seen) (replayed_looked calls calls' is))

pub reads_synced : (contents : Area → List ℕ) (calls calls' : List Made) (area : Area) (done : Bool) → Reads contents calls
    → calls' ≡ calls ++ Synced area done ∷ [] → Reads contents calls'
reads_synced contents calls calls' area done reads is =
    let told = replayed blank calls in
    let state = synced_to (of told.now area) done in
    reads_on contents contents told (replayed blank calls') area state reads (replayed_is calls calls' (Synced area done) is) (reads area ∙ sym (synced_seen (of told.now area) done)) refl

pub reads_cut : (old new : Area → List ℕ) (calls calls' : List Made) (area : Area) (to : ℕ) (done : Bool) → Reads old calls
    → calls' ≡ calls ++ CutTo area to done ∷ [] → new area ≡ (if done then take to (old area) else old area)
    → new (other area) ≡ old (other area) → Reads new calls'
reads_cut old new calls calls' area to done reads is this that =
    let told = replayed blank calls in
    let state = cut_to (of told.now area) to done in
    reads_on old new told (replayed blank calls') area state reads (replayed_is calls calls' (CutTo area to done) is) (this ∙ ap (λ (l : List ℕ). if done then take to l else l) (reads area)) that

pub reads_wrote : (old new : Area → List ℕ) (calls calls' : List Made) (area : Area) (at : ℕ) (bytes : List ℕ) (done : Bool)
    → Reads old calls → calls' ≡ calls ++ Wrote area at bytes done ∷ []
    → new area ≡ (if done then overwritten (old area) at bytes else old area) → new (other area) ≡ old (other area)
    → Reads new calls'
reads_wrote old new calls calls' area at bytes done reads is this that =
    let told = replayed blank calls in
    let state = written_to (of told.now area) at bytes done in
    reads_on old new told (replayed blank calls') area state reads (replayed_is calls calls' (Wrote area at bytes done) is) (this ∙ ap (λ (l : List ℕ). if done then overwritten l at bytes else l) (reads area)) that

pub length-overwritten_le : (old bytes : List ℕ) (at kept : ℕ) → at ≤ length old → length old ≤ kept
    → length (overwritten old at bytes) ≤ kept + length bytes
length-overwritten_le old bytes at kept inside le =
    omega (arith, inside, le, length-append (take at old ++ bytes) (drop (at + length bytes) old), length-append (take at old) bytes, length-take at old, length-drop (at + length bytes) old)

-- A write that isn't begun is the step of a failed write that leaves all as it was.
pub refused_write : {E : Type 0} (area : Area) (at : ℕ) (bytes : List ℕ) (e : E) (told told' : Told) → told' ≡ told
    → let failed : Result Unit E = Err e in IsStep area (IsWrite at bytes failed) told told'
refused_write {E} area at bytes e told told' is = let failed : Result Unit E = Err e in subst (λ (t : Told). IsStep area (IsWrite at bytes failed) told t) (sym is) (record {
  past = inr refl;
  this = record { synced = refl; least = refl; greatest = omega arith; written = inr refl; seen = tt };
  that = refl;
})

-- A call that is begun makes what it makes, done or failed.
pub tells_begun : {E : Type 0} (stops : Type 0) (call : Bool → Made) (result : Result Unit E) (old new : MemDisk) → ¬ stops
    → made new.calls ≡ made old.calls ++ call (is_ok result) ∷ [] → Tells stops call result old new
tells_begun stops call result old new goes is = record {
  refused = λ stop. absurd (goes stop);
  begun = λ _. replayed_is (made old.calls) (made new.calls) (call (is_ok result)) is;
}

-- One that isn't begun tells nothing new.
pub tells_refused : {E : Type 0} (stops : Type 0) (call : Bool → Made) (result : Result Unit E) (old new : MemDisk) → stops
    → made new.calls ≡ made old.calls ++ Looked ∷ [] → Tells stops call result old new
tells_refused stops call result old new stop is = record {
  refused = λ _. replayed_looked (made old.calls) (made new.calls) is;
  begun = λ goes. absurd (goes stop);
}

pub small_same : (contents : Area → List ℕ) (kept kept' : ℕ) → ((area : Area) → length (contents area) ≤ kept) → kept ≤ kept'
    → (area : Area) → length (contents area) ≤ kept'
small_same contents kept kept' small le = λ area. omega (arith, small area, le)
