-- A text has one refusal, and none where it is a file name.
use Rattle.std.proofs.Common.{◌≢◌, Result, Err, ◌≡◌, ℕ, zero, suc, ◌+◌, ◌-◌, ◌<◌, ◌≤◌, inl, inr, List, ◌++◌, Option, codes, refl, sym, ap, ◌∙◌, subst, arith}
use Rattle.std.proofs.lemmas.Bool.{cases_order}
use Rattle.pm_name.specs.FileName.{FileType, SaysFileName}
use Rattle.pm_name.specs.declared.error.NameError.{NameError}
use Rattle.pm_name.specs.declared.error.NameError.TheVariants.{F1, F2, F3, F4, F5, F6, F7, Memory}
use Rattle.pm_name.specs.Reading.{ReadsType, ReadsDate, ReadsStart, ReadsEndDate, ReadsJob, ReadsUnique, ToStartDate, ToStart, ToEndDate, ToEnd, ToJob, Refuses}
use Rattle.pm_name.proofs.ReadingLemmas.{ReadsType-one, ToStartDate-one, ToStart-one, ToEndDate-one, ToEnd-one, ToJob-one, moved-end}
use Rattle.pm_name.proofs.NameLemmas.{name-read}

-- the first n parts stand
abbrev HasParts : ℕ → List ℕ → Type 0
HasParts zero b = Unit {0}
HasParts (suc zero) b = (k : FileType) × (r : List ℕ) × ReadsType b k r
HasParts (suc (suc zero)) b = (k : FileType) × (d : ℕ) × (r : List ℕ) × ToStartDate b k d r
HasParts (suc (suc (suc zero))) b = (k : FileType) × (m : ℕ) × (r : List ℕ) × ToStart b k m r
HasParts (suc (suc (suc (suc zero)))) b =
    (k : FileType) × (m : ℕ) × (d : Option ℕ) × (r : List ℕ) × ToEndDate b k m d r
HasParts (suc (suc (suc (suc (suc zero))))) b =
    (k : FileType) × (m : ℕ) × (e : ℕ) × (r : List ℕ) × ToEnd b k m e r
HasParts (suc (suc (suc (suc (suc (suc zero)))))) b =
    (k : FileType) × (m : ℕ) × (e : ℕ) × (j : List ℕ) × (r : List ℕ) × ToJob b k m e j r
HasParts (suc (suc (suc (suc (suc (suc (suc zero))))))) b =
    (k : FileType) × (m : ℕ) × (e : ℕ) × (j : List ℕ) × (r : List ℕ) × (u : List ℕ) × ToJob b k m e j r × ReadsUnique r u
HasParts (suc (suc (suc (suc (suc (suc (suc (suc n)))))))) b = ⊥

-- one part fewer stands too
HasParts-pred : (n : ℕ) (b : List ℕ) → HasParts (suc n) b → HasParts n b
HasParts-pred zero b h = tt
HasParts-pred (suc zero) b h = (h.0, h.3.behind, h.3.type)
HasParts-pred (suc (suc zero)) b h = (h.0, h.3.day, h.3.behind, h.3.before)
HasParts-pred (suc (suc (suc zero))) b h = (h.0, h.1, h.4.behind, h.4.before)
HasParts-pred (suc (suc (suc (suc zero)))) b h = (h.0, h.1, h.4.day, h.4.behind, h.4.before)
HasParts-pred (suc (suc (suc (suc (suc zero))))) b h = (h.0, h.1, h.2, h.5.behind, h.5.before)
HasParts-pred (suc (suc (suc (suc (suc (suc zero)))))) b h = (h.0, h.1, h.2, h.3, h.4, h.6)
HasParts-pred (suc (suc (suc (suc (suc (suc (suc n))))))) b h = absurd h

-- and so do any number fewer
HasParts-less : (k n : ℕ) (b : List ℕ) → HasParts (k + n) b → HasParts n b
HasParts-less zero n b h = let e : 0 + n ≡ n = omega arith in subst (λ (x : ℕ). HasParts x b) e h
HasParts-less (suc k) n b h =
    let e : suc k + n ≡ suc (k + n) = omega arith in
    HasParts-less k n b (HasParts-pred (k + n) b (subst (λ (x : ℕ). HasParts x b) e h))

-- how many parts stand before the one that a refusal names
abbrev place : NameError → ℕ
place F1 = 0
place F2 = 1
place F3 = 2
place F4 = 3
place F5 = 4
place F6 = 5
place F7 = 6
place Memory = 7

abbrev refusal_at : ℕ → NameError
refusal_at zero = F1
refusal_at (suc zero) = F2
refusal_at (suc (suc zero)) = F3
refusal_at (suc (suc (suc zero))) = F4
refusal_at (suc (suc (suc (suc zero)))) = F5
refusal_at (suc (suc (suc (suc (suc zero))))) = F6
refusal_at (suc (suc (suc (suc (suc (suc zero)))))) = F7
refusal_at (suc (suc (suc (suc (suc (suc (suc n))))))) = Memory

refusal_at-place : (e : NameError) → refusal_at (place e) ≡ e
refusal_at-place F1 = refl
refusal_at-place F2 = refl
refusal_at-place F3 = refl
refusal_at-place F4 = refl
refusal_at-place F5 = refl
refusal_at-place F6 = refl
refusal_at-place F7 = refl
refusal_at-place Memory = refl

-- they stand
Refuses-before : (b : List ℕ) (e : NameError) → Refuses b e → HasParts (place e) b
Refuses-before b F1 h = tt
Refuses-before b F2 h = (h.0, h.1, h.2)
Refuses-before b F3 h = (h.0, h.1, h.2, h.3)
Refuses-before b F4 h = (h.0, h.1, h.2, h.3)
Refuses-before b F5 h = (h.0, h.1, h.2, h.3, h.4)
Refuses-before b F6 h = (h.0, h.1, h.2, h.3, h.4)
Refuses-before b F7 h = (h.0, h.1, h.2, h.3, h.4, h.5)
Refuses-before b Memory h = absurd h

-- and with the named one they don't
Refuses-stops : (b : List ℕ) (e : NameError) → Refuses b e → ¬ HasParts (suc (place e)) b
Refuses-stops b F1 h p = h p
Refuses-stops b F2 h p =
    let same = ReadsType-one b h.0 p.0 h.1 p.3.behind h.2 p.3.type in
    h.3 (p.1, p.2, subst (λ (x : List ℕ). ReadsDate x p.1 p.2) (sym same.1) p.3.date)
Refuses-stops b F3 h p =
    let same = ToStartDate-one b h.0 p.0 h.1 p.3.day h.2 p.3.behind h.3 p.3.before in
    h.4 (p.3.minute, p.2, subst (λ (x : List ℕ). ReadsStart x p.3.minute p.2) (sym same.2) p.3.time)
Refuses-stops b F4 h p =
    let same = ToStart-one b h.0 p.0 h.1 p.1 h.2 p.4.behind h.3 p.4.before in
    h.4 (p.2, p.3, subst (λ (x : FileType). ReadsEndDate x h.2 p.2 p.3) (sym same.0) (subst (λ (x : List ℕ). ReadsEndDate p.0 x p.2 p.3) (sym same.2) p.4.date))
Refuses-stops b F5 h p =
    let same = ToEndDate-one b h.0 p.0 h.1 p.1 h.2 p.4.day h.3 p.4.behind h.4 p.4.before in
    h.5 (p.2, p.3, moved-end h.0 p.0 h.1 p.1 h.2 p.4.day h.3 p.4.behind p.2 p.3 same.0 same.1 same.2 same.3 p.4.time)
Refuses-stops b F6 h p =
    let same = ToEnd-one b h.0 p.0 h.1 p.1 h.2 p.2 h.3 p.5.behind h.4 p.5.before in
    h.5 (p.3, p.4, subst (λ (x : List ℕ). ReadsJob x p.3 p.4) (sym same.3) p.5.id)
Refuses-stops b F7 h p =
    let same = ToJob-one b h.0 p.0 h.1 p.1 h.2 p.2 h.3 p.3 h.4 p.4 h.5 p.6 in
    h.6 p.5 (subst (λ (x : List ℕ). ReadsUnique x p.5) (sym same.4) p.7)
Refuses-stops b Memory h p = absurd h

-- of two refusals neither comes first
Refuses-order : (b : List ℕ) (e f : NameError) → Refuses b e → Refuses b f → ¬ (place e < place f)
Refuses-order b e f h k lt =
    let more : (place f - suc (place e)) + suc (place e) ≡ place f = omega arith in
    Refuses-stops b e h (HasParts-less (place f - suc (place e)) (suc (place e)) b (subst (λ (x : ℕ). HasParts x b) (sym more) (Refuses-before b f k)))

-- a text has one refusal
pub Refuses-one : (b : List ℕ) (e f : NameError) → Refuses b e → Refuses b f → e ≡ f
Refuses-one b e f h k =
    elim (cases_order (place e) (place f)) [
      | inl same ↦ sym (refusal_at-place e) ∙ (ap refusal_at same ∙ refusal_at-place f)
      | inr (inl lt) ↦ absurd (Refuses-order b e f h k lt)
      | inr (inr gt) ↦ absurd (Refuses-order b f e k h gt)
    ]

-- at most six parts stand before it
place-le : (b : List ℕ) (e : NameError) → Refuses b e → place e ≤ 6
place-le b F1 h = omega arith
place-le b F2 h = omega arith
place-le b F3 h = omega arith
place-le b F4 h = omega arith
place-le b F5 h = omega arith
place-le b F6 h = omega arith
place-le b F7 h = omega arith
place-le b Memory h = absurd h

-- a file name has none
pub Refuses-no_name : (b : List ℕ) (e : NameError) → Refuses b e → ¬ SaysFileName b
Refuses-no_name b e h says =
    let read = name-read b says.0 says.1 in
    let name = says.0 in
    let most = place-le b e h in
    let more : (7 - suc (place e)) + suc (place e) ≡ 7 = omega arith in
    let all : HasParts 7 b = (name.kind, name.begin, name.end, name.job, codes "_" ++ name.unique, name.unique, read.0, read.1) in
    Refuses-stops b e h (HasParts-less (7 - suc (place e)) (suc (place e)) b (subst (λ (x : ℕ). HasParts x b) (sym more) all))

-- an answer that is a refusal is the only one
pub refused-exact : {X : Type 0} (b : List ℕ) (answer : Result X NameError) (first e : NameError) → answer ≡ Err first → Refuses b first → (answer ≡ Err e → Refuses b e) × (Refuses b e → answer ≡ Err e)
refused-exact b answer first e is h = (
  λ same. let one : first ≡ e = cc in subst (Refuses b) one h,
  λ k. is ∙ ap (λ (x : NameError). Err x) (Refuses-one b first e h k),
)

-- and want of memory refuses no text that is a name
pub memory-exact : {X : Type 0} (b : List ℕ) (answer : Result X NameError) (e : NameError) → answer ≡ Err Memory → SaysFileName b → e ≢ Memory → (answer ≡ Err e → Refuses b e) × (Refuses b e → answer ≡ Err e)
memory-exact b answer e is says other =
    (λ same. absurd (other cc), λ k. absurd (Refuses-no_name b e k says))
