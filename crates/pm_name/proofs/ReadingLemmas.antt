-- Each part of a text is read in one way.
use Rattle.std.proofs.Common.{◌≡◌, ℕ, List, ◌∷◌, Option, None, Some, refl, sym, ap, ◌∙◌, subst, arith}
use Rattle.pm_name.specs.Calendar.{day_number}
use Rattle.pm_name.specs.FileName.{FileType, A, C}
use Rattle.pm_name.proofs.FileNameLemmas.{type_text-front, date_text-front, time_text-front, job_id-front, tails}
use Rattle.pm_name.specs.Reading.{ReadsType, ReadsDate, ReadsStart, ReadsEndDate, IsEnd, ReadsEnd, ReadsJob, ToStartDate, ToStart, ToEndDate, ToEnd, ToJob}

ReadsDate-one : (b : List ℕ) (d e : ℕ) (r s : List ℕ) → ReadsDate b d r → ReadsDate b e s → (d ≡ e) × (r ≡ s)
ReadsDate-one b d e r s h k =
    let front = date_text-front h.date k.date (46 ∷ r) (46 ∷ s) h.is_date k.is_date (sym h.text ∙ k.text) in
    (sym h.day_is ∙ (ap day_number front.0 ∙ k.day_is), tails front.1)

ReadsStart-one : (b : List ℕ) (m n : ℕ) (r s : List ℕ) → ReadsStart b m r → ReadsStart b n s → (m ≡ n) × (r ≡ s)
ReadsStart-one b m n r s h k =
    let front = time_text-front m n (45 ∷ r) (45 ∷ s) h.in_day k.in_day (sym h.text ∙ k.text) in
    (front.0, tails front.1)

ReadsEndDate-one : (kind : FileType) (b : List ℕ) (d e : Option ℕ) (r s : List ℕ) → ReadsEndDate kind b d r → ReadsEndDate kind b e s → (d ≡ e) × (r ≡ s)
ReadsEndDate-one A b None None r s h k = (refl, sym h.0 ∙ k.0)
ReadsEndDate-one A b None (Some e) r s h k = absurd k
ReadsEndDate-one A b (Some d) e r s h k = absurd h
ReadsEndDate-one C b None e r s h k = absurd h
ReadsEndDate-one C b (Some d) None r s h k = absurd k
ReadsEndDate-one C b (Some d) (Some e) r s h k =
    let same = ReadsDate-one b d e r s h k in
    (ap (λ (n : ℕ). Some n) same.0, same.1)

IsEnd-one : (begin : ℕ) (day : Option ℕ) (m e f : ℕ) → IsEnd begin day m e → IsEnd begin day m f → e ≡ f
IsEnd-one begin None m e f h k =
    let a = h.0 in
    let b = h.1 in
    let c = h.2 in
    let d = h.3 in
    let a' = k.0 in
    let b' = k.1 in
    let c' = k.2 in
    let d' = k.3 in
    omega arith
IsEnd-one begin (Some day) m e f h k = h ∙ sym k

ReadsEnd-one : (kind : FileType) (begin : ℕ) (day : Option ℕ) (b : List ℕ) (e f : ℕ) (r s : List ℕ) → ReadsEnd kind begin day b e r → ReadsEnd kind begin day b f s → (e ≡ f) × (r ≡ s)
ReadsEnd-one kind begin day b e f r s h k =
    let front = time_text-front h.minute k.minute r s h.time.in_day k.time.in_day (sym h.time.text ∙ k.time.text) in
    (IsEnd-one begin day h.minute e f h.end_is (subst (λ (m : ℕ). IsEnd begin day m f) (sym front.0) k.end_is), front.1)

ReadsJob-one : (b j i r s : List ℕ) → ReadsJob b j r → ReadsJob b i s → (j ≡ i) × (r ≡ s)
ReadsJob-one b j i r s h k =
    job_id-front j i r s h.job_is k.job_is h.longest k.longest (tails (tails (sym h.text ∙ k.text)))

-- and so is the text up to each part
pub ReadsType-one : (b : List ℕ) (k l : FileType) (r s : List ℕ) → ReadsType b k r → ReadsType b l s → (k ≡ l) × (r ≡ s)
ReadsType-one b k l r s h h' = type_text-front k l r s (sym h ∙ h')

pub ToStartDate-one : (b : List ℕ) (k l : FileType) (d e : ℕ) (r s : List ℕ) → ToStartDate b k d r → ToStartDate b l e s → (k ≡ l) × (d ≡ e) × (r ≡ s)
ToStartDate-one b k l d e r s h h' =
    let before = ReadsType-one b k l h.behind h'.behind h.type h'.type in
    let same = ReadsDate-one h.behind d e r s h.date (subst (λ (x : List ℕ). ReadsDate x e s) (sym before.1) h'.date) in
    (before.0, same.0, same.1)

pub ToStart-one : (b : List ℕ) (k l : FileType) (m n : ℕ) (r s : List ℕ) → ToStart b k m r → ToStart b l n s → (k ≡ l) × (m ≡ n) × (r ≡ s)
ToStart-one b k l m n r s h h' =
    let before = ToStartDate-one b k l h.day h'.day h.behind h'.behind h.before h'.before in
    let same = ReadsStart-one h.behind h.minute h'.minute r s h.time (subst (λ (x : List ℕ). ReadsStart x h'.minute s) (sym before.2) h'.time) in
    let begin = h.begin_is in
    let begin' = h'.begin_is in
    let day = before.1 in
    let minute = same.0 in
    (before.0, omega arith, same.1)

pub ToEndDate-one : (b : List ℕ) (k l : FileType) (m n : ℕ) (d e : Option ℕ) (r s : List ℕ) → ToEndDate b k m d r → ToEndDate b l n e s → (k ≡ l) × (m ≡ n) × (d ≡ e) × (r ≡ s)
ToEndDate-one b k l m n d e r s h h' =
    let before = ToStart-one b k l m n h.behind h'.behind h.before h'.before in
    let moved = subst (λ (x : List ℕ). ReadsEndDate k x e s) (sym before.2) (subst (λ (x : FileType). ReadsEndDate x h'.behind e s) (sym before.0) h'.date) in
    let same = ReadsEndDate-one k h.behind d e r s h.date moved in
    (before.0, before.1, same.0, same.1)

-- what stands behind one text, moved to an equal one
pub moved-end : (k l : FileType) (m n : ℕ) (d e : Option ℕ) (b c : List ℕ) (f : ℕ) (s : List ℕ) → k ≡ l → m ≡ n → d ≡ e → b ≡ c → ReadsEnd l n e c f s → ReadsEnd k m d b f s
moved-end k l m n d e b c f s kind begin day text h =
    rw (kind, begin, day, text) h

pub ToEnd-one : (b : List ℕ) (k l : FileType) (m n e f : ℕ) (r s : List ℕ) → ToEnd b k m e r → ToEnd b l n f s → (k ≡ l) × (m ≡ n) × (e ≡ f) × (r ≡ s)
ToEnd-one b k l m n e f r s h h' =
    let before = ToEndDate-one b k l m n h.day h'.day h.behind h'.behind h.before h'.before in
    let moved = moved-end k l m n h.day h'.day h.behind h'.behind f s before.0 before.1 before.2 before.3 h'.time in
    let same = ReadsEnd-one k m h.day h.behind e f r s h.time moved in
    (before.0, before.1, same.0, same.1)

pub ToJob-one : (b : List ℕ) (k l : FileType) (m n e f : ℕ) (j i r s : List ℕ) → ToJob b k m e j r → ToJob b l n f i s → (k ≡ l) × (m ≡ n) × (e ≡ f) × (j ≡ i) × (r ≡ s)
ToJob-one b k l m n e f j i r s h h' =
    let before = ToEnd-one b k l m n e f h.behind h'.behind h.before h'.before in
    let same = ReadsJob-one h.behind j i r s h.id (subst (λ (x : List ℕ). ReadsJob x i s) (sym before.3) h'.id) in
    (before.0, before.1, before.2, same.0, same.1)
