-- What an entry after a history leaves as it was: what is said of moments that it doesn't come before, and of ticks that are over.
use Rattle.std.proofs.Common.{◌≡◌, ℕ, ◌<◌, ◌≤◌, ◌∙◌, sym, false, ltb, leb, refl, arith, lt-ltb, le-ltb, List, [], ◌∷◌, ◌++◌, ap, ◌+◌, length, get_or, take}
use Rattle.std.proofs.lemmas.Bool.{cond-true, cond-false, lt-leb, and_right}
use Rattle.std.proofs.lemmas.List.{take_more}
use Rattle.pm_base.specs.Moment.{tick_of}
use Rattle.pm_history.specs.declared.entry.Entry.{Entry}
use Rattle.pm_history.specs.declared.entry.Entry.TheVariants.{Boot}
use Rattle.pm_history.specs.Entry.{moment_of}
use Rattle.pm_history.specs.History.{History, Start, ◌▷◌, grown, history_of, last_moment, IsHistory, before, is_over, first_cut, cuts, is_cut}
use Rattle.pm_history.proofs.TickLemmas.{or_false}

-- all entries have lesser moments
pub before_all : (h : History) (m : ℕ) → last_moment h < m → before m h ≡ h
before_all Start m lt = refl
before_all (h ▷ e) m lt = cond-true (ltb (moment_of e) m) (h ▷ e) (before m h) (lt-ltb (moment_of e) m lt)

pub before-stays : (h : History) (e : Entry) (m : ℕ) → m ≤ moment_of e → before m (h ▷ e) ≡ before m h
before-stays h e m le = cond-false (ltb (moment_of e) m) (h ▷ e) (before m h) (le-ltb (moment_of e) m le)

pub is_over-stays : (h : History) (e : Entry) (t : ℕ) → last_moment h ≤ moment_of e → t < tick_of (last_moment h) → is_over (h ▷ e) t ≡ is_over h t
is_over-stays h e t le lt =
    lt-ltb t (tick_of (moment_of e)) (omega arith) ∙ sym (lt-ltb t (tick_of (last_moment h)) lt)

first_cut-le : (h : History) (m : ℕ) → last_moment h ≤ m → tick_of (last_moment h) ≤ first_cut h m
first_cut-le Start m le = omega arith
first_cut-le (h ▷ e) m le = omega arith

-- nothing that comes next cuts a tick that is over
pub cuts-over : (h : History) (e : Entry) (t : ℕ) → last_moment h ≤ moment_of e → t < tick_of (last_moment h) → cuts h e t ≡ false
cuts-over h (Boot m) t le lt =
    let first = first_cut-le h m le in
    let later : leb (first_cut h m) t ≡ false = lt-leb (first_cut h m) t (omega arith) in
    rw later refl
cuts-over h _ t le lt = refl

pub is_cut-stays : (h : History) (e : Entry) (t : ℕ) → last_moment h ≤ moment_of e → t < tick_of (last_moment h) → is_cut (h ▷ e) t ≡ is_cut h t
is_cut-stays h e t le lt = or_false (is_cut h t) (cuts h e t) (cuts-over h e t le lt)

-- nothing cuts a tick after its own
cuts-past : (h : History) (e : Entry) (t : ℕ) → tick_of (moment_of e) < t → cuts h e t ≡ false
cuts-past h (Boot m) t lt = and_right (leb (first_cut h m) t) _ (lt-leb t (tick_of m) lt)
cuts-past h _ t lt = refl

-- no Boot cuts a tick after that of the last moment
pub is_cut-past : (h : History) (t : ℕ) → IsHistory h → tick_of (last_moment h) < t → is_cut h t ≡ false
is_cut-past Start t is lt = refl
is_cut-past (h ▷ e) t is lt =
    let later = is.1.later in
    let old = is_cut-past h t is.0 (omega arith) in
    let new = cuts-past h e t lt in
    rw (old, new) refl

-- ---- histories of lists

grown-append : (h : History) (xs ys : List Entry) → grown h (xs ++ ys) ≡ grown (grown h xs) ys
grown-append h [] ys = refl
grown-append h (x ∷ xs) ys = grown-append (h ▷ x) xs ys

-- one entry more of a list
pub history_of-more : (xs : List Entry) (i : ℕ) (x : Entry) → i < length xs → x ≡ get_or xs i x → history_of (take (i + 1) xs) ≡ history_of (take i xs) ▷ x
history_of-more xs i x lt is =
    ap history_of (take_more xs i x lt) ∙ (grown-append Start (take i xs) (get_or xs i x ∷ []) ∙ ap (λ e. history_of (take i xs) ▷ e) (sym is))
