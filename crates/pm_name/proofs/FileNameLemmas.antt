-- A file name's text says one name, and a name has one text.
use Rattle.std.proofs.Common.{◌≡◌, ℕ, zero, suc, ◌+◌, ◌*◌, ◌/◌, ◌%◌, ◌<◌, ◌≤◌, ◌⊎◌, inl, inr, Bool, true, List, [], ◌∷◌, ◌++◌, length, refl, sym, ap, ◌∙◌, subst, arith, append_assoc, codes}
use Rattle.std.specs.List.{AllPass, prefix_len}
use Rattle.std.proofs.lemmas.List.Elements.{All-head, All-tail}
use Rattle.std.proofs.Math.Nat.{mod-mod_of_dvd, mul-add-mod_self_left, div-add-mod, zero-mod, mul_assoc}
use Rattle.std.proofs.lemmas.Nat.Gcd.{dvd_of_mod-eq-zero}
use Rattle.pm_base.specs.Moment.{IsPeriod}
use Rattle.pm_name.specs.Calendar.{Date, IsDate, IsDateOf, days_in_month, day_number}
use Rattle.pm_base.specs.Names.{is_id_char, IsJobId}
use Rattle.pm_name.specs.FileName.{FileType, A, C, FileNameParts, IsFileLength, IsFileSpan, two_digits, date_text, time_text, minute_of_day, type_text, IsEndDate, file_name_text, IsFileName}
use Rattle.pm_name.proofs.CalendarLemmas.{date-same, day_number-injective}

-- what follows an equal head
pub tails : {x y : ℕ} {r s : List ℕ} → x ∷ r ≡ y ∷ s → r ≡ s
tails e = cc

-- and the equal head
heads : {x y : ℕ} {r s : List ℕ} → x ∷ r ≡ y ∷ s → x ≡ y
heads e = cc

-- a month has at most 31 days
pub days_in_month-le : (year month : ℕ) → days_in_month year month ≤ 31
days_in_month-le year month = grind arith

-- two texts that begin with two digits begin with the same number
pub two_digits-front : (a b : ℕ) (r s : List ℕ) → a < 100 → b < 100 → two_digits a ++ r ≡ two_digits b ++ s → (a ≡ b) × (r ≡ s)
two_digits-front a b r s la lb e =
    let tens : 48 + a / 10 ≡ 48 + b / 10 = cc in
    let ones : 48 + a % 10 ≡ 48 + b % 10 = cc in
    (omega arith, cc)

-- with a time the same time
pub time_text-front : (m n : ℕ) (r s : List ℕ) → m < 1440 → n < 1440 → time_text m ++ r ≡ time_text n ++ s → (m ≡ n) × (r ≡ s)
time_text-front m n r s lm ln e =
    let hour = two_digits-front (m / 60) (n / 60) _ _ (omega arith) (omega arith) e in
    let minute = two_digits-front (m % 60) (n % 60) _ _ (omega arith) (omega arith) hour.1 in
    let h = hour.0 in
    let k = minute.0 in
    (omega arith, tails (tails (tails (tails (tails minute.1)))))

-- with a date the same date
pub date_text-front : (a b : Date) (r s : List ℕ) → IsDate a → IsDate b → date_text a ++ r ≡ date_text b ++ s → (a ≡ b) × (r ≡ s)
date_text-front a b r s is_a is_b e =
    let long = days_in_month-le a.year a.month in
    let long' = days_in_month-le b.year b.month in
    let century = two_digits-front (a.year / 100) (b.year / 100) _ _ (omega arith) (omega arith) e in
    let year = two_digits-front (a.year % 100) (b.year % 100) _ _ (omega arith) (omega arith) century.1 in
    let month = two_digits-front a.month b.month _ _ (omega arith) (omega arith) year.1 in
    let day = two_digits-front a.day b.day r s (omega arith) (omega arith) month.1 in
    let high = century.0 in
    let low = year.0 in
    (date-same a b (omega arith) month.0 day.0, day.1)

-- with a type the same type
pub type_text-front : (k l : FileType) (r s : List ℕ) → type_text k ++ r ≡ type_text l ++ s → (k ≡ l) × (r ≡ s)
type_text-front A A r s e = (refl, tails e)
type_text-front A C r s e = absurd (omega (arith, heads e))
type_text-front C A r s e = absurd (omega (arith, heads e))
type_text-front C C r s e = (refl, tails e)

-- a run of passing elements ends where the next one fails
pub prefix_len-run : (p : ℕ → Bool) (xs r : List ℕ) → AllPass p xs → prefix_len p r ≡ 0 → prefix_len p (xs ++ r) ≡ length xs
prefix_len-run p [] r all stop = stop
prefix_len-run p (x ∷ xs) r all stop =
    let rest : prefix_len p (xs ++ r) ≡ length xs = prefix_len-run p xs r (All-tail (λ (y : ℕ). p y ≡ true) x xs all) stop in
    let first : p x ≡ true = All-head (λ (y : ℕ). p y ≡ true) x xs all in
    rw first (omega arith)

-- what stands before what has the same length
pub append-same_length : (a b r s : List ℕ) → length a ≡ length b → a ++ r ≡ b ++ s → (a ≡ b) × (r ≡ s)
append-same_length [] [] r s n e = (refl, e)
append-same_length [] (y ∷ b) r s n e = absurd (omega arith)
append-same_length (x ∷ a) [] r s n e = absurd (omega arith)
append-same_length (x ∷ a) (y ∷ b) r s n e =
    let more = append-same_length a b r s (omega arith) (tails e) in
    let head : x ≡ y = cc in
    (ap (λ (z : ℕ). z ∷ a) head ∙ ap (λ (z : List ℕ). y ∷ z) more.0, more.1)

-- two texts that begin with an id and another byte behind it begin with the same id
pub job_id-front : (a b r s : List ℕ) → IsJobId a → IsJobId b → prefix_len is_id_char r ≡ 0 → prefix_len is_id_char s ≡ 0 → a ++ r ≡ b ++ s → (a ≡ b) × (r ≡ s)
job_id-front a b r s is_a is_b stop stop' e =
    append-same_length a b r s (sym (prefix_len-run is_id_char a r is_a.alphabet stop) ∙ (ap (prefix_len is_id_char) e ∙ prefix_len-run is_id_char b s is_b.alphabet stop')) e

-- what type A may cover
pub file_length-A : (m : ℕ) → IsFileLength A m → (m ≡ 1) ⊎ ((m ≡ 5) ⊎ ((m ≡ 15) ⊎ ((m ≡ 30) ⊎ (m ≡ 60))))
file_length-A m (zero, lt, e) = inl (sym e)
file_length-A m (suc zero, lt, e) = inr (inl (sym e))
file_length-A m (suc (suc zero), lt, e) = inr (inr (inl (sym e)))
file_length-A m (suc (suc (suc zero)), lt, e) = inr (inr (inr (inl (sym e))))
file_length-A m (suc (suc (suc (suc zero))), lt, e) = inr (inr (inr (inr (sym e))))
file_length-A m (suc (suc (suc (suc (suc k)))), lt, e) = absurd (omega arith)

-- a moment at a whole minute is its day and its minute
pub moment-parts : (m : ℕ) → m % 60 ≡ 0 → m ≡ 86400 * (m / 86400) + 60 * minute_of_day m
moment-parts m whole = omega arith

-- a start has one end with type A at a time of day
pub end-A : (begin end end' : ℕ) → IsFileSpan A begin end → IsFileSpan A begin end' → minute_of_day end ≡ minute_of_day end' → end ≡ end'
end-A begin end end' span span' e =
    let whole = span.whole in
    let at = span.end_is in
    let at' = span'.end_is in
    let m : (span.minutes ≤ 60) × (1 ≤ span.minutes) = elim (file_length-A span.minutes span.permitted) [ inl h ↦ omega arith | inr (inl h) ↦ omega arith | inr (inr (inl h)) ↦ omega arith | inr (inr (inr (inl h))) ↦ omega arith | inr (inr (inr (inr h))) ↦ omega arith ] in
    let m' : (span'.minutes ≤ 60) × (1 ≤ span'.minutes) = elim (file_length-A span'.minutes span'.permitted) [ inl h ↦ omega arith | inr (inl h) ↦ omega arith | inr (inr (inl h)) ↦ omega arith | inr (inr (inr (inl h))) ↦ omega arith | inr (inr (inr (inr h))) ↦ omega arith ] in
    omega arith

-- what two equal ends of a text say
tail-front : (j j' u u' : List ℕ) → IsJobId j → IsJobId j' → codes "_-" ++ (j ++ codes "_" ++ u) ≡ codes "_-" ++ (j' ++ codes "_" ++ u') → (j ≡ j') × (u ≡ u')
tail-front j j' u u' is is' e =
    let both = job_id-front j j' (codes "_" ++ u) (codes "_" ++ u') is is' refl refl (sym (append_assoc j (codes "_") u) ∙ (tails (tails e) ∙ append_assoc j' (codes "_") u')) in
    (both.0, tails both.1)

-- names with the same parts are the same
name-same : (p q : FileNameParts) → p.kind ≡ q.kind → p.begin ≡ q.begin → p.end ≡ q.end → p.job ≡ q.job → p.unique ≡ q.unique → p ≡ q
name-same p q kind begin end job unique =
    let at : FileType → ℕ → ℕ → List ℕ → List ℕ → FileNameParts = λ k b e j u. record { kind = k; begin = b; end = e; job = j; unique = u } in
    ap (λ (k : FileType). at k p.begin p.end p.job p.unique) kind
    ∙ (ap (λ (b : ℕ). at q.kind b p.end p.job p.unique) begin
    ∙ (ap (λ (e : ℕ). at q.kind q.begin e p.job p.unique) end
    ∙ (ap (λ (j : List ℕ). at q.kind q.begin q.end j p.unique) job
    ∙ ap (λ (u : List ℕ). at q.kind q.begin q.end q.job u) unique)))

-- what two equal texts of type A say
same-A : (b e b' e' : ℕ) (j u j' u' : List ℕ) (f f' : Date) → IsDate f → IsDate f' → IsJobId j → IsJobId j'
    → file_name_text (record { kind = A; begin = b; end = e; job = j; unique = u }) f [] ≡ file_name_text (record { kind = A; begin = b'; end = e'; job = j'; unique = u' }) f' []
    → (f ≡ f') × (minute_of_day b ≡ minute_of_day b') × (minute_of_day e ≡ minute_of_day e') × (j ≡ j') × (u ≡ u')
same-A b e b' e' j u j' u' f f' is_f is_f' is_j is_j' same =
    let date = date_text-front f f' _ _ is_f is_f' (tails same) in
    let start = time_text-front (minute_of_day b) (minute_of_day b') _ _ (omega arith) (omega arith) (tails date.1) in
    let end = time_text-front (minute_of_day e) (minute_of_day e') _ _ (omega arith) (omega arith) (tails start.1) in
    let ids = tail-front j j' u u' is_j is_j' end.1 in
    (date.0, start.0, end.0, ids.0, ids.1)

-- and of type C
same-C : (b e b' e' : ℕ) (j u j' u' : List ℕ) (f l f' l' : Date) → IsDate f → IsDate f' → IsDate l → IsDate l' → IsJobId j → IsJobId j'
    → file_name_text (record { kind = C; begin = b; end = e; job = j; unique = u }) f (date_text l ++ codes ".") ≡ file_name_text (record { kind = C; begin = b'; end = e'; job = j'; unique = u' }) f' (date_text l' ++ codes ".")
    → (f ≡ f') × (minute_of_day b ≡ minute_of_day b') × (l ≡ l') × (minute_of_day e ≡ minute_of_day e') × (j ≡ j') × (u ≡ u')
same-C b e b' e' j u j' u' f l f' l' is_f is_f' is_l is_l' is_j is_j' same =
    let date = date_text-front f f' _ _ is_f is_f' (tails same) in
    let start = time_text-front (minute_of_day b) (minute_of_day b') _ _ (omega arith) (omega arith) (tails date.1) in
    let last = date_text-front l l' _ _ is_l is_l' (tails start.1) in
    let end = time_text-front (minute_of_day e) (minute_of_day e') _ _ (omega arith) (omega arith) (tails last.1) in
    let ids = tail-front j j' u u' is_j is_j' end.1 in
    (date.0, start.0, last.0, end.0, ids.0, ids.1)

-- the end of a span is a whole minute
pub end-whole : (k : FileType) (begin end : ℕ) → IsFileSpan k begin end → end % 60 ≡ 0
end-whole k begin end span =
    let whole = span.whole in
    let at = span.end_is in
    omega arith

-- moments at whole minutes, on one date and at one minute of the day, are one
moment-same : (m n : ℕ) (d e : Date) → m % 60 ≡ 0 → n % 60 ≡ 0 → IsDateOf d m → IsDateOf e n → d ≡ e → minute_of_day m ≡ minute_of_day n → m ≡ n
moment-same m n d e whole whole' on on' date minute =
    let day : day_number d ≡ day_number e = ap day_number date in
    let at = on.day_is in
    let at' = on'.day_is in
    omega (arith, moment-parts m whole, moment-parts n whole')

-- the text of a name, with its Enddate written out
text-with : (bytes : List ℕ) (name : FileNameParts) (is : IsFileName bytes name) (y : List ℕ) → is.end_date ≡ y → bytes ≡ file_name_text name is.first y
text-with bytes name is y e = is.text ∙ ap (file_name_text name is.first) e

one_name-kinds : (bytes : List ℕ) (k m : FileType) (b e b' e' : ℕ) (j u j' u' : List ℕ)
    → IsFileName bytes (record { kind = k; begin = b; end = e; job = j; unique = u }) → IsFileName bytes (record { kind = m; begin = b'; end = e'; job = j'; unique = u' })
    → (k ≡ m) × (b ≡ b') × (e ≡ e') × (j ≡ j') × (u ≡ u')
one_name-kinds bytes A A b e b' e' j u j' u' is is' =
    let text = text-with bytes _ is [] is.end_date_is in
    let text' = text-with bytes _ is' [] is'.end_date_is in
    let same = same-A b e b' e' j u j' u' is.first is'.first is.first_is.is_date is'.first_is.is_date is.nameable.job_is is'.nameable.job_is (sym text ∙ text') in
    let begin : b ≡ b' = moment-same b b' is.first is'.first is.nameable.span.whole is'.nameable.span.whole is.first_is is'.first_is same.0 same.1 in
    let moved : IsFileSpan A b e' = subst (λ (x : ℕ). IsFileSpan A x e') (sym begin) is'.nameable.span in
    (refl, begin, end-A b e e' is.nameable.span moved same.2, same.3, same.4)
one_name-kinds bytes C C b e b' e' j u j' u' is is' =
    let last = is.end_date_is in
    let last' = is'.end_date_is in
    let text = text-with bytes _ is _ last.2 in
    let text' = text-with bytes _ is' _ last'.2 in
    let same = same-C b e b' e' j u j' u' is.first last.0 is'.first last'.0 is.first_is.is_date is'.first_is.is_date last.1.is_date last'.1.is_date is.nameable.job_is is'.nameable.job_is (sym text ∙ text') in (
      refl,
      moment-same b b' is.first is'.first is.nameable.span.whole is'.nameable.span.whole is.first_is is'.first_is same.0 same.1,
      moment-same e e' last.0 last'.0 (end-whole C b e is.nameable.span) (end-whole C b' e' is'.nameable.span) last.1 last'.1 same.2 same.3,
      same.4,
      same.5,
    )
one_name-kinds bytes A C b e b' e' j u j' u' is is' = absurd (omega (arith, heads (sym is.text ∙ is'.text)))
one_name-kinds bytes C A b e b' e' j u j' u' is is' = absurd (omega (arith, heads (sym is.text ∙ is'.text)))

-- one text says at most one name
pub IsFileName-one_name : (bytes : List ℕ) (p q : FileNameParts) → IsFileName bytes p → IsFileName bytes q → p ≡ q
IsFileName-one_name bytes p q is is' =
    let same = one_name-kinds bytes p.kind q.kind p.begin p.end q.begin q.end p.job p.unique q.job q.unique is is' in
    name-same p q same.0 same.1 same.2 same.3 same.4

-- a moment has one date
date-one : (d e : Date) (m : ℕ) → IsDateOf d m → IsDateOf e m → d ≡ e
date-one d e m on on' = day_number-injective d e on.is_date on'.is_date (on.day_is ∙ sym on'.day_is)

-- an end has one Enddate
end_date-one : (k : FileType) (end : ℕ) (x y : List ℕ) → IsEndDate k end x → IsEndDate k end y → x ≡ y
end_date-one A end x y is is' = is ∙ sym is'
end_date-one C end x y is is' =
    is.2 ∙ (ap (λ (d : Date). date_text d ++ codes ".") (date-one is.0 is'.0 end is.1 is'.1) ∙ sym is'.2)

-- one name has one text
pub IsFileName-one_text : (a b : List ℕ) (name : FileNameParts) → IsFileName a name → IsFileName b name → a ≡ b
IsFileName-one_text a b name is is' =
    is.text
    ∙ (ap (λ (d : Date). file_name_text name d is.end_date) (date-one is.first is'.first name.begin is.first_is is'.first_is)
    ∙ (ap (file_name_text name is'.first) (end_date-one name.kind name.end is.end_date is'.end_date is.end_date_is is'.end_date_is) ∙ sym is'.text))

-- a length divides the day
file_length-divides : (kind : FileType) (m : ℕ) → IsFileLength kind m → (0 < m) × (1440 % m ≡ 0)
file_length-divides A m is =
    elim (file_length-A m is) [
      | inl h ↦ rw h (omega arith, refl)
      | inr (inl h) ↦ rw h (omega arith, refl)
      | inr (inr (inl h)) ↦ rw h (omega arith, refl)
      | inr (inr (inr (inl h))) ↦ rw h (omega arith, refl)
      | inr (inr (inr (inr h))) ↦ rw h (omega arith, refl)
    ]
file_length-divides C m is = let least = is.0 in (omega arith, is.2)

-- a period that begins at a multiple of its length is one that a name can say
pub IsFileSpan-period : (kind : FileType) (begin m : ℕ) → IsFileLength kind m → IsPeriod (60 * m) begin → begin + 60 * m ≤ 253402300799 → IsFileSpan kind begin (begin + 60 * m)
IsFileSpan-period kind begin m length period last =
    let divides = file_length-divides kind m length in
    let q = begin / (60 * m) in
    let aligned = period.1 in
    let parts : begin ≡ 60 * (m * q) = omega (arith, div-add-mod begin (60 * m), mul_assoc 60 m q) in
    let minute : minute_of_day begin ≡ (m * q) % 1440 = omega arith in
    let same : (m * q) % 1440 % m ≡ (m * q) % m = mod-mod_of_dvd m (m * q) (dvd_of_mod-eq-zero m divides.1) in
    let none : (m * q + 0) % m ≡ 0 % m = mul-add-mod_self_left m q 0 in
    let zero_is : m * q ≡ m * q + 0 = omega arith in
    record {
      minutes = m;
      permitted = length;
      end_is = refl;
      whole = omega arith;
      aligned = ap (λ (x : ℕ). x % m) minute ∙ (same ∙ (ap (λ (x : ℕ). x % m) zero_is ∙ (none ∙ zero-mod m)));
      end_in = omega arith;
    }
