-- Each file name passes the test of file names.
use Rattle.std.proofs.Common.{◌≡◌, ℕ, ◌+◌, ◌-◌, ◌*◌, ◌/◌, ◌%◌, ◌<◌, ◌≤◌, ◌&&◌, ◌||◌, inl, inr, Bool, true, false, List, [], ◌++◌, get_or, refl, sym, ap, ◌∙◌, subst, arith, append_assoc, codes, eqb, bytes_eq}
use Rattle.std.specs.List.{list_any, range_with_len}
use Rattle.std.proofs.lemmas.List.FromFn.{length-range_with_len, get_or-range_with_len}
use Rattle.std.proofs.lemmas.List.Folds.{list_any_at}
use Rattle.std.proofs.Math.Seq.{take-append_seam, drop-append-add}
use Rattle.pm_base.specs.Names.{is_id_char, IsJobId, IsDnId}
use Rattle.pm_name.specs.Calendar.{Date, IsDate, IsDateOf, day_number}
use Rattle.pm_name.specs.FileName.{FileType, A, C, FileNameParts, IsFileName, IsFileLength, IsFileSpan, SaysFileName, file_type, date_text, minute_of_day, file_name_text}
use Rattle.pm_name.proofs.CalendarLemmas.{date-same}
use Rattle.pm_name.proofs.FileNameLemmas.{prefix_len-run, file_length-A}
use Rattle.pm_form.specs.Names.{job_id, dn_id}
use Rattle.pm_form.proofs.NameLemmas.{job_id-IsJobId, dn_id-IsDnId}
use Rattle.pm_file.specs.Agreement.{is_file_span}
use Rattle.pm_file.proofs.SpanLemmas.{test-IsFileSpan}
use Rattle.pm_notice.specs.NameTest.{two_at, date_at, is_date, begin_in, ids_in, end_date_in, is_end_date, job_in, element_in, name_in, is_text_of, is_name_of, is_file_name}
use Rattle.pm_notice.proofs.DateTestLemmas.{and, same, itself, IsDate-is_date, read, date-read, time-read, begin-read}

job-read : (j u : List ℕ) → IsJobId j → job_in ((j ++ codes "_") ++ u) ≡ j
job-read j u is =
    rw (append_assoc j (codes "_") u, prefix_len-run is_id_char j (codes "_" ++ u) is.alphabet refl) (take-append_seam j (codes "_" ++ u))

element-read : (j u : List ℕ) → IsJobId j → element_in ((j ++ codes "_") ++ u) ≡ u
element-read j u is =
    rw (append_assoc j (codes "_") u, prefix_len-run is_id_char j (codes "_" ++ u) is.alphabet refl) (drop-append-add j (codes "_" ++ u) 1)

-- What a text says, where its words say this.
said : (one : Bool) (s : List ℕ) (m b : ℕ) (j u : List ℕ) → begin_in s ≡ b → ids_in one s ≡ (j ++ codes "_") ++ u → IsJobId j
    → name_in one s m ≡ record { kind = file_type one; begin = b; end = b + 60 * m; job = j; unique = u }
said one s m b j u begin ids is =
    let at : ℕ → List ℕ → List ℕ → FileNameParts = λ b j u. record { kind = file_type one; begin = b; end = b + 60 * m; job = j; unique = u } in
    ap (λ (b : ℕ). at b (job_in (ids_in one s)) (element_in (ids_in one s))) begin
    ∙ ap (λ (i : List ℕ). at b (job_in i) (element_in i)) ids
    ∙ ap (λ (k : List ℕ). at b k (element_in ((j ++ codes "_") ++ u))) (job-read j u is)
    ∙ ap (λ (k : List ℕ). at b j k) (element-read j u is)

-- The text of a name passes.
text-passes : (one : Bool) (s : List ℕ) (n : FileNameParts) (f : Date) → IsDateOf f n.begin → is_end_date one s n.end ≡ true
    → is_file_span one n.begin n.end ≡ true → IsJobId n.job → IsDnId n.unique → s ≡ file_name_text n f (end_date_in one s) → is_text_of one s n f ≡ true
text-passes one s n f date last span job unique text =
    and _ (bytes_eq s (file_name_text n f (end_date_in one s)))
    (and _ (dn_id n.unique)
    (and _ (job_id n.job)
    (and _ (is_file_span one n.begin n.end)
    (and _ (is_end_date one s n.end)
    (and (is_date f) (eqb (day_number f) (n.begin / 86400)) (IsDate-is_date f date.is_date) (same _ _ date.day_is))
    last) span) (job_id-IsJobId n.job job)) (dn_id-IsDnId n.unique unique)) (ap (bytes_eq s) (sym text) ∙ itself s)

passes : (one : Bool) (s : List ℕ) (m b : ℕ) (j u : List ℕ) (f : Date) → date_at s 1 ≡ f → begin_in s ≡ b → ids_in one s ≡ (j ++ codes "_") ++ u
    → IsDateOf f b → is_end_date one s (b + 60 * m) ≡ true → IsFileSpan (file_type one) b (b + 60 * m) → IsJobId j → IsDnId u
    → s ≡ file_name_text (record { kind = file_type one; begin = b; end = b + 60 * m; job = j; unique = u }) f (end_date_in one s)
    → is_name_of one s m ≡ true
passes one s m b j u f date begin ids is last span job unique text =
    let n : FileNameParts = record { kind = file_type one; begin = b; end = b + 60 * m; job = j; unique = u } in
    ap (λ (x : FileNameParts). is_text_of one s x (date_at s 1)) (said one s m b j u begin ids job)
    ∙ ap (is_text_of one s n) date
    ∙ text-passes one s n f is last (test-IsFileSpan one b (b + 60 * m) span) job unique text

-- The period has a length of the range.
in-range : (p : ℕ → Bool) (m : ℕ) → 1 ≤ m → m ≤ 1440 → p m ≡ true → list_any p (range_with_len 1 1440) ≡ true
in-range p m least most e =
    let lt : m - 1 < 1440 = omega (arith, least, most) in
    let at : get_or (range_with_len 1 1440) (m - 1) 0 ≡ m = get_or-range_with_len 1 1440 (m - 1) 0 lt ∙ omega (arith, least) in
    list_any_at p (range_with_len 1 1440) (m - 1) 0 (let n = length-range_with_len 1 1440 in omega (arith, n, lt)) (ap p at ∙ e)

whole-date : (s : List ℕ) (i : ℕ) (d : Date) → IsDate d → 100 * two_at s i + two_at s (i + 2) ≡ 100 * read (d.year / 100) + read (d.year % 100)
    → two_at s (i + 4) ≡ read d.month → two_at s (i + 6) ≡ read d.day → date_at s i ≡ d
whole-date s i d is year month day =
    let q = date-read d is in date-same (date_at s i) d (year ∙ q.0) (month ∙ q.1) (day ∙ q.2)

name-A : (f : Date) (b m : ℕ) (j u : List ℕ) → IsDateOf f b → IsFileSpan A b (b + 60 * m) → IsJobId j → IsDnId u
    → is_name_of true (file_name_text (record { kind = A; begin = b; end = b + 60 * m; job = j; unique = u }) f []) m ≡ true
name-A f b m j u is span job unique =
    let s = file_name_text (record { kind = A; begin = b; end = b + 60 * m; job = j; unique = u }) f [] in
    let date : date_at s 1 ≡ f = whole-date s 1 f is.is_date refl refl refl in
    let begin = begin-read s f b date is (time-read (minute_of_day b) (omega arith)) span.whole in
    passes true s m b j u f date begin refl is refl span job unique refl

name-C : (f l : Date) (b m : ℕ) (j u : List ℕ) → IsDateOf f b → IsDateOf l (b + 60 * m) → IsFileSpan C b (b + 60 * m) → IsJobId j → IsDnId u
    → is_name_of false (file_name_text (record { kind = C; begin = b; end = b + 60 * m; job = j; unique = u }) f (date_text l ++ codes ".")) m ≡ true
name-C f l b m j u is is_l span job unique =
    let n : FileNameParts = record { kind = C; begin = b; end = b + 60 * m; job = j; unique = u } in
    let s = file_name_text n f (date_text l ++ codes ".") in
    let date : date_at s 1 ≡ f = whole-date s 1 f is.is_date refl refl refl in
    let end : date_at s 20 ≡ l = whole-date s 20 l is_l.is_date refl refl refl in
    let begin = begin-read s f b date is (time-read (minute_of_day b) (omega arith)) span.whole in
    let last : is_end_date false s (b + 60 * m) ≡ true =
    ap (λ (d : Date). is_date d && eqb (day_number d) ((b + 60 * m) / 86400)) end
    ∙ and (is_date l) (eqb (day_number l) ((b + 60 * m) / 86400)) (IsDate-is_date l is_l.is_date) (same _ _ is_l.day_is) in
    passes false s m b j u f date begin refl is last span job unique (ap (λ (d : Date). file_name_text n f (date_text d ++ codes ".")) (sym end))

left : (a b : Bool) → a ≡ true → (a || b) ≡ true
left a b e = rw e refl

right : (a b : Bool) → b ≡ true → (a || b) ≡ true
right true b e = refl
right false b e = e

minutes-A : (m : ℕ) → IsFileLength A m → (1 ≤ m) × (m ≤ 1440)
minutes-A m is =
    elim (file_length-A m is) [
      | inl h ↦ (omega (arith, h), omega (arith, h))
      | inr (inl h) ↦ (omega (arith, h), omega (arith, h))
      | inr (inr (inl h)) ↦ (omega (arith, h), omega (arith, h))
      | inr (inr (inr (inl h))) ↦ (omega (arith, h), omega (arith, h))
      | inr (inr (inr (inr h))) ↦ (omega (arith, h), omega (arith, h))
    ]

any-passes : (k : FileType) (s : List ℕ) (b e : ℕ) (j u : List ℕ) → IsFileName s (record { kind = k; begin = b; end = e; job = j; unique = u })
    → (list_any (is_name_of true s) (range_with_len 1 1440) || list_any (is_name_of false s) (range_with_len 1 1440)) ≡ true
any-passes A s b e j u is =
    let span = is.nameable.span in
    let m = span.minutes in
    let range = minutes-A m span.permitted in
    let at : e ≡ b + 60 * m = span.end_is in
    let span' = subst (λ (x : ℕ). IsFileSpan A b x) at span in
    let name = name-A is.first b m j u is.first_is span' is.nameable.job_is is.nameable.unique_is in
    let text : s ≡ file_name_text (record { kind = A; begin = b; end = b + 60 * m; job = j; unique = u }) is.first [] =
    is.text ∙ ap (λ (t : List ℕ). file_name_text (record { kind = A; begin = b; end = e; job = j; unique = u }) is.first t) is.end_date_is
    ∙ ap (λ (x : ℕ). file_name_text (record { kind = A; begin = b; end = x; job = j; unique = u }) is.first []) at in
    left _ _ (in-range (is_name_of true s) m range.0 range.1 (ap (λ (t : List ℕ). is_name_of true t m) text ∙ name))
any-passes C s b e j u is =
    let span = is.nameable.span in
    let m = span.minutes in
    let permitted = span.permitted in
    let at : e ≡ b + 60 * m = span.end_is in
    let span' = subst (λ (x : ℕ). IsFileSpan C b x) at span in
    let last = subst (λ (x : ℕ). IsDateOf is.end_date_is.0 x) at is.end_date_is.1 in
    let name = name-C is.first is.end_date_is.0 b m j u is.first_is last span' is.nameable.job_is is.nameable.unique_is in
    let text : s ≡ file_name_text (record { kind = C; begin = b; end = b + 60 * m; job = j; unique = u }) is.first (date_text is.end_date_is.0 ++ codes ".") =
    is.text ∙ ap (λ (t : List ℕ). file_name_text (record { kind = C; begin = b; end = e; job = j; unique = u }) is.first t) is.end_date_is.2
    ∙ ap (λ (x : ℕ). file_name_text (record { kind = C; begin = b; end = x; job = j; unique = u }) is.first (date_text is.end_date_is.0 ++ codes ".")) at in
    right _ _ (in-range (is_name_of false s) m (let h = permitted.0 in omega (arith, h)) permitted.1 (ap (λ (t : List ℕ). is_name_of false t m) text ∙ name))

pub is_file_name-says : (s : List ℕ) → SaysFileName s → is_file_name s ≡ true
unfolding is_file_name
is_file_name-says s says = any-passes says.0.kind s says.0.begin says.0.end says.0.job says.0.unique says.1
