-- The parts of a text, read to its end, are those of a file name, and a file name's text is read so.
use Rattle.std.proofs.Common.{inl, inr, ◌≡◌, ℕ, ◌+◌, ◌*◌, ◌/◌, ◌<◌, ◌≤◌, List, [], ◌++◌, Option, None, Some, codes, refl, sym, ap, ◌∙◌, arith, append_assoc}
use Rattle.pm_name.specs.Calendar.{Date, IsDateOf}
use Rattle.pm_name.specs.FileName.{FileType, A, C, FileNameParts, IsFileSpan, IsNameable, IsFileName, date_text, time_text, type_text, minute_of_day, file_name_text}
use Rattle.pm_name.proofs.FileNameLemmas.{end-whole, moment-parts, file_length-A}
use Rattle.pm_name.specs.Reading.{ReadsType, ReadsDate, ReadsStart, LooksLikeDate, ReadsEndDate, IsEnd, ReadsEnd, ReadsJob, ReadsUnique, ToStartDate, ToStart, ToEndDate, ToEnd, ToJob}
use Rattle.pm_name.specs.Name.{IsTimesText}
use Rattle.pm_name.proofs.PartLemmas.{like_looks}

-- a moment made of a day and a minute
made-day : (d m : ℕ) → m < 1440 → (86400 * d + 60 * m) / 86400 ≡ d
made-day d m in_day = omega arith

made-minute : (d m : ℕ) → m < 1440 → minute_of_day (86400 * d + 60 * m) ≡ m
made-minute d m in_day = omega arith

-- the date that a part shows is that of its moment
date-of : (b : List ℕ) (d m moment : ℕ) (r : List ℕ) (h : ReadsDate b d r) → m < 1440 → moment ≡ 86400 * d + 60 * m → IsDateOf h.date moment
date-of b d m moment r h in_day is =
    record { is_date = h.is_date; day_is = h.day_is ∙ (sym (made-day d m in_day) ∙ ap (λ (x : ℕ). x / 86400) (sym is)) }

-- the text of type A, put together
text-A : (bytes b5 b4 b3 b2 b1 r j u : List ℕ) (d : Date) (m0 m1 begin end : ℕ)
    → bytes ≡ codes "A" ++ b5 → b5 ≡ date_text d ++ codes "." ++ b4 → b4 ≡ time_text m0 ++ codes "-" ++ b3 → b3 ≡ b2 → b2 ≡ time_text m1 ++ b1 → b1 ≡ codes "_-" ++ (j ++ r) → r ≡ codes "_" ++ u
    → minute_of_day begin ≡ m0 → minute_of_day end ≡ m1
    → bytes ≡ file_name_text (record { kind = A; begin = begin; end = end; job = j; unique = u }) d []
text-A bytes b5 b4 b3 b2 b1 r j u d m0 m1 begin end e5 e4 e3 e2 e1 e0 e f0 f1 =
    rw (f0, f1, append_assoc j (codes "_") u, e5, e4, e3, e2, e1, e0, e)

-- and of type C
text-C : (bytes b5 b4 b3 b2 b1 r j u : List ℕ) (d l : Date) (m0 m1 begin end : ℕ)
    → bytes ≡ codes "C" ++ b5 → b5 ≡ date_text d ++ codes "." ++ b4 → b4 ≡ time_text m0 ++ codes "-" ++ b3 → b3 ≡ date_text l ++ codes "." ++ b2 → b2 ≡ time_text m1 ++ b1 → b1 ≡ codes "_-" ++ (j ++ r) → r ≡ codes "_" ++ u
    → minute_of_day begin ≡ m0 → minute_of_day end ≡ m1
    → bytes ≡ file_name_text (record { kind = C; begin = begin; end = end; job = j; unique = u }) d (date_text l ++ codes ".")
text-C bytes b5 b4 b3 b2 b1 r j u d l m0 m1 begin end e5 e4 e3 e2 e1 e0 e f0 f1 =
    rw (f0, f1, append_assoc j (codes "_") u, e5, e4, e3, e2, e1, e0, e)

read-kinds : (bytes b5 b4 b3 b2 b1 r j u : List ℕ) (kind : FileType) (d0 m0 begin : ℕ) (day : Option ℕ) (end : ℕ)
    → ReadsType bytes kind b5 → ReadsDate b5 d0 b4 → ReadsStart b4 m0 b3 → begin ≡ 86400 * d0 + 60 * m0 → ReadsEndDate kind b3 day b2 → ReadsEnd kind begin day b2 end b1 → ReadsJob b1 j r → ReadsUnique r u
    → IsFileName bytes (record { kind = kind; begin = begin; end = end; job = j; unique = u })
read-kinds bytes b5 b4 b3 b2 b1 r j u A d0 m0 begin None end type date start begin_is end_date time id unique = record {
  nameable = record { span = time.span; job_is = id.job_is; unique_is = unique.unique_is };
  first = date.date;
  first_is = date-of b5 d0 m0 begin b4 date start.in_day begin_is;
  end_date = [];
  end_date_is = refl;
  text = text-A bytes b5 b4 b3 b2 b1 r j u date.date m0 time.minute begin end type date.text start.text end_date.0 time.time.text id.text unique.text (ap minute_of_day begin_is ∙ made-minute d0 m0 start.in_day) time.end_is.3;
}
read-kinds bytes b5 b4 b3 b2 b1 r j u A d0 m0 begin (Some day) end type date start begin_is end_date time id unique = absurd end_date
read-kinds bytes b5 b4 b3 b2 b1 r j u C d0 m0 begin None end type date start begin_is end_date time id unique = absurd end_date
read-kinds bytes b5 b4 b3 b2 b1 r j u C d0 m0 begin (Some day) end type date start begin_is end_date time id unique = record {
  nameable = record { span = time.span; job_is = id.job_is; unique_is = unique.unique_is };
  first = date.date;
  first_is = date-of b5 d0 m0 begin b4 date start.in_day begin_is;
  end_date = date_text end_date.date ++ codes ".";
  end_date_is = (end_date.date, date-of b3 day time.minute end b2 end_date time.time.in_day time.end_is, refl);
  text = text-C bytes b5 b4 b3 b2 b1 r j u date.date end_date.date m0 time.minute begin end type date.text start.text end_date.text time.time.text id.text unique.text (ap minute_of_day begin_is ∙ made-minute d0 m0 start.in_day) (ap minute_of_day time.end_is ∙ made-minute day time.minute time.time.in_day);
}

-- a text that is read to its end is a file name
pub read-name : (bytes : List ℕ) (kind : FileType) (begin end : ℕ) (j r u : List ℕ) → ToJob bytes kind begin end j r → ReadsUnique r u → IsFileName bytes (record { kind = kind; begin = begin; end = end; job = j; unique = u })
read-name bytes kind begin end j r u to_job unique =
    let to_end = to_job.before in
    let to_date = to_end.before in
    let to_start = to_date.before in
    let to_first = to_start.before in
    read-kinds bytes to_first.behind to_start.behind to_date.behind to_end.behind to_job.behind r j u kind to_start.day to_start.minute begin to_end.day end to_first.type to_first.date to_start.time to_start.begin_is to_date.date to_end.time to_job.id unique

-- what is behind a date looks like no date where it is a time
time-no_date : (m : ℕ) (r : List ℕ) → ¬ LooksLikeDate (time_text m ++ r)
time-no_date m r like =
    let plus = (like_looks (time_text m ++ r) like).1 4 0 (omega arith) in
    cc

-- the end of type A is the first moment after the start
end-first : (begin end : ℕ) → IsFileSpan A begin end → IsEnd begin None (minute_of_day end) end
end-first begin end span =
    let at = span.end_is in
    let whole = end-whole A begin end span in
    let m : (span.minutes ≤ 60) × (1 ≤ span.minutes) = elim (file_length-A span.minutes span.permitted) [ inl h ↦ omega arith | inr (inl h) ↦ omega arith | inr (inr (inl h)) ↦ omega arith | inr (inr (inr (inl h))) ↦ omega arith | inr (inr (inr (inr h))) ↦ omega arith ] in
    (omega arith, omega arith, whole, refl)

-- the parts of a text that end as a name does
parts-of : (bytes b3 j u : List ℕ) (kind : FileType) (first : Date) (begin end : ℕ) (day : Option ℕ) → IsNameable (record { kind = kind; begin = begin; end = end; job = j; unique = u }) → IsDateOf first begin
    → bytes ≡ type_text kind ++ (date_text first ++ codes "." ++ (time_text (minute_of_day begin) ++ codes "-" ++ b3))
    → ReadsEndDate kind b3 day (time_text (minute_of_day end) ++ (codes "_-" ++ (j ++ (codes "_" ++ u)))) → IsEnd begin day (minute_of_day end) end
    → ToJob bytes kind begin end j (codes "_" ++ u)
parts-of bytes b3 j u kind first begin end day nameable first_is text end_date end_is =
    let to_first : ToStartDate bytes kind (begin / 86400) (time_text (minute_of_day begin) ++ codes "-" ++ b3) = record { behind = _; type = text; date = record { date = first; is_date = first_is.is_date; day_is = first_is.day_is; text = refl } } in
    let to_start : ToStart bytes kind begin b3 = record { day = _; minute = minute_of_day begin; behind = _; before = to_first; time = record { in_day = omega arith; text = refl }; begin_is = moment-parts begin nameable.span.whole } in
    let to_date : ToEndDate bytes kind begin day _ = record { behind = b3; before = to_start; date = end_date } in
    let to_end : ToEnd bytes kind begin end (codes "_-" ++ (j ++ (codes "_" ++ u))) = record { day = day; behind = _; before = to_date; time = record { minute = minute_of_day end; time = record { in_day = omega arith; text = refl }; end_is = end_is; span = nameable.span } } in
    record { behind = _; before = to_end; id = record { job_is = nameable.job_is; text = refl; longest = refl } }

-- a file name's text is read to its end
name-kinds : (bytes j u : List ℕ) (kind : FileType) (begin end : ℕ) → IsFileName bytes (record { kind = kind; begin = begin; end = end; job = j; unique = u }) → ToJob bytes kind begin end j (codes "_" ++ u)
name-kinds bytes j u A begin end is =
    let behind = time_text (minute_of_day end) ++ (codes "_-" ++ (j ++ (codes "_" ++ u))) in
    let text : bytes ≡ file_name_text (record { kind = A; begin = begin; end = end; job = j; unique = u }) is.first [] = is.text ∙ ap (file_name_text (record { kind = A; begin = begin; end = end; job = j; unique = u }) is.first) is.end_date_is in
    parts-of bytes behind j u A is.first begin end None is.nameable is.first_is (text ∙ rw (append_assoc j (codes "_") u) refl) (refl, time-no_date (minute_of_day end) _) (end-first begin end is.nameable.span)
name-kinds bytes j u C begin end is =
    let last = is.end_date_is in
    let behind = date_text last.0 ++ codes "." ++ (time_text (minute_of_day end) ++ (codes "_-" ++ (j ++ (codes "_" ++ u)))) in
    let text : bytes ≡ file_name_text (record { kind = C; begin = begin; end = end; job = j; unique = u }) is.first (date_text last.0 ++ codes ".") = is.text ∙ ap (file_name_text (record { kind = C; begin = begin; end = end; job = j; unique = u }) is.first) last.2 in
    parts-of bytes behind j u C is.first begin end (Some (end / 86400)) is.nameable is.first_is (text ∙ rw (append_assoc j (codes "_") u) refl) (record { date = last.0; is_date = last.1.is_date; day_is = last.1.day_is; text = refl }) (moment-parts end (end-whole C begin end is.nameable.span))

pub name-read : (bytes : List ℕ) (name : FileNameParts) → IsFileName bytes name → ToJob bytes name.kind name.begin name.end name.job (codes "_" ++ name.unique) × ReadsUnique (codes "_" ++ name.unique) name.unique
name-read bytes name is =
    (name-kinds bytes name.job name.unique name.kind name.begin name.end is, record { unique_is = is.nameable.unique_is; text = refl })

-- the text of the times, with the ids behind it, is the name's text
pub written-name : (kind : FileType) (begin end : ℕ) (front job unique text : List ℕ) → IsTimesText kind begin end front → IsNameable (record { kind = kind; begin = begin; end = end; job = job; unique = unique })
    → text ≡ front ++ codes "_-" ++ job ++ codes "_" ++ unique
    → IsFileName text (record { kind = kind; begin = begin; end = end; job = job; unique = unique })
written-name kind begin end front job unique text times nameable e = record {
  nameable = nameable;
  first = times.first;
  first_is = times.first_is;
  end_date = times.end_date;
  end_date_is = times.end_date_is;
  text = e ∙ ap (λ (x : List ℕ). x ++ codes "_-" ++ job ++ codes "_" ++ unique) times.text_is;
}
