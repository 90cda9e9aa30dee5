-- What passes the test of file names is a file name, and is short.
use Rattle.std.proofs.Common.{◌≡◌, ℕ, ◌-◌, ◌/◌, ◌≤◌, ◌||◌, Bool, true, false, List, [], ◌∷◌, ◌++◌, length, refl, ap, ◌∙◌, arith, codes, eqb, bytes_eq}
use Rattle.std.specs.List.{list_any, range_with_len}
use Rattle.std.proofs.lemmas.List.{length-append, length-drop}
use Rattle.pm_base.specs.Names.{IsJobId, IsDnId}
use Rattle.pm_name.specs.Calendar.{day_number}
use Rattle.pm_name.specs.FileName.{FileType, A, C, FileNameParts, IsFileName, IsEndDate, SaysFileName, file_type, date_text, file_name_text}
use Rattle.pm_form.specs.Names.{job_id, dn_id}
use Rattle.pm_form.proofs.NameLemmas.{IsJobId-job_id, IsDnId-dn_id}
use Rattle.pm_file.specs.Agreement.{is_file_span}
use Rattle.pm_file.proofs.SpanLemmas.{IsFileSpan-test}
use Rattle.pm_notice.specs.NameTest.{date_at, is_date, end_date_in, is_end_date, name_in, is_name_of, is_file_name}
use Rattle.pm_notice.proofs.DateTestLemmas.{both, equal, same_bytes, is_date-IsDate}

end-is : (one : Bool) (s : List ℕ) (end : ℕ) → is_end_date one s end ≡ true → IsEndDate (file_type one) end (end_date_in one s)
end-is true s end e = refl
end-is false s end e =
    let p = both (is_date (date_at s 20)) (eqb (day_number (date_at s 20)) (end / 86400)) e in
    (date_at s 20, record { is_date = is_date-IsDate (date_at s 20) p.0; day_is = equal _ _ p.1 }, refl)

passing-says : (one : Bool) (s : List ℕ) (m : ℕ) → is_name_of one s m ≡ true → SaysFileName s
passing-says one s m e =
    let n = name_in one s m in
    let f = date_at s 1 in
    let a = both _ (bytes_eq s (file_name_text n f (end_date_in one s))) e in
    let b = both _ (dn_id n.unique) a.0 in
    let c = both _ (job_id n.job) b.0 in
    let d = both _ (is_file_span one n.begin n.end) c.0 in
    let g = both _ (is_end_date one s n.end) d.0 in
    let h = both (is_date f) (eqb (day_number f) (n.begin / 86400)) g.0 in (
      n,
      record {
        nameable = record {
          span = IsFileSpan-test one n.begin n.end d.1;
          job_is = IsJobId-job_id n.job c.1;
          unique_is = IsDnId-dn_id n.unique b.1;
        };
        first = f;
        first_is = record { is_date = is_date-IsDate f h.0; day_is = equal _ _ h.1 };
        end_date = end_date_in one s;
        end_date_is = end-is one s n.end g.1;
        text = same_bytes s _ a.1;
      },
    )

either : (a b : Bool) {P : Type 0} → (a ≡ true → P) → (b ≡ true → P) → (a || b) ≡ true → P
either true b f g e = f refl
either false b f g e = g e

any-says : (one : Bool) (s : List ℕ) (ms : List ℕ) → list_any (is_name_of one s) ms ≡ true → SaysFileName s
any-says one s [] e = cc
any-says one s (m ∷ ms) e =
    either (is_name_of one s m) (list_any (is_name_of one s) ms) (passing-says one s m) (λ rest. any-says one s ms rest) e

pub says-is_file_name : (s : List ℕ) → is_file_name s ≡ true → SaysFileName s
unfolding is_file_name
says-is_file_name s e =
    either (list_any (is_name_of true s) (range_with_len 1 1440)) (list_any (is_name_of false s) (range_with_len 1 1440))
    (any-says true s (range_with_len 1 1440)) (any-says false s (range_with_len 1 1440)) e

-- ---- a name is short

ids-short : (j u : List ℕ) → IsJobId j → IsDnId u → length ((j ++ codes "_") ++ u) ≤ 97
ids-short j u is is_u =
    let a = length-append (j ++ codes "_") u in
    let b = length-append j (codes "_") in
    let c : length (codes "_") ≡ 1 = refl in
    let d : length j ≤ 32 = is.most in
    let e : length u ≤ 64 = is_u.most in
    omega (arith, a, b, c, d, e)

any-short : (k : FileType) (s : List ℕ) (b e : ℕ) (j u : List ℕ) → IsFileName s (record { kind = k; begin = b; end = e; job = j; unique = u }) → length s ≤ 65535
any-short A s b e j u is =
    let short = ids-short j u is.nameable.job_is is.nameable.unique_is in
    let n : FileNameParts = record { kind = A; begin = b; end = e; job = j; unique = u } in
    let text : s ≡ file_name_text n is.first [] = is.text ∙ ap (λ (t : List ℕ). file_name_text n is.first t) is.end_date_is in
    let long : length ((j ++ codes "_") ++ u) ≡ length (file_name_text n is.first []) - 31 = length-drop 31 (file_name_text n is.first []) in
    let same : length s ≡ length (file_name_text n is.first []) = ap length text in
    omega (arith, short, long, same)
any-short C s b e j u is =
    let short = ids-short j u is.nameable.job_is is.nameable.unique_is in
    let n : FileNameParts = record { kind = C; begin = b; end = e; job = j; unique = u } in
    let l = is.end_date_is.0 in
    let text : s ≡ file_name_text n is.first (date_text l ++ codes ".") = is.text ∙ ap (λ (t : List ℕ). file_name_text n is.first t) is.end_date_is.2 in
    let whole = file_name_text n is.first (date_text l ++ codes ".") in
    let long : length ((j ++ codes "_") ++ u) ≡ length whole - 40 = length-drop 40 whole in
    let same : length s ≡ length (file_name_text n is.first (date_text l ++ codes ".")) = ap length text in
    omega (arith, short, long, same)

pub is_file_name-short : (s : List ℕ) → is_file_name s ≡ true → length s ≤ 65535
is_file_name-short s e =
    let says = says-is_file_name s e in any-short says.0.kind s says.0.begin says.0.end says.0.job says.0.unique says.1
