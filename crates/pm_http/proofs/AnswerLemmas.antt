-- Which bytes answer by themselves: whatever follows, they don't end inside a request.
use Rattle.std.proofs.Common.{◌≡◌, ℕ, ◌+◌, ◌-◌, ◌<◌, ◌≤◌, inl, inr, Bool, true, nat_lt, if◌then◌else◌, List, [], ◌++◌, length, take, sym, ap, ◌∙◌, subst, arith, append_assoc, append-nil, length-append}
use Rattle.std.proofs.lemmas.Bool.Decides.{nat_tests}
use Rattle.std.proofs.lemmas.List.{take-append-le}
use Rattle.std.proofs.Math.Seq.{take-append-add}
use Rattle.httparse.specs.Grammar.{RequestHead, print_request, ReadsRequest, HasNoRequest, NeverHasRequest, EndsInTarget}
use Rattle.httparse.proofs.GrammarLemmas.{ReadsRequest-append, request_unique, request_prefix_free}
use Rattle.httparse.specs.declared.spans.HeaderSpan.{HeaderSpan}
use Rattle.httparse.specs.declared.spans.RequestSpans.{RequestSpans}
use Rattle.pm_base.specs.declared.code.Code.{Code}
use Rattle.pm_base.specs.declared.code.Code.TheVariants.{H2}
use Rattle.pm_http.specs.declared.size.BodySize.TheVariants.{Refused, Bytes}
use Rattle.pm_http.specs.Head.{body_size, size_of, fields_of}
use Rattle.pm_http.specs.Stream.{looked_at, EndsInRequest}
use Rattle.pm_http.specs.Piece.{IsGathered, IsAnswered}
use Rattle.pm_http.proofs.HeadLemmas.{never_from_front, never_grows}
use Rattle.pm_http.proofs.StepLemmas.{reads_all}

pub other_size : (code : Code) (n : ℕ) → Refused code ≡ Bytes n → ⊥
other_size code n e = cc (e)

pub same_size : (m n : ℕ) → Bytes m ≡ Bytes n → m ≡ n
same_size m n e = cc (e)

-- A whole head that breaks a rule.
pub answered-Refused : (bytes : List ℕ) (h : RequestHead) (rest : List ℕ) (code : Code) → ReadsRequest bytes h rest → body_size h ≡ Refused code
    → IsAnswered bytes
answered-Refused bytes h rest code reads size = λ more inside. elim inside [
  | inl in_head ↦ in_head.unended.none h (rest ++ more) (ReadsRequest-append bytes h rest more reads)
  | inr in_body ↦ (
      let same = request_prefix_free bytes more h in_body.head rest in_body.body reads in_body.reads in
      other_size code in_body.size (sym size ∙ ap body_size same.0 ∙ in_body.size_is)
      )
]

pub crowded_size : (h : RequestHead) → 64 < length h.fields → body_size h ≡ Refused H2
crowded_size h many =
    let yes : nat_lt 64 (length h.fields) ≡ true = grind (arith, nat_tests) in
    ap (λ (b : Bool). if b then Refused H2 else size_of h.method (fields_of h)) yes

-- A whole head of more than 64 fields.
pub answered-Crowded : (bytes : List ℕ) (h : RequestHead) (rest : List ℕ) → ReadsRequest (looked_at bytes) h rest → 64 < length h.fields
    → IsAnswered bytes
answered-Crowded bytes h rest reads many =
    answered-Refused bytes h _ H2 (reads_all 16384 bytes h rest reads) (crowded_size h many)

-- A whole request.
pub answered-Request : (head body : List ℕ) (h : RequestHead) → ReadsRequest head h [] → body_size h ≡ Bytes (length body) → IsAnswered (head ++ body)
answered-Request head body h reads size = λ more inside. elim inside [
  | inl in_head ↦ in_head.unended.none h (body ++ more) (followed more)
  | inr in_body ↦ (
      let same = request_unique ((head ++ body) ++ more) h in_body.head (body ++ more) in_body.body (followed more) in_body.reads in
      let whole = same_size (length body) in_body.size (sym size ∙ ap body_size same.0 ∙ in_body.size_is) in
      omega (arith, whole, ap length same.1, length-append body more, in_body.less)
      )
]
  where
    followed : (more : List ℕ) → ReadsRequest ((head ++ body) ++ more) h (body ++ more)
    followed more = subst (λ (t : List ℕ). ReadsRequest t h (body ++ more)) (sym (append_assoc head body more)) (ReadsRequest-append head h [] (body ++ more) reads)

-- A head of at most so many bytes stands in the first of them.
pub head_in_front : (n : ℕ) (bytes : List ℕ) (h : RequestHead) (rest : List ℕ) → ReadsRequest bytes h rest → length (print_request h) ≤ n
    → ReadsRequest (take n bytes) h (take (n - length (print_request h)) rest)
head_in_front n bytes h rest reads short =
    let sizes : length (print_request h) + (n - length (print_request h)) ≡ n = omega (arith, short) in
    (reads.0, ap (take n) reads.1 ∙ ap (λ (k : ℕ). take k (print_request h ++ rest)) (sym sizes) ∙ take-append-add (print_request h) rest (n - length (print_request h)))

-- 16,384 bytes without a whole head.
pub answered-Long : (bytes : List ℕ) → 16384 ≤ length bytes → HasNoRequest (looked_at bytes) → IsAnswered bytes
answered-Long bytes many none = λ more inside. elim inside [
  | inl in_head ↦ omega (arith, many, in_head.few, length-append bytes more)
  | inr in_body ↦ none in_body.head (take (16384 - length (print_request in_body.head)) in_body.body)
      (subst (λ (t : List ℕ). ReadsRequest t in_body.head (take (16384 - length (print_request in_body.head)) in_body.body)) (take-append-le 16384 bytes more many)
      (head_in_front 16384 (bytes ++ more) in_body.head in_body.body in_body.reads in_body.short))
]

-- Bytes that begin no head end inside a request only where they end inside a target.
pub never_inside : (bytes more : List ℕ) → NeverHasRequest (looked_at bytes) → EndsInRequest (bytes ++ more) → EndsInTarget (bytes ++ more)
never_inside bytes more never inside =
    let on = never_grows bytes more (never_from_front 16384 bytes never) in
    elim inside [
      | inl in_head ↦ elim in_head.unended.may [
        | inl some ↦ absurd (on some.0 some.1 [] some.2)
        | inr in_target ↦ in_target
      ]
      | inr in_body ↦ absurd (on [] in_body.head in_body.body (subst (λ (t : List ℕ). ReadsRequest t in_body.head in_body.body) (sym (append-nil (bytes ++ more))) in_body.reads))
    ]

whole_head : (all gathered left : List ℕ) (headers : List HeaderSpan) (spans : RequestSpans) → (g : IsGathered all gathered left headers spans)
    → ReadsRequest gathered g.head []
whole_head all gathered left headers spans g = (g.at.reads.0, g.whole ∙ sym (append-nil (print_request g.head)))

-- The head that is gathered breaks a rule.
pub gathered-Refused : (all gathered left : List ℕ) (headers : List HeaderSpan) (spans : RequestSpans) (code : Code)
    → (g : IsGathered all gathered left headers spans) → body_size g.head ≡ Refused code → IsAnswered gathered
gathered-Refused all gathered left headers spans code g size =
    answered-Refused gathered g.head [] code (whole_head all gathered left headers spans g) size

-- The body follows the head that is gathered.
pub gathered-Request : (all gathered left body : List ℕ) (headers : List HeaderSpan) (spans : RequestSpans)
    → (g : IsGathered all gathered left headers spans) → body_size g.head ≡ Bytes (length body) → IsAnswered (gathered ++ body)
gathered-Request all gathered left body headers spans g size =
    answered-Request gathered body g.head (whole_head all gathered left headers spans g) size
