-- That bytes go on in one way.
use Rattle.std.proofs.Common.{◌≡◌, ℕ, ◌+◌, ◌-◌, ◌≤◌, ◌⊎◌, inl, inr, Bool, true, false, Option, None, List, [], ◌∷◌, ◌++◌, length, refl, sym, ap, ◌∙◌, subst, arith, append-nil, length-append, take_all}
use Rattle.std.specs.Bool.{IsTrue}
use Rattle.std.specs.Str.{IsUtf8}
use Rattle.std.proofs.lemmas.List.Elements.{All-nil, All-cons}
use Rattle.std.proofs.lemmas.Str.{IsUtf8-encode, encode_ascii}
use Rattle.httparse.specs.Grammar.{is_token_byte, is_uri_byte, IsField, lf, RequestHead, IsRequestHead, print_request, ReadsRequest, HasNoRequest, NeverHasRequest, EndsInTarget}
use Rattle.httparse.proofs.GrammarLemmas.{request_unique}
use Rattle.pm_base.specs.declared.blob.Blob.{Blob}
use Rattle.pm_base.specs.declared.text.Text.{Text}
use Rattle.pm_base.specs.declared.code.Code.{Code}
use Rattle.pm_base.specs.declared.code.Code.TheVariants.{H1, H2}
use Rattle.pm_http.specs.declared.size.BodySize.TheVariants.{Refused, Bytes}
use Rattle.pm_http.specs.declared.request.Request.{Request}
use Rattle.pm_http.specs.declared.next.Next.TheVariants as next
use Rattle.pm_http.specs.Head.{body_size, fields_of, moment_of, closes}
use Rattle.pm_http.specs.Stream.{looked_at, HasHead, IsFirst, IsUnfinished, HasNoHead, IsRefused, EndsInHead, EndsInBody, EndsInRequest}
use Rattle.pm_http.specs.StreamLaw.{OneNext, Either, IsStream, OneStep}
use Rattle.pm_http.proofs.GatherLemmas.{no_head-nothing}
use Rattle.pm_http.proofs.StepLemmas.{reads_all}
use Rattle.pm_http.proofs.AnswerLemmas.{head_in_front, other_size, same_size}

-- Some bytes are a head.
abbrev a_head : RequestHead
a_head = record { blank = []; method = 71 ∷ []; target = 47 ∷ []; minor = 1; line_end = lf; fields = []; last = lf }

a_head_is : IsRequestHead a_head
unfolding is_token_byte
a_head_is = record {
  method = (omega arith, All-cons (λ b. IsTrue (is_token_byte b)) 71 [] refl (All-nil (λ b. IsTrue (is_token_byte b))));
  target = (omega arith, All-cons (λ b. IsTrue (is_uri_byte b)) 47 [] refl (All-nil (λ b. IsTrue (is_uri_byte b))));
  target_text = subst IsUtf8 (encode_ascii 47 (omega arith)) (IsUtf8-encode 47 refl);
  minor = omega arith;
  fields = All-nil IsField;
}

nothing_may : NeverHasRequest [] → ⊥
nothing_may never = never (print_request a_head) a_head [] (a_head_is, sym (append-nil (print_request a_head)))

never_now : (bytes : List ℕ) → NeverHasRequest bytes → HasNoRequest bytes
never_now bytes never = subst HasNoRequest (append-nil bytes) (never [])

-- A refusal without a head leaves none in the bytes that are looked at.
none_looked_at : (bytes : List ℕ) (code : Code) → HasNoHead bytes code → HasNoRequest (looked_at bytes)
none_looked_at bytes H1 never = never_now (looked_at bytes) never
none_looked_at bytes H2 is = is.1.none
none_looked_at bytes code is = absurd is

-- A whole request has its head in the bytes that are looked at.
first_head : (bytes : List ℕ) (request : Request) (after : List ℕ) → (f : IsFirst bytes request after) → HasHead bytes f.head
first_head bytes request after f = (_, head_in_front 16384 bytes f.head (request.body ++ after) f.reads f.short)

body_head : (bytes : List ℕ) → (e : EndsInBody bytes) → HasHead bytes e.head
body_head bytes e = (_, head_in_front 16384 bytes e.head e.body e.reads e.short)

-- Two heads that stand at the front are one.
one_head : (bytes : List ℕ) (h k : RequestHead) → HasHead bytes h → HasHead bytes k → h ≡ k
one_head bytes h k a b = (request_unique (looked_at bytes) h k a.0 b.0 a.1 b.1).0

same_front : (a b c d : List ℕ) → a ++ b ≡ c ++ d → length a ≡ length c → a ≡ c
same_front [] b [] d e sizes = refl
same_front [] b (y ∷ c) d e sizes = absurd (omega (arith, sizes))
same_front (x ∷ a) b [] d e sizes = absurd (omega (arith, sizes))
same_front (x ∷ a) b (y ∷ c) d e sizes =
    let first : x ≡ y = cc in
    let rest : a ++ b ≡ c ++ d = cc in
    let fewer : length a ≡ length c = omega (arith, sizes) in
    cc (first, same_front a b c d rest fewer)

same_code : (c d : Code) → Refused c ≡ Refused d → c ≡ d
same_code c d e = cc (e)

abbrev with_parts : Text → Text → Option Text → Bool → Blob → Request
with_parts method target moment close body = record { method = method; target = target; moment = moment; close = close; body = body }

same_request : (r s : Request) → r.method ≡ s.method → r.target ≡ s.target → r.moment ≡ s.moment → r.close ≡ s.close → r.body ≡ s.body → r ≡ s
same_request r s method target moment close body =
    ap (λ m. with_parts m r.target r.moment r.close r.body) method ∙ ap (λ t. with_parts s.method t r.moment r.close r.body) target
    ∙ ap (λ m. with_parts s.method s.target m r.close r.body) moment ∙ ap (λ c. with_parts s.method s.target s.moment c r.body) close
    ∙ ap (λ b. with_parts s.method s.target s.moment s.close b) body

-- Of two requests at the front both are one.
request_request : (bytes : List ℕ) (r s : Request) (left rest : List ℕ) → IsFirst bytes r left → IsFirst bytes s rest → r ≡ s
request_request bytes r s left rest f g =
    let same = request_unique bytes f.head g.head (r.body ++ left) (s.body ++ rest) f.reads g.reads in
    let sizes = same_size (length r.body) (length s.body) (sym f.size ∙ ap body_size same.0 ∙ g.size) in
    let head = same.0 in
    same_request r s
    (f.parts.method ∙ ap (λ (h : RequestHead). h.method) head ∙ sym g.parts.method)
    (f.parts.target ∙ ap (λ (h : RequestHead). h.target) head ∙ sym g.parts.target)
    (f.parts.moment ∙ ap (λ (h : RequestHead). moment_of (fields_of h)) head ∙ sym g.parts.moment)
    (f.parts.close ∙ ap (λ (h : RequestHead). closes h.minor (fields_of h)) head ∙ sym g.parts.close)
    (same_front r.body left s.body rest same.1 sizes)

-- A refusal stands beside no whole request, and beside no cut in a body.
not_refused : (bytes : List ℕ) (h : RequestHead) (size : ℕ) (code : Code) → HasHead bytes h → body_size h ≡ Bytes size → IsRefused bytes code → ⊥
not_refused bytes h size code stands is refused = elim refused [
  | inl none ↦ none_looked_at bytes code none h stands.0 stands.1
  | inr broken ↦ other_size code size (sym broken.2 ∙ ap body_size (one_head bytes broken.0 h broken.1 stands) ∙ is)
]

-- A whole request stands where no cut does.
not_cut : (bytes : List ℕ) (request : Request) (after : List ℕ) → IsFirst bytes request after → EndsInRequest bytes → ⊥
not_cut bytes request after f cut = elim cut [
  | inl in_head ↦ in_head.unended.none f.head (request.body ++ after) f.reads
  | inr in_body ↦ (
      let same = request_unique bytes f.head in_body.head (request.body ++ after) in_body.body f.reads in_body.reads in
      let size = same_size (length request.body) in_body.size (sym f.size ∙ ap body_size same.0 ∙ in_body.size_is) in
      omega (arith, size, ap length same.1, length-append request.body after, in_body.less)
      )
]

-- Nothing is refused where nothing is left.
nothing_refused : (code : Code) → IsRefused [] code → ⊥
nothing_refused code refused = elim refused [
  | inl none ↦ without code none
  | inr broken ↦ no_head-nothing broken.0 broken.1.0 broken.1.1
]
  where
    without : (code : Code) → HasNoHead [] code → ⊥
    without H1 never = nothing_may never
    without H2 is = omega (arith, is.0)
    without code is = absurd is

-- Bytes that are the front of no head may become one only where they end inside a target.
never_may : (bytes : List ℕ) → NeverHasRequest bytes → IsUnfinished bytes → EndsInTarget bytes
never_may bytes never open_head = elim open_head.may [
  | inl some ↦ absurd (never some.0 some.1 [] some.2)
  | inr in_target ↦ in_target
]

-- Of two refusals without a head both are one.
both_without : (bytes : List ℕ) (c d : Code) → HasNoHead bytes c → HasNoHead bytes d → (c ≡ d) ⊎ EndsInTarget (looked_at bytes)
both_without bytes H1 H1 a b = inl refl
both_without bytes H1 H2 a b = inr (never_may (looked_at bytes) a b.1)
both_without bytes H2 H1 a b = inr (never_may (looked_at bytes) b a.1)
both_without bytes H2 H2 a b = inl refl
both_without bytes H1 d a b = absurd b
both_without bytes H2 d a b = absurd b
both_without bytes c d a b = absurd a

one_code : (bytes : List ℕ) (c d : Code) → IsRefused bytes c → IsRefused bytes d → (c ≡ d) ⊎ EndsInTarget (looked_at bytes)
one_code bytes c d (inl a) (inl b) = both_without bytes c d a b
one_code bytes c d (inl a) (inr b) = absurd (none_looked_at bytes c a b.0 b.1.0 b.1.1)
one_code bytes c d (inr a) (inl b) = absurd (none_looked_at bytes d b a.0 a.1.0 a.1.1)
one_code bytes c d (inr a) (inr b) =
    inl (same_code c d (sym a.2 ∙ ap body_size (one_head bytes a.0 b.0 a.1 b.1) ∙ b.2))

-- A refusal and a cut stand together only where the bytes end inside a target.
refused_cut : (bytes : List ℕ) (code : Code) → IsRefused bytes code → EndsInRequest bytes → EndsInTarget (looked_at bytes)
refused_cut bytes code (inl none) (inl cut) = without code none
  where
    few : length bytes ≤ 16384
    few = omega (arith, cut.few)

    without : (code : Code) → HasNoHead bytes code → EndsInTarget (looked_at bytes)
    without H1 never = never_may (looked_at bytes) never (subst IsUnfinished (sym (take_all 16384 bytes few)) cut.unended)
    without H2 is = absurd (omega (arith, is.0, cut.few))
    without code is = absurd is
refused_cut bytes code (inr broken) (inl cut) =
    absurd (cut.unended.none broken.0 _ (reads_all 16384 bytes broken.0 broken.1.0 broken.1.1))
refused_cut bytes code refused (inr cut) =
    absurd (not_refused bytes cut.head cut.size code (body_head bytes cut) cut.size_is refused)

one_framing : (P : Type 0) (c d : Code) (i j k : ℕ) → i ≡ k → j ≡ k → (c ≡ d) ⊎ P → (next.Framing c i ≡ next.Framing d j) ⊎ P
one_framing P c d i j k one other (inl same) = inl (cc (same, one, other))
one_framing P c d i j k one other (inr p) = inr p

one_cut : (i j k : ℕ) → i ≡ k → j ≡ k → next.CutShort i ≡ next.CutShort j
one_cut i j k one other = cc (one, other)

pub next_is_one : OneNext
next_is_one bytes offset (next.Request r) (next.Request s) left rest a b = inl (ap (λ (t : Request). next.Request t) (request_request bytes r s left rest a b))
next_is_one bytes offset (next.Request r) next.End left rest a b = absurd (no_head-nothing a.head (r.body ++ left) (subst (λ (t : List ℕ). ReadsRequest t a.head (r.body ++ left)) b.0 a.reads))
next_is_one bytes offset (next.Request r) (next.Framing code at) left rest a b = absurd (not_refused bytes a.head (length r.body) code (first_head bytes r left a) a.size b.1)
next_is_one bytes offset (next.Request r) (next.CutShort at) left rest a b = absurd (not_cut bytes r left a b.2)
next_is_one bytes offset next.End (next.Request s) left rest a b = absurd (no_head-nothing b.head (s.body ++ rest) (subst (λ (t : List ℕ). ReadsRequest t b.head (s.body ++ rest)) a.0 b.reads))
next_is_one bytes offset next.End next.End left rest a b = inl refl
next_is_one bytes offset next.End (next.Framing code at) left rest a b = absurd (nothing_refused code (subst (λ (t : List ℕ). IsRefused t code) a.0 b.1))
next_is_one bytes offset next.End (next.CutShort at) left rest a b = absurd (omega (arith, ap length a.0, b.1))
next_is_one bytes offset (next.Framing code at) (next.Request s) left rest a b = absurd (not_refused bytes b.head (length s.body) code (first_head bytes s rest b) b.size a.1)
next_is_one bytes offset (next.Framing code at) next.End left rest a b = absurd (nothing_refused code (subst (λ (t : List ℕ). IsRefused t code) b.0 a.1))
next_is_one bytes offset (next.Framing c i) (next.Framing d j) left rest a b = one_framing (EndsInTarget (looked_at bytes)) c d i j offset a.0 b.0 (one_code bytes c d a.1 b.1)
next_is_one bytes offset (next.Framing code at) (next.CutShort j) left rest a b = inr (refused_cut bytes code a.1 b.2)
next_is_one bytes offset (next.CutShort at) (next.Request s) left rest a b = absurd (not_cut bytes s rest b a.2)
next_is_one bytes offset (next.CutShort at) next.End left rest a b = absurd (omega (arith, ap length b.0, a.1))
next_is_one bytes offset (next.CutShort i) (next.Framing code at) left rest a b = inr (refused_cut bytes code b.1 a.2)
next_is_one bytes offset (next.CutShort i) (next.CutShort j) left rest a b = inl (one_cut i j offset a.0 b.0)

-- What is left after a request is one thing.
same_rest : (a b c d : List ℕ) → a ++ b ≡ c ++ d → length a ≡ length c → b ≡ d
same_rest [] b [] d e sizes = e
same_rest [] b (y ∷ c) d e sizes = absurd (omega (arith, sizes))
same_rest (x ∷ a) b [] d e sizes = absurd (omega (arith, sizes))
same_rest (x ∷ a) b (y ∷ c) d e sizes =
    let rest : a ++ b ≡ c ++ d = cc in
    let fewer : length a ≡ length c = omega (arith, sizes) in
    same_rest a b c d rest fewer

one_rest : (bytes : List ℕ) (r : Request) (left rest : List ℕ) → IsFirst bytes r left → IsFirst bytes r rest → left ≡ rest
one_rest bytes r left rest f g =
    same_rest r.body left r.body rest (request_unique bytes f.head g.head (r.body ++ left) (r.body ++ rest) f.reads g.reads).1 refl

open_one : (b : Bool) (first second : Type 0) → b ≡ false → Either b first second → second
open_one true first second e is = cc (e)
open_one false first second e is = is

close_one : (b : Bool) (first second : Type 0) → b ≡ false → second → Either b first second
close_one true first second e is = cc (e)
close_one false first second e is = is

pub step_is_one : OneStep
step_is_one bytes after offset request requests end first open_on = (
  λ stream.
      subst (λ (rest : List ℕ). IsStream rest (offset + (length bytes - length rest)) requests end) (one_rest bytes request stream.0 after stream.1 first)
      (open_one request.close ((requests ≡ []) × (end ≡ None)) (IsStream stream.0 (offset + (length bytes - length stream.0)) requests end) open_on stream.2),
  λ stream.
      (after, first, close_one request.close ((requests ≡ []) × (end ≡ None)) (IsStream after (offset + (length bytes - length after)) requests end) open_on stream),
)

-- Nothing may become a head.
pub nothing_in_head : EndsInHead []
nothing_in_head = record {
  few = omega arith;
  unended = record {
    none = no_head-nothing;
    may = inl (print_request a_head, a_head, (a_head_is, sym (append-nil (print_request a_head))));
  };
}
