-- A head ends with a line, so the pieces in which it is gathered don't go past its end.
use Rattle.std.proofs.Common.{◌≡◌, ◌≢◌, ℕ, ◌≤◌, inl, inr, List, [], ◌∷◌, ◌++◌, length, refl, sym, ap, ◌∙◌, subst, arith, append_assoc, append-nil, length-append}
use Rattle.std.specs.List.{All, flat_map}
use Rattle.std.proofs.lemmas.Bool.{cases_lt}
use Rattle.std.proofs.lemmas.List.Elements.{All-head, All-tail}
use Rattle.httparse.specs.Grammar.{LineEnd, crlf, lf, print_end, print_blank, print_version, Field, print_field, print_section, RequestHead, print_request, ReadsRequest, HasNoRequest}
use Rattle.pm_base.specs.Lines.{HasNoLineFeed}
use Rattle.pm_http.specs.Piece.{EndsBlank}

-- Of two ways to part a list, the longer prefix begins with the shorter one.
pub parts : (a b c d : List ℕ) → a ++ b ≡ c ++ d → length a ≤ length c → (m : List ℕ) × (c ≡ a ++ m) × (b ≡ m ++ d)
parts [] b c d e le = (c, refl, e)
parts (x ∷ a) b [] d e le = absurd (omega (arith, le))
parts (x ∷ a) b (y ∷ c) d e le =
    let same : x ≡ y = cc in
    let rest : a ++ b ≡ c ++ d = cc in
    let less : length a ≤ length c = omega (arith, le) in
    let more = parts a b c d rest less in
    let whole : y ∷ c ≡ (x ∷ a) ++ more.0 = cc (same, more.1) in
    (more.0, whole, more.2)

-- A byte that stands nowhere stands not here.
lone_byte : (byte : ℕ) (front rest : List ℕ) → All (λ b. b ≢ byte) (front ++ byte ∷ rest) → ⊥
lone_byte byte [] rest plain = All-head (λ b. b ≢ byte) byte rest plain refl
lone_byte byte (x ∷ front) rest plain = lone_byte byte front rest (All-tail (λ b. b ≢ byte) x (front ++ byte ∷ rest) plain)

lone : (front rest : List ℕ) → HasNoLineFeed (front ++ 10 ∷ rest) → ⊥
lone front rest plain = lone_byte 10 front rest plain

-- A line has one line feed, at its end.
only_end : (line front rest : List ℕ) → HasNoLineFeed line → line ++ 10 ∷ [] ≡ front ++ 10 ∷ rest → (front ≡ line) × (rest ≡ [])
only_end line front rest plain e =
    let sizes = simp length-append at (ap length e) in
    let le : length front ≤ length line = omega (arith, sizes) in
    let p = parts front (10 ∷ rest) line (10 ∷ []) (sym e) le in
    by p.0 p.1 p.2
  where
    by : (k : List ℕ) → line ≡ front ++ k → 10 ∷ rest ≡ k ++ 10 ∷ [] → (front ≡ line) × (rest ≡ [])
    by [] a b =
        let none : rest ≡ [] = cc in
        (sym (a ∙ append-nil front), none)
    by (x ∷ k) a b =
        let first : x ≡ 10 = cc in
        absurd (lone front k (subst HasNoLineFeed (a ∙ ap (λ (y : ℕ). front ++ y ∷ k) first) plain))

-- The last byte is a line feed.
abbrev EndsLine : List ℕ → Type 0
EndsLine bytes = (front : List ℕ) × (bytes ≡ front ++ 10 ∷ [])

end_ends : (e : LineEnd) → EndsLine (print_end e)
end_ends crlf = (13 ∷ [], refl)
end_ends lf = ([], refl)

append_ends : (a b : List ℕ) → EndsLine b → EndsLine (a ++ b)
append_ends a b e = (a ++ e.0, ap (λ (t : List ℕ). a ++ t) e.1 ∙ sym (append_assoc a e.0 (10 ∷ [])))

field_ends : (f : Field) → EndsLine (print_field f)
field_ends f = append_ends (f.name ++ 58 ∷ f.raw) (print_end f.end) (end_ends f.end)

fields_end : (fs : List Field) (a : List ℕ) → EndsLine a → EndsLine (a ++ flat_map print_field fs)
fields_end [] a e = subst EndsLine (sym (append-nil a)) e
fields_end (f ∷ fs) a e =
    subst EndsLine (append_assoc a (print_field f) (flat_map print_field fs))
    (fields_end fs (a ++ print_field f) (append_ends a (print_field f) (field_ends f)))

-- the lines of a head before its empty one
abbrev start : RequestHead → List ℕ
start h =
    print_blank h.blank ++ h.method ++ 32 ∷ h.target ++ 32 ∷ print_version h.minor ++ print_end h.line_end

-- A head is lines, and then an empty one.
request_lines : (h : RequestHead) → (front : List ℕ) × (print_request h ≡ front ++ 10 ∷ print_end h.last)
unfolding print_request
request_lines h =
    let first : EndsLine (start h) = append_ends (print_blank h.blank ++ h.method ++ 32 ∷ h.target ++ 32 ∷ print_version h.minor) (print_end h.line_end) (end_ends h.line_end) in
    let lines = fields_end h.fields (start h) first in (
      lines.0,
      sym (append_assoc (start h) (flat_map print_field h.fields) (print_end h.last))
          ∙ ap (λ (t : List ℕ). t ++ print_end h.last) lines.1
          ∙ append_assoc lines.0 (10 ∷ []) (print_end h.last),
    )

pub request_ends : (h : RequestHead) → EndsLine (print_request h)
request_ends h =
    let lines = request_lines h in
    subst EndsLine (sym lines.1) (append_ends lines.0 (10 ∷ print_end h.last) (append_ends (10 ∷ []) (print_end h.last) (end_ends h.last)))

-- Nothing is no head.
pub no_head-nothing : HasNoRequest []
no_head-nothing h rest reads =
    let ends = request_ends h in
    let sizes = simp length-append at (ap length reads.1) in
    let whole = simp length-append at (ap length ends.1) in
    omega (arith, sizes, whole)

-- A head that a piece completes ends in the piece, with a line feed.
ends_in : (old bytes : List ℕ) (h : RequestHead) (rest : List ℕ) → HasNoRequest old → ReadsRequest (old ++ bytes) h rest
    → (m : List ℕ) × (bytes ≡ m ++ 10 ∷ rest) × (print_request h ≡ old ++ m ++ 10 ∷ [])
ends_in old bytes h rest none reads =
    elim (cases_lt (length old) (length (print_request h))) [
      | inl longer ↦ (
          let less : length old ≤ length (print_request h) = omega (arith, longer) in
          let p = parts old bytes (print_request h) rest reads.1 less in
          let ends = request_ends h in
          let sizes = simp length-append at (ap length ends.1) in
          let before : length old ≤ length ends.0 = omega (arith, longer, sizes) in
          let q = parts old p.0 ends.0 (10 ∷ []) (sym p.1 ∙ ends.1) before in
          (q.0, p.2 ∙ ap (λ (t : List ℕ). t ++ rest) q.2 ∙ append_assoc q.0 (10 ∷ []) rest, ends.1 ∙ ap (λ (t : List ℕ). t ++ 10 ∷ []) q.1)
          )
      | inr shorter ↦ (
          let p = parts (print_request h) rest old bytes (sym reads.1) shorter in
          absurd (none h p.0 (reads.0, p.1))
          )
    ]

-- A part of a line completes no head.
pub no_head-part : (old bytes : List ℕ) → HasNoRequest old → HasNoLineFeed bytes → HasNoRequest (old ++ bytes)
no_head-part old bytes none plain h rest reads =
    let e = ends_in old bytes h rest none reads in
    lone e.0 rest (subst HasNoLineFeed e.1 plain)

-- A head that a line completes ends with the line.
pub head_ends-line : (old line : List ℕ) (h : RequestHead) (rest : List ℕ) → HasNoRequest old → HasNoLineFeed line
    → ReadsRequest (old ++ (line ++ 10 ∷ [])) h rest → (rest ≡ []) × (print_request h ≡ old ++ line ++ 10 ∷ [])
head_ends-line old line h rest none plain reads =
    let e = ends_in old (line ++ 10 ∷ []) h rest none reads in
    let o = only_end line e.0 rest plain e.1 in
    (o.1, e.2 ∙ ap (λ (t : List ℕ). old ++ t ++ 10 ∷ []) o.0)

blank_end : (e : LineEnd) (lines bytes : List ℕ) → bytes ≡ lines ++ 10 ∷ print_end e → EndsBlank bytes
blank_end crlf lines bytes is = (lines, inr is)
blank_end lf lines bytes is = (lines, inl is)

-- A line completes a head only where an empty line ends then.
pub no_head-line : (old line : List ℕ) → HasNoRequest old → HasNoLineFeed line → (EndsBlank (old ++ (line ++ 10 ∷ [])) → ⊥)
    → HasNoRequest (old ++ (line ++ 10 ∷ []))
no_head-line old line none plain other h rest reads =
    let whole = head_ends-line old line h rest none plain reads in
    let lines = request_lines h in
    other (blank_end h.last lines.0 (old ++ (line ++ 10 ∷ [])) (sym (append_assoc old line (10 ∷ [])) ∙ sym whole.1 ∙ lines.1))

after : (front a b c d : List ℕ) → front ++ a ++ b ++ c ++ d ≡ front ++ (a ++ b ++ c ++ d)
after front a b c d = simp append_assoc refl

-- A head has a space after its method, so bytes without one hold none.
spaced : (h : RequestHead) → (rest : List ℕ) × (print_request h ≡ (print_blank h.blank ++ h.method) ++ 32 ∷ rest)
unfolding print_request
spaced h =
    let rest = h.target ++ 32 ∷ print_version h.minor ++ print_end h.line_end ++ print_section h.fields h.last in
    (rest, after (print_blank h.blank ++ h.method) (32 ∷ h.target) (32 ∷ print_version h.minor) (print_end h.line_end) (print_section h.fields h.last))

pub no_head-spaceless : (bytes : List ℕ) → All (λ b. b ≢ 32) bytes → HasNoRequest bytes
no_head-spaceless bytes plain h rest reads =
    let s = spaced h in
    let same : bytes ≡ (print_blank h.blank ++ h.method) ++ 32 ∷ (s.0 ++ rest) =
    reads.1 ∙ ap (λ (t : List ℕ). t ++ rest) s.1 ∙ append_assoc (print_blank h.blank ++ h.method) (32 ∷ s.0) rest in
    lone_byte 32 (print_blank h.blank ++ h.method) (s.0 ++ rest) (subst (λ (t : List ℕ). All (λ b. b ≢ 32) t) same plain)
