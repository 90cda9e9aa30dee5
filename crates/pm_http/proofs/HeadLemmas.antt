-- A head has few fields, and stands whatever bytes follow it.
use Rattle.std.proofs.Common.{◌≡◌, ℕ, ◌-◌, ◌*◌, ◌<◌, ◌≤◌, List, [], ◌∷◌, ◌++◌, length, take, drop, map, refl, ap, ◌∙◌, subst, arith, append_assoc, length-append, length-drop, take-append-drop}
use Rattle.std.specs.List.{All, flat_map}
use Rattle.std.proofs.lemmas.List.{take-append-le, drop-append-le}
use Rattle.std.proofs.lemmas.List.Elements.{All-head, All-tail}
use Rattle.httparse.specs.Grammar.{LineEnd, crlf, lf, print_end, Field, IsField, print_field, RequestHead, print_request, ReadsRequest, NeverHasRequest}
use Rattle.httparse.specs.Spans.{IsWithin, IsHeaderWithin, IsRequestWithin, IsRequestAt, RequestExceeds, span_bytes, header_bytes}
use Rattle.httparse.specs.declared.spans.Span.{Span}
use Rattle.httparse.specs.declared.spans.HeaderSpan.{HeaderSpan}
use Rattle.httparse.specs.declared.spans.RequestSpans.{RequestSpans}
use Rattle.httparse.proofs.GrammarLemmas.{ReadsRequest-append}

end_bound : (e : LineEnd) → 1 ≤ length (print_end e)
end_bound crlf = omega arith
end_bound lf = omega arith

field_bound : (f : Field) → IsField f → 3 ≤ length (print_field f)
field_bound f is =
    let ended = end_bound f.end in
    let named : 0 < length f.name = is.name.0 in
    simp length-append (omega arith)

fields_bound : (fs : List Field) → All IsField fs → 3 * length fs ≤ length (flat_map print_field fs)
fields_bound [] all = omega arith
fields_bound (f ∷ fs) all =
    let first = field_bound f (All-head IsField f fs all) in
    let others = fields_bound fs (All-tail IsField f fs all) in
    omega (arith, first, others, length-append (print_field f) (flat_map print_field fs))

-- three bytes at least for each field
pub request_bound : (buf : List ℕ) (h : RequestHead) (rest : List ℕ) → ReadsRequest buf h rest → 3 * length h.fields ≤ length buf
unfolding print_request
request_bound buf h rest reads =
    let fields = fields_bound h.fields reads.0.fields in
    let whole = simp length-append at (ap length reads.1) in
    omega (arith, fields, whole)

-- so 16,384 bytes don't exceed a room of 8,192
pub no_excess : (buf : List ℕ) → length buf ≤ 16384 → RequestExceeds 8192 buf → ⊥
no_excess buf few over =
    let bound = request_bound (over.0 ++ print_end lf) over.3 [] over.4 in
    omega (arith, over.5, bound, few, ap length over.2, length-append over.0 over.1, length-append over.0 (print_end lf))

span_grows : (buf more : List ℕ) (s : Span) → IsWithin (length buf) s → span_bytes (buf ++ more) s ≡ span_bytes buf s
span_grows buf more s within =
    let start : s.start ≤ length buf = omega (arith, within.0, within.1) in
    let size : s.end - s.start ≤ length (drop s.start buf) = omega (arith, within.1, length-drop s.start buf) in
    ap (take (s.end - s.start)) (drop-append-le s.start buf more start) ∙ take-append-le (s.end - s.start) (drop s.start buf) more size

span_grows_below : (buf more : List ℕ) (n : ℕ) (s : Span) → n ≤ length buf → IsWithin n s → span_bytes (buf ++ more) s ≡ span_bytes buf s
span_grows_below buf more n s fits within = span_grows buf more s (within.0, omega (arith, within.1, fits))

headers_grow : (buf more : List ℕ) (n : ℕ) → n ≤ length buf → (hs : List HeaderSpan) → All (IsHeaderWithin n) hs
    → map (header_bytes (buf ++ more)) hs ≡ map (header_bytes buf) hs
headers_grow buf more n fits [] all = refl
headers_grow buf more n fits (h ∷ hs) all =
    let here = All-head (IsHeaderWithin n) h hs all in
    let name = span_grows_below buf more n h.name fits here.0 in
    let value = span_grows_below buf more n h.value fits here.1 in
    let others = headers_grow buf more n fits hs (All-tail (IsHeaderWithin n) h hs all) in
    cc (name, value, others)

-- a head that stands at the front stands there whatever follows
pub whole_grows : (buf more : List ℕ) (hs : List HeaderSpan) (r : RequestSpans) (h : RequestHead)
    → IsRequestWithin buf hs r → IsRequestAt buf hs r h
    → IsRequestWithin (buf ++ more) hs r × IsRequestAt (buf ++ more) hs r h
whole_grows buf more hs r h within at =
    let len : r.len ≤ length buf = within.section.len_fits in (
      record {
        method = within.method;
        path = within.path;
        version = within.version;
        section = record {
          len_fits = omega (arith, len, length-append buf more);
          count_fits = within.section.count_fits;
          headers_fit = within.section.headers_fit;
        };
      },
      record {
        reads = rw (drop-append-le r.len buf more len) (ReadsRequest-append buf h (drop r.len buf) more at.reads);
        len = at.len;
        method = span_grows_below buf more r.len r.method len within.method ∙ at.method;
        path = span_grows_below buf more r.len r.path len within.path ∙ at.path;
        version = at.version;
        fields = headers_grow buf more r.len len (take r.headers hs) within.section.headers_fit ∙ at.fields;
      },
    )

pub never_grows : (buf more : List ℕ) → NeverHasRequest buf → NeverHasRequest (buf ++ more)
never_grows buf more never m = rw (append_assoc buf more m) (never (more ++ m))

-- what is known of the first n bytes is known of all
pub whole_from_front : (n : ℕ) (all : List ℕ) (hs : List HeaderSpan) (r : RequestSpans)
    → IsRequestWithin (take n all) hs r × ((h : RequestHead) × IsRequestAt (take n all) hs r h)
    → IsRequestWithin all hs r × ((h : RequestHead) × IsRequestAt all hs r h)
whole_from_front n all hs r x =
    let grown = whole_grows (take n all) (drop n all) hs r x.1.0 x.0 x.1.1 in
    let both : IsRequestWithin (take n all ++ drop n all) hs r × ((h : RequestHead) × IsRequestAt (take n all ++ drop n all) hs r h) = (grown.0, (x.1.0, grown.1)) in
    subst (λ (b : List ℕ). IsRequestWithin b hs r × ((h : RequestHead) × IsRequestAt b hs r h)) (take-append-drop n all) both

pub never_from_front : (n : ℕ) (all : List ℕ) → NeverHasRequest (take n all) → NeverHasRequest all
never_from_front n all never = subst NeverHasRequest (take-append-drop n all) (never_grows (take n all) (drop n all) never)
