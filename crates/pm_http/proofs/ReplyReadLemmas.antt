-- What a reply shows that is not read for want of memory.
use Rattle.std.proofs.Common.{◌≡◌, ℕ, ◌≤◌, List, Some, length, take, drop, ap, refl, arith, length-take}
use Rattle.std.proofs.lemmas.List.{length-map}
use Rattle.httparse.specs.Grammar.{ResponseHead, status_code}
use Rattle.httparse.specs.Spans.{IsResponseAt, IsResponseOf, header_bytes, name_and_value}
use Rattle.httparse.specs.declared.spans.HeaderSpan.{HeaderSpan}
use Rattle.httparse.specs.declared.spans.ResponseSpans.{ResponseSpans}
use Rattle.pm_http.specs.Answer.{length_told, IsAnswer}

-- The fields of the head are as few as the places that they are read into.
few_fields : (buf : List ℕ) (places : List HeaderSpan) (spans : ResponseSpans) (h : ResponseHead) → IsResponseAt buf places spans h
    → length h.fields ≤ length places
few_fields buf places spans h at =
    let same = ap length at.fields in
    omega (arith, same, length-map (take spans.headers places) (header_bytes buf), length-map h.fields name_and_value, length-take spans.headers places)

pub some_answer : (buf : List ℕ) (places : List HeaderSpan) (spans : ResponseSpans) → length places ≡ 64 → IsResponseOf buf places spans
    → ((h : ResponseHead) → IsResponseAt buf places spans h → length_told h ≡ Some (length (drop spans.len buf)))
    → (status : ℕ) × (body : List ℕ) × IsAnswer buf status body
some_answer buf places spans room of told = (
  status_code of.0,
  drop spans.len buf,
  record {
    head = of.0;
    reads = of.1.reads;
    few = omega (arith, room, few_fields buf places spans of.0 of.1);
    told = told of.0 of.1;
    code = refl;
  },
)
