-- What was taken where the reading of a request stops at a fault or out of memory.
use Rattle.std.proofs.Common.{◌≡◌, ℕ, ◌<◌, ◌≤◌, inl, inr, List, [], ◌++◌, length, refl, sym, ap, ◌∙◌, subst, arith, append_assoc, append-nil}
use Rattle.std.proofs.lemmas.Bool.{cases_lt}
use Rattle.httparse.specs.Grammar.{print_request, ReadsRequest, HasNoRequest}
use Rattle.httparse.specs.declared.spans.HeaderSpan.{HeaderSpan}
use Rattle.httparse.specs.declared.spans.RequestSpans.{RequestSpans}
use Rattle.pm_http.specs.declared.error.HttpError.{HttpError}
use Rattle.pm_http.specs.declared.error.HttpError.TheVariants as http
use Rattle.pm_http.specs.declared.size.BodySize.TheVariants.{Bytes}
use Rattle.pm_http.specs.Head.{body_size}
use Rattle.pm_http.specs.Stream.{EndsInHead, EndsInBody, MayBegin, IsWhole, StopsAtFault, StopsForMemory}
use Rattle.pm_http.specs.Piece.{IsGathered, Gathers, FailsInBody, StopsInHead, StopsAfterHead}
use Rattle.pm_http.proofs.StreamLawLemmas.{nothing_in_head}

-- Nothing was taken.
pub memory_first : (all : List ℕ) → StopsForMemory all all
memory_first all = record { taken = []; split = refl; good = inl (inl nothing_in_head) }

-- The head was taken, and some first bytes of the body.
read_with : (all gathered left : List ℕ) (headers : List HeaderSpan) (spans : RequestSpans) (body : List ℕ)
    → (g : IsGathered all gathered left headers spans) → ReadsRequest (gathered ++ body) g.head body
read_with all gathered left headers spans body g = (g.at.reads.0, ap (λ (t : List ℕ). t ++ body) g.whole)

short_head : (all gathered left : List ℕ) (headers : List HeaderSpan) (spans : RequestSpans)
    → (g : IsGathered all gathered left headers spans) → length (print_request g.head) ≤ 16384
short_head all gathered left headers spans g = subst (λ (t : List ℕ). length t ≤ 16384) g.whole g.short

in_body : (all gathered left : List ℕ) (headers : List HeaderSpan) (spans : RequestSpans) (body : List ℕ) (size : ℕ)
    → (g : IsGathered all gathered left headers spans) → body_size g.head ≡ Bytes size → length body < size → EndsInBody (gathered ++ body)
in_body all gathered left headers spans body size g is less = record {
  head = g.head;
  body = body;
  size = size;
  reads = read_with all gathered left headers spans body g;
  short = short_head all gathered left headers spans g;
  size_is = is;
  less = less;
}

whole : (all gathered left : List ℕ) (headers : List HeaderSpan) (spans : RequestSpans) (body : List ℕ)
    → (g : IsGathered all gathered left headers spans) → body_size g.head ≡ Bytes (length body) → IsWhole (gathered ++ body)
whole all gathered left headers spans body g is = record {
  head = g.head;
  body = body;
  reads = read_with all gathered left headers spans body g;
  short = short_head all gathered left headers spans g;
  size = is;
}

-- There is no memory for the body.
pub memory_at_body : (all gathered left : List ℕ) (headers : List HeaderSpan) (spans : RequestSpans) (size : ℕ)
    → (g : IsGathered all gathered left headers spans) → body_size g.head ≡ Bytes size → StopsForMemory all left
memory_at_body all gathered left headers spans size g is = record {
  taken = gathered ++ [];
  split = g.split ∙ ap (λ (t : List ℕ). t ++ left) (sym (append-nil gathered));
  good = elim (cases_lt 0 size) [
    | inl some ↦ inl (inr (in_body all gathered left headers spans [] size g is some))
    | inr none ↦ (
        let zero_size : size ≡ 0 = omega (arith, none) in
        inr (whole all gathered left headers spans [] g (is ∙ ap (λ (n : ℕ). Bytes n) zero_size))
        )
  ];
}

joined : (all gathered left body rest : List ℕ) → all ≡ gathered ++ left → left ≡ body ++ rest → all ≡ (gathered ++ body) ++ rest
joined all gathered left body rest split first = split ∙ ap (λ (t : List ℕ). gathered ++ t) first ∙ sym (append_assoc gathered body rest)

-- There is no memory for the parts of a whole request.
pub memory_at_end : (all gathered left body rest : List ℕ) (headers : List HeaderSpan) (spans : RequestSpans)
    → (g : IsGathered all gathered left headers spans) → body_size g.head ≡ Bytes (length body) → left ≡ body ++ rest → StopsForMemory all rest
memory_at_end all gathered left body rest headers spans g is split = record {
  taken = gathered ++ body;
  split = joined all gathered left body rest g.split split;
  good = inr (whole all gathered left headers spans body g is);
}

-- The reading of a body stops.
pub stops_in_body : (all gathered left rest : List ℕ) (headers : List HeaderSpan) (spans : RequestSpans) (size : ℕ) (e : HttpError)
    → (g : IsGathered all gathered left headers spans) → body_size g.head ≡ Bytes size → (e ≡ http.ReadFault → FailsInBody left rest size)
    → (e ≡ http.Memory → ⊥) → StopsAfterHead all rest e
stops_in_body all gathered left rest headers spans size http.ReadFault g is fails known =
    let f = fails refl in record {
      taken = gathered ++ f.taken;
      split = joined all gathered left f.taken rest g.split f.split;
      none = inr (in_body all gathered left headers spans f.taken size g is f.fewer);
    }
stops_in_body all gathered left rest headers spans size http.Memory g is fails known = absurd (known refl)
stops_in_body all gathered left rest headers spans size http.Limit g is fails known = tt

-- The reading of a head stops.
pub fault_in_head : (all left : List ℕ) (e : HttpError) → e ≡ http.ReadFault → StopsInHead all left e → StopsAtFault all left
fault_in_head all left http.ReadFault is stops = record { taken = stops.0; split = stops.1; none = inl stops.2 }
fault_in_head all left http.Memory is stops = cc (is)
fault_in_head all left http.Limit is stops = absurd stops

pub memory_in_head : (all left : List ℕ) (e : HttpError) → e ≡ http.Memory → StopsInHead all left e → StopsForMemory all left
memory_in_head all left http.Memory is stops = record { taken = stops.0; split = stops.1; good = inl (inl stops.2) }
memory_in_head all left http.ReadFault is stops = cc (is)
memory_in_head all left http.Limit is stops = absurd stops

pub no_limit_in_head : (all left : List ℕ) (e : HttpError) → e ≡ http.Limit → StopsInHead all left e → ⊥
no_limit_in_head all left http.Limit is stops = stops
no_limit_in_head all left http.ReadFault is stops = cc (is)
no_limit_in_head all left http.Memory is stops = cc (is)

-- A read fails before the next piece, or the gathered bytes can't grow.
pub fault_at_piece : (all gathered left rest : List ℕ) → Gathers all gathered left → length gathered < 16384 → MayBegin gathered → rest ≡ left
    → StopsInHead all rest http.ReadFault
fault_at_piece all gathered left rest g few begins same =
    (gathered, g.split ∙ ap (λ (t : List ℕ). gathered ++ t) (sym same), record { few = few; none = g.none; begins = begins })

pub memory_at_piece : (all gathered left : List ℕ) → Gathers all gathered left → (HasNoRequest gathered → EndsInHead gathered)
    → StopsInHead all left http.Memory
memory_at_piece all gathered left g open_head = (gathered, g.split, open_head g.none)

-- After a head whose reading went on, why it stopped.
pub fault_after : (all left : List ℕ) (e : HttpError) → e ≡ http.ReadFault → StopsAfterHead all left e → StopsAtFault all left
fault_after all left http.ReadFault is stops = stops
fault_after all left http.Memory is stops = cc (is)
fault_after all left http.Limit is stops = cc (is)

pub memory_after : (all left : List ℕ) (e : HttpError) → e ≡ http.Memory → StopsAfterHead all left e → StopsForMemory all left
memory_after all left http.Memory is stops = stops
memory_after all left http.ReadFault is stops = cc (is)
memory_after all left http.Limit is stops = cc (is)
