-- What a whole head that breaks a rule tells of the stream.
use Rattle.std.proofs.Common.{◌≡◌, ℕ, ◌<◌, inr, List, ◌++◌, length, take, refl, ap, ◌∙◌, take_all}
use Rattle.httparse.specs.Grammar.{RequestHead}
use Rattle.httparse.specs.declared.spans.HeaderSpan.{HeaderSpan}
use Rattle.httparse.specs.declared.spans.RequestSpans.{RequestSpans}
use Rattle.pm_base.specs.declared.code.Code.{Code}
use Rattle.pm_base.specs.declared.code.Code.TheVariants.{H2}
use Rattle.pm_http.specs.declared.size.BodySize.TheVariants.{Refused}
use Rattle.pm_http.specs.declared.next.Next.TheVariants as next
use Rattle.pm_http.specs.Head.{body_size}
use Rattle.pm_http.specs.Stream.{HasHead, IsRefused, IsNext}
use Rattle.pm_http.specs.Piece.{IsGathered}
use Rattle.pm_http.proofs.AnswerLemmas.{crowded_size}
use Rattle.pm_http.proofs.StepLemmas.{take_front}

-- A head that is gathered stands at the front of all bytes.
stands : (all gathered left : List ℕ) (headers : List HeaderSpan) (spans : RequestSpans) → (g : IsGathered all gathered left headers spans) → HasHead all g.head
stands all gathered left headers spans g =
    let f = take_front 16384 gathered left in
    (f.0, (g.at.reads.0, ap (take 16384) g.split ∙ f.1 ∙ ap (λ (t : List ℕ). t ++ f.0) (take_all 16384 gathered g.short ∙ g.whole)))

-- The head breaks a rule.
pub next-refused : (all gathered left after : List ℕ) (headers : List HeaderSpan) (spans : RequestSpans) (offset : ℕ) (code : Code)
    → (g : IsGathered all gathered left headers spans) → body_size g.head ≡ Refused code → IsNext all offset (next.Framing code offset) after
next-refused all gathered left after headers spans offset code g size =
    (refl, inr (g.head, stands all gathered left headers spans g, size))

-- The head has too many fields.
pub next-crowded : (all : List ℕ) (h : RequestHead) → HasHead all h → 64 < length h.fields → IsRefused all H2
next-crowded all h stands many = inr (h, stands, crowded_size h many)
