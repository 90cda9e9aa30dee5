-- The requests of turns, as a stream.
use Rattle.std.proofs.Common.{◌≡◌, ◌+◌, ◌-◌, ◌≤◌, ℕ, List, [], ◌∷◌, length, Option, None, sym, subst, arith}
use Rattle.pm_http.specs.declared.request.Request.{Request}
use Rattle.pm_http.specs.declared.next.Next.{Next}
use Rattle.pm_http.specs.StreamLaw.{IsStream, Either}
use Rattle.pm_top.specs.SessionTurn.{Turned, AreOpen, Asks}
use Rattle.pm_top.specs.SessionLaw.{requests_of}
use Rattle.pm_top.proofs.SessionLemmas.{takes}

left-less : (bytes : List ℕ) (turns : List Turned) (left : List ℕ) → Asks bytes turns left → length left ≤ length bytes
left-less bytes [] left asks = subst (λ l. length l ≤ length bytes) (sym asks) (omega arith)
left-less bytes (turned ∷ turns) left asks =
    let less = left-less bytes turns asks.0 asks.1 in
    let first = takes asks.0 turned.request left asks.2 in
    omega (arith, less, first)

pub turns-are-stream : (bytes left : List ℕ) (offset : ℕ) (turns : List Turned) (others : List Request) (end : Option Next) → Asks bytes turns left
    → AreOpen turns → IsStream left (offset + (length bytes - length left)) others end → IsStream bytes offset (requests_of turns others) end
turns-are-stream bytes left offset [] others end asks on stream =
    let here : offset + (length bytes - length bytes) ≡ offset = omega arith in
    subst (λ o. IsStream bytes o others end) here (subst (λ l. IsStream l (offset + (length bytes - length l)) others end) asks stream)
turns-are-stream bytes left offset (turned ∷ turns) others end asks on stream =
    let mid = asks.0 in
    let less = left-less bytes turns mid asks.1 in
    let first = takes mid turned.request left asks.2 in
    let there : offset + (length bytes - length left) ≡ (offset + (length bytes - length mid)) + (length mid - length left) = omega (arith, less, first) in
    turns-are-stream bytes mid offset turns (turned.request ∷ others) end asks.1 on.1 (
      left,
      asks.2,
      subst (λ b. Either b ((others ≡ []) × (end ≡ None)) (IsStream left ((offset + (length bytes - length mid)) + (length mid - length left)) others end)) (sym on.0)
          (subst (λ o. IsStream left o others end) there stream),
    )
