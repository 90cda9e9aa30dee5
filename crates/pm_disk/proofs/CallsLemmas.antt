-- The record of calls grows at its end.
use Rattle.std.proofs.Common.{◌≡◌, ℕ, ◌+◌, ◌≤◌, Bool, List, [], ◌∷◌, ◌++◌, length, take, drop, refl, sym, ◌∙◌, ap, arith, length-append, length-drop}
use Rattle.std.proofs.lemmas.List.{append-nil, nil_from_length, take_all, take-append-le, drop-append-le}
use Rattle.pm_disk.specs.declared.area.Area.{Area}
use Rattle.pm_disk.specs.declared.call.Call.{Call}
use Rattle.pm_disk.specs.declared.call.Call.TheVariants.{Len, Read, Write, Full, Cut, Sync}
use Rattle.pm_disk.specs.Made.{Made, Wrote, CutTo, Synced, Looked}
use Rattle.pm_disk.specs.Calls.{recorded_bytes, calls_made, made_by, IsWithoutBytes}

pub length-calls_made : (calls : List Call) (bytes : List ℕ) → length (calls_made calls bytes) ≡ length calls
length-calls_made [] bytes = refl
length-calls_made (Len area done ∷ calls) bytes = omega (arith, length-calls_made calls bytes)
length-calls_made (Read area at count done ∷ calls) bytes = omega (arith, length-calls_made calls bytes)
length-calls_made (Write area at count done ∷ calls) bytes = omega (arith, length-calls_made calls (drop count bytes))
length-calls_made (Full area at count ∷ calls) bytes = omega (arith, length-calls_made calls bytes)
length-calls_made (Cut area to done ∷ calls) bytes = omega (arith, length-calls_made calls bytes)
length-calls_made (Sync area done ∷ calls) bytes = omega (arith, length-calls_made calls bytes)

pub recorded_bytes-append : (calls more : List Call) → recorded_bytes (calls ++ more) ≡ recorded_bytes calls + recorded_bytes more
recorded_bytes-append [] more = omega arith
recorded_bytes-append (Len area done ∷ calls) more = omega (arith, recorded_bytes-append calls more)
recorded_bytes-append (Read area at count done ∷ calls) more = omega (arith, recorded_bytes-append calls more)
recorded_bytes-append (Write area at count done ∷ calls) more = omega (arith, recorded_bytes-append calls more)
recorded_bytes-append (Full area at count ∷ calls) more = omega (arith, recorded_bytes-append calls more)
recorded_bytes-append (Cut area to done ∷ calls) more = omega (arith, recorded_bytes-append calls more)
recorded_bytes-append (Sync area done ∷ calls) more = omega (arith, recorded_bytes-append calls more)

-- What was recorded stays as it was, whatever follows.
pub calls_made-append : (calls more : List Call) (bytes next : List ℕ) → length bytes ≡ recorded_bytes calls
    → calls_made (calls ++ more) (bytes ++ next) ≡ calls_made calls bytes ++ calls_made more next
calls_made-append [] more bytes next none =
    let empty : bytes ≡ [] = nil_from_length bytes none in
    ap (λ (b : List ℕ). calls_made more (b ++ next)) empty
calls_made-append (Len area done ∷ calls) more bytes next whole = ap (λ (l : List Made). Looked ∷ l) (calls_made-append calls more bytes next whole)
calls_made-append (Read area at count done ∷ calls) more bytes next whole = ap (λ (l : List Made). Looked ∷ l) (calls_made-append calls more bytes next whole)
calls_made-append (Write area at count done ∷ calls) more bytes next whole =
    let fits : count ≤ length bytes = omega arith in
    let rest : length (drop count bytes) ≡ recorded_bytes calls = omega (arith, length-drop count bytes) in
    ap (λ (b : List ℕ). Wrote area at b done ∷ calls_made (calls ++ more) (drop count (bytes ++ next))) (take-append-le count bytes next fits)
    ∙ ap (λ (b : List ℕ). Wrote area at (take count bytes) done ∷ calls_made (calls ++ more) b) (drop-append-le count bytes next fits)
    ∙ ap (λ (l : List Made). Wrote area at (take count bytes) done ∷ l) (calls_made-append calls more (drop count bytes) next rest)
calls_made-append (Full area at count ∷ calls) more bytes next whole = ap (λ (l : List Made). Looked ∷ l) (calls_made-append calls more bytes next whole)
calls_made-append (Cut area to done ∷ calls) more bytes next whole = ap (λ (l : List Made). CutTo area to done ∷ l) (calls_made-append calls more bytes next whole)
calls_made-append (Sync area done ∷ calls) more bytes next whole = ap (λ (l : List Made). Synced area done ∷ l) (calls_made-append calls more bytes next whole)

made_without : (call : Call) (bytes : List ℕ) → IsWithoutBytes call → calls_made (call ∷ []) bytes ≡ made_by call ∷ []
made_without (Len area done) bytes none = refl
made_without (Read area at count done) bytes none = refl
made_without (Write area at count done) bytes none = absurd none
made_without (Full area at count) bytes none = refl
made_without (Cut area to done) bytes none = refl
made_without (Sync area done) bytes none = refl

recorded_without : (call : Call) → IsWithoutBytes call → recorded_bytes (call ∷ []) ≡ 0
recorded_without (Len area done) none = refl
recorded_without (Read area at count done) none = refl
recorded_without (Write area at count done) none = absurd none
recorded_without (Full area at count) none = refl
recorded_without (Cut area to done) none = refl
recorded_without (Sync area done) none = refl

-- A call other than a write.
pub made_push : (calls calls' : List Call) (bytes : List ℕ) (call : Call) → length bytes ≡ recorded_bytes calls
    → IsWithoutBytes call → calls' ≡ calls ++ call ∷ [] → calls_made calls' bytes ≡ calls_made calls bytes ++ made_by call ∷ []
made_push calls calls' bytes call whole none is =
    ap (λ (cs : List Call). calls_made cs bytes) is
    ∙ ap (λ (b : List ℕ). calls_made (calls ++ call ∷ []) b) (sym (append-nil bytes))
    ∙ calls_made-append calls (call ∷ []) bytes [] whole
    ∙ ap (λ (l : List Made). calls_made calls bytes ++ l) (made_without call [] none)

pub whole_push : (calls calls' : List Call) (bytes : List ℕ) (call : Call) → length bytes ≡ recorded_bytes calls
    → IsWithoutBytes call → calls' ≡ calls ++ call ∷ [] → length bytes ≡ recorded_bytes calls'
whole_push calls calls' bytes call whole none is =
    let more : recorded_bytes calls' ≡ recorded_bytes calls + recorded_bytes (call ∷ []) = ap recorded_bytes is ∙ recorded_bytes-append calls (call ∷ []) in
    omega (arith, whole, more, recorded_without call none)

-- A write.
pub made_push_write : (calls calls' : List Call) (bytes bytes' next : List ℕ) (area : Area) (at : ℕ) (done : Bool)
    → length bytes ≡ recorded_bytes calls → bytes' ≡ bytes ++ next → calls' ≡ calls ++ Write area at (length next) done ∷ []
    → calls_made calls' bytes' ≡ calls_made calls bytes ++ Wrote area at next done ∷ []
made_push_write calls calls' bytes bytes' next area at done whole bytes_are is =
    ap (λ (cs : List Call). calls_made cs bytes') is
    ∙ ap (λ (b : List ℕ). calls_made (calls ++ Write area at (length next) done ∷ []) b) bytes_are
    ∙ calls_made-append calls (Write area at (length next) done ∷ []) bytes next whole
    ∙ ap (λ (b : List ℕ). calls_made calls bytes ++ Wrote area at b done ∷ []) (take_all (length next) next (omega arith))

pub whole_push_write : (calls calls' : List Call) (bytes bytes' next : List ℕ) (area : Area) (at : ℕ) (done : Bool)
    → length bytes ≡ recorded_bytes calls → bytes' ≡ bytes ++ next → calls' ≡ calls ++ Write area at (length next) done ∷ []
    → length bytes' ≡ recorded_bytes calls'
whole_push_write calls calls' bytes bytes' next area at done whole bytes_are is =
    let more : recorded_bytes calls' ≡ recorded_bytes calls + (length next + 0) = ap recorded_bytes is ∙ recorded_bytes-append calls (Write area at (length next) done ∷ []) in
    let longer : length bytes' ≡ length bytes + length next = ap length bytes_are ∙ length-append bytes next in
    omega (arith, whole, more, longer)
