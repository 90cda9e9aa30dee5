-- Texts on their way to a sink, and two texts put one after the other.
use Rattle.std.proofs.Common.{◌≡◌, ◌+◌, ◌≤◌, ℕ, true, false, List, [], ◌++◌, length, take, Result, Ok, Err, is_ok, is_err, OnErr, refl, sym, ap, ◌∙◌, arith, append_assoc, append-nil, length-append}
use Rattle.std.proofs.lemmas.List.{take-append-le}
use Rattle.std.proofs.Math.Seq.{take-append-add}
use Rattle.pm_http.specs.declared.error.ReplyError.{ReplyError}
use Rattle.pm_http.specs.declared.error.ReplyError.TheVariants.{WriteFault, Memory}
use Rattle.pm_http.specs.Reply.{Writes}
use Rattle.pm_http.specs.Outgoing.{OnWay}

pub on_err : {T E P : Type 0} (r : Result T E) → is_ok r ≡ false → OnErr r P → P
on_err (Ok x) e h = cc (e)
on_err (Err x) e h = h

-- Some first bytes of a text stay so, whatever follows.
longer : (old new first second : List ℕ) → (n : ℕ) × (n ≤ length first) × (new ≡ old ++ take n first)
    → (n : ℕ) × (n ≤ length (first ++ second)) × (new ≡ old ++ take n (first ++ second))
longer old new first second w =
    (w.0, omega (arith, w.1, length-append first second), w.2 ∙ ap (λ (t : List ℕ). old ++ t) (sym (take-append-le w.0 first second w.1)))

-- Behind a first text that is whole, some first bytes of the second are some of both.
shifted : (old middle new first second : List ℕ) → middle ≡ old ++ first → (n : ℕ) × (n ≤ length second) × (new ≡ middle ++ take n second)
    → (n : ℕ) × (n ≤ length (first ++ second)) × (new ≡ old ++ take n (first ++ second))
shifted old middle new first second all w =
    let text : new ≡ old ++ take (length first + w.0) (first ++ second) =
    w.2
    ∙ ap (λ (t : List ℕ). t ++ take w.0 second) all
    ∙ append_assoc old first (take w.0 second)
    ∙ ap (λ (t : List ℕ). old ++ t) (sym (take-append-add first second w.0)) in
    (length first + w.0, omega (arith, w.1, length-append first second), text)

-- A part of the first text is a part of both.
pub Writes-first : (old new first second : List ℕ) (e : ReplyError) → Writes old new first (Err e) → Writes old new (first ++ second) (Err e)
Writes-first old new first second WriteFault w = longer old new first second w
Writes-first old new first second Memory w = w

-- All of the first text, and then what was written of the second.
pub Writes-after : (old middle new first second : List ℕ) (result : Result Unit ReplyError)
    → middle ≡ old ++ first → Writes middle new second result → (result ≡ Err Memory → ⊥) → Writes old new (first ++ second) result
Writes-after old middle new first second (Ok u) all w known = w ∙ ap (λ (t : List ℕ). t ++ second) all ∙ append_assoc old first second
Writes-after old middle new first second (Err WriteFault) all w known = shifted old middle new first second all w
Writes-after old middle new first second (Err Memory) all w known = absurd (known refl)

-- Nothing is on its way.
pub on_nothing : (start : List ℕ) → OnWay false start [] start []
on_nothing start = ([], sym (append-nil start), refl)

-- A part is held.
pub on_held : (start text written held part : List ℕ) → OnWay false start text written held → OnWay false start (text ++ part) written (held ++ part)
on_held start text written held part way = (way.0, way.1, ap (λ (t : List ℕ). t ++ part) way.2 ∙ append_assoc way.0 held part)

-- After a fault more text changes nothing.
pub on_failed : (start text written held part : List ℕ) → OnWay true start text written held → OnWay true start (text ++ part) written held
on_failed start text written held part way = longer start written text part way

-- What is held is put, and then a part.
pub on_put : (start text written new held part : List ℕ) (result : Result Unit ReplyError) → OnWay false start text written held
    → Writes written new (held ++ part) result → (result ≡ Err Memory → ⊥) → OnWay (is_err result) start (text ++ part) new []
on_put start text written new held part (Ok u) way w known = (
  text ++ part,
  w ∙ ap (λ (t : List ℕ). t ++ (held ++ part)) way.1 ∙ append_assoc start way.0 (held ++ part) ∙ ap (λ (t : List ℕ). start ++ t) (sym (whole start text written held part way)),
  sym (append-nil (text ++ part)),
)
  where
    whole : (start text written held part : List ℕ) → (way : OnWay false start text written held) → text ++ part ≡ way.0 ++ (held ++ part)
    whole start text written held part way = ap (λ (t : List ℕ). t ++ part) way.2 ∙ append_assoc way.0 held part
on_put start text written new held part (Err WriteFault) way w known =
    let whole : text ++ part ≡ way.0 ++ (held ++ part) = ap (λ (t : List ℕ). t ++ part) way.2 ∙ append_assoc way.0 held part in
    let all = shifted start written new way.0 (held ++ part) way.1 w in
    (all.0, omega (arith, all.1, ap length whole), all.2 ∙ ap (λ (t : List ℕ). start ++ take all.0 t) (sym whole))
on_put start text written new held part (Err Memory) way w known = absurd (known refl)

-- What is held is put at the end.
pub on_finished : (start text written new held : List ℕ) (result : Result Unit ReplyError) → OnWay false start text written held
    → Writes written new held result → (result ≡ Err Memory → ⊥) → Writes start new text result
on_finished start text written new held (Ok u) way w known =
    w ∙ ap (λ (t : List ℕ). t ++ held) way.1 ∙ append_assoc start way.0 held ∙ ap (λ (t : List ℕ). start ++ t) (sym way.2)
on_finished start text written new held (Err WriteFault) way w known =
    let all = shifted start written new way.0 held way.1 w in
    (all.0, omega (arith, all.1, ap length way.2), all.2 ∙ ap (λ (t : List ℕ). start ++ take all.0 t) (sym way.2))
on_finished start text written new held (Err Memory) way w known = absurd (known refl)
