-- What is left to a feed and its source over a read.
use Rattle.std.proofs.Common.{◌≡◌, ◌+◌, ◌-◌, ℕ, List, ◌++◌, take, drop, sym, ◌∙◌, ap, append_assoc, arith}
use Rattle.std.proofs.Math.Seq.{take-add}
use Rattle.std.specs.List.{slice_range}

-- the bytes held before the read, and then those that it gave
front_grown : (held n : ℕ) (moved now : List ℕ) → take held now ≡ take held moved → slice_range now 0 (held + n) ≡ slice_range moved 0 held ++ slice_range now held (held + n)
front_grown held n moved now kept =
    let whole : held + n - 0 ≡ held + n = omega arith in
    let first : held ≡ held - 0 = omega arith in
    let second : n ≡ held + n - held = omega arith in
    ap (λ (k : ℕ). take k now) whole ∙ take-add held n now ∙ ap (λ (l : List ℕ). l ++ take n (drop held now)) kept
    ∙ ap (λ (k : ℕ). take k moved ++ take n (drop held now)) first ∙ ap (λ (k : ℕ). take (held - 0) moved ++ take k (drop held now)) second

-- What is left stays as it was: the held bytes are moved to the front, and the source's first ones come after them.
pub left_to-read : (buffer moved now left rest : List ℕ) (start end n : ℕ) → slice_range moved 0 (end - start) ≡ slice_range buffer start end → take (end - start) now ≡ take (end - start) moved → left ≡ slice_range now (end - start) (end - start + n) ++ rest → slice_range now 0 (end - start + n) ++ rest ≡ slice_range buffer start end ++ left
left_to-read buffer moved now left rest start end n held kept gave =
    ap (λ (l : List ℕ). l ++ rest) (front_grown (end - start) n moved now kept)
    ∙ append_assoc (slice_range moved 0 (end - start)) (slice_range now (end - start) (end - start + n)) rest
    ∙ ap (λ (l : List ℕ). l ++ (slice_range now (end - start) (end - start + n) ++ rest)) held
    ∙ ap (λ (l : List ℕ). slice_range buffer start end ++ l) (sym gave)
