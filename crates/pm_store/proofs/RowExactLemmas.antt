-- Lists of exact rows are exact.
use Rattle.std.proofs.Common.{◌≡◌, ℕ, zero, suc, ◌+◌, ◌*◌, ◌≤◌, false, cond, ltb, List, [], ◌∷◌, ◌++◌, length, take, drop, Some, None, refl, sym, ap, subst, ◌∙◌, append_assoc, take-add, zero-mul, arith}
use Rattle.std.specs.List.{flat_map, AllByRecursion}
use Rattle.std.proofs.lemmas.Bool.{ltb-false, le-ltb}
use Rattle.std.proofs.lemmas.List.{take_at, drop_at, take-append-drop, length-append, length-take, length-drop}
use Rattle.pm_store.specs.Format.{Format}
use Rattle.pm_store.specs.Rows.{Row, values, listed}
use Rattle.pm_store.proofs.FrontLemmas.{IsBytes, IsBytes-take, IsBytes-drop, bind_some, guard_some, Takes, Takes-then, IsExact}
use Rattle.pm_store.proofs.CellLemmas.{IsExactRow}

values_back : {A : Type 0} (row : Row A) → IsExactRow row → (xs : List A) (rest : List ℕ) → AllByRecursion row.Fits xs
    → values row (length xs) (flat_map row.bytes xs ++ rest) ≡ xs
values_back row exact [] rest fits = refl
values_back row exact (x ∷ xs) rest fits =
    let e : (row.bytes x ++ flat_map row.bytes xs) ++ rest ≡ row.bytes x ++ (flat_map row.bytes xs ++ rest) =
    append_assoc (row.bytes x) (flat_map row.bytes xs) rest in
    let len = exact.size x in
    ap (values row (suc (length xs))) e
    ∙ rw (
      take_at (row.bytes x) (flat_map row.bytes xs ++ rest) row.size len,
      drop_at (row.bytes x) (flat_map row.bytes xs ++ rest) row.size len,
      exact.back x fits.0,
      values_back row exact xs rest fits.1,
    ) refl

pub size_of_rows : {A : Type 0} (row : Row A) → IsExactRow row → (xs : List A)
    → length (flat_map row.bytes xs) ≡ length xs * row.size
size_of_rows row exact [] = sym (zero-mul row.size)
size_of_rows row exact (x ∷ xs) =
    omega (arith, length-append (row.bytes x) (flat_map row.bytes xs), exact.size x, size_of_rows row exact xs)

rest_of_rows : {A : Type 0} (row : Row A) → IsExactRow row → (xs : List A) (rest : List ℕ)
    → drop (length xs * row.size) (flat_map row.bytes xs ++ rest) ≡ rest
rest_of_rows row exact xs rest = drop_at (flat_map row.bytes xs) rest (length xs * row.size) (size_of_rows row exact xs)

record Rows {A : Type 0} (row : Row A) (n : ℕ) (bs : List ℕ) : Type 0 where
  bytes : flat_map row.bytes (values row n bs) ≡ take (n * row.size) bs
  fits : AllByRecursion row.Fits (values row n bs)
  count : length (values row n bs) ≡ n

values_only : {A : Type 0} (row : Row A) → IsExactRow row → (n : ℕ) (bs : List ℕ) → IsBytes bs → n * row.size ≤ length bs
    → Rows row n bs
values_only row exact zero bs fits le = record { bytes = rw zero-mul refl; fits = tt; count = refl }
values_only row exact (suc n) bs fits le =
    let one = exact.only (take row.size bs) (IsBytes-take row.size bs fits) (omega (arith, length-take row.size bs)) in
    let more = values_only row exact n (drop row.size bs) (IsBytes-drop row.size bs fits) (omega (
      arith,
      length-drop row.size bs,
    )) in
    let split : suc n * row.size ≡ row.size + n * row.size = omega arith in
    record {
      bytes = rw (one.0, more.bytes, split) (sym (take-add row.size (n * row.size) bs));
      fits = (one.1, more.fits);
      count = ap suc more.count;
    }

pub listed_exact : {A : Type 0} (count : Format ℕ) (row : Row A) → IsExact count → IsExactRow row → IsExact (listed count row)
listed_exact {A} count row number exact = record { back = back; only = only }
  where
    back : (xs : List A) (rest : List ℕ) → count.Fits (length xs) × AllByRecursion row.Fits xs
        → (listed count row).read ((count.bytes (length xs) ++ flat_map row.bytes xs) ++ rest) ≡ Some (xs, rest)
    back xs rest fits =
        let long : ltb (length (flat_map row.bytes xs ++ rest)) (length xs * row.size) ≡ false =
        le-ltb _ _ (omega (arith, length-append (flat_map row.bytes xs) rest, size_of_rows row exact xs)) in
        rw (
          append_assoc (count.bytes (length xs)) (flat_map row.bytes xs) rest,
          number.back (length xs) (flat_map row.bytes xs ++ rest) fits.0,
          long,
          values_back row exact xs rest fits.1,
          rest_of_rows row exact xs rest,
        ) refl

    only : (bs : List ℕ) (xs : List A) (rest : List ℕ) → IsBytes bs → (listed count row).read bs ≡ Some (xs, rest)
        → Takes bs (count.bytes (length xs) ++ flat_map row.bytes xs) rest × (count.Fits (length xs) × AllByRecursion row.Fits xs)
    only bs xs rest fits e =
        let b = bind_some (count.read bs) (λ n. cond (ltb (length n.1) (n.0 * row.size)) None (Some (
          values row n.0 n.1,
          drop (n.0 * row.size) n.1,
        ))) (xs, rest) e in
        let n = b.0 in
        let t = number.only bs n.0 n.1 fits b.1 in
        let g = guard_some (ltb (length n.1) (n.0 * row.size)) (values row n.0 n.1, drop (n.0 * row.size) n.1) (xs, rest) b.2 in
        let long : n.0 * row.size ≤ length n.1 = ltb-false _ _ g.0 in
        let rows = values_only row exact n.0 n.1 t.0.rest_fits long in
        let second : Takes n.1 (flat_map row.bytes (values row n.0 n.1)) (drop (n.0 * row.size) n.1) = record {
          parts = rw rows.bytes (sym (take-append-drop (n.0 * row.size) n.1));
          rest_fits = IsBytes-drop (n.0 * row.size) n.1 t.0.rest_fits;
        } in
        let all = Takes-then bs (count.bytes n.0) n.1 (flat_map row.bytes (values row n.0 n.1)) (drop (n.0 * row.size) n.1) t.0 second in
        subst (λ (p : List A × List ℕ). Takes bs (count.bytes (length p.0) ++ flat_map row.bytes p.0) p.1 × (count.Fits (length p.0) × AllByRecursion row.Fits p.0)) g.1
        (subst (λ (k : ℕ). Takes bs (count.bytes k ++ flat_map row.bytes (values row n.0 n.1)) (drop (n.0 * row.size) n.1) × (count.Fits k × AllByRecursion row.Fits (values row n.0 n.1)))
        (sym rows.count) (all, (t.1, rows.fits)))
