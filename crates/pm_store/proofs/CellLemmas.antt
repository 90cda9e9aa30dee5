-- A cell and a cursor are exact in their rows.
use Rattle.std.proofs.Common.{◌≡◌, ℕ, ◌^◌, ◌<◌, List, ◌++◌, length, take, drop, refl, sym, ap, ◌∙◌, arith}
use Rattle.std.specs.Int.{w16, w32, w64, from_be_bytes, to_be_bytes}
use Rattle.std.proofs.lemmas.List.{take-append-drop, length-take, length-drop, drop-drop}
use Rattle.std.proofs.lemmas.Nat.{be_bytes_2, be_bytes_4, be_bytes_8, from_be_bytes-to_be_bytes_2, from_be_bytes-to_be_bytes_4, from_be_bytes-to_be_bytes_8}
use Rattle.pm_meas.specs.declared.cell.Cell.{Cell}
use Rattle.pm_store.specs.Rows.{Row, cell_bytes, cell_in, cell_row, cursor_row, IsSlotCell}
use Rattle.pm_store.proofs.FrontLemmas.{IsBytes, IsBytes-take, IsBytes-drop}

pub record IsExactRow {A : Type 0} (row : Row A) : Type 0 where
  pub size : (a : A) → length (row.bytes a) ≡ row.size
  pub back : (a : A) → row.Fits a → row.value (row.bytes a) ≡ a
  pub only : (bs : List ℕ) → IsBytes bs → length bs ≡ row.size → (row.bytes (row.value bs) ≡ bs) × row.Fits (row.value bs)

pub cursor_exact : IsExactRow cursor_row
cursor_exact = record {
  size = λ n. refl;
  back = λ n lt. from_be_bytes-to_be_bytes_8 n lt;
  only = λ bs fits len. (
    be_bytes_8 bs _ len fits refl,
    omega (
      arith,
      fits 0,
      fits 1,
      fits 2,
      fits 3,
      fits 4,
      fits 5,
      fits 6,
      fits 7,
    ),
  );
}

slot_cell : (c : ℕ × Cell) (slot n sum max min : ℕ) → slot ≡ c.0 → n ≡ c.1.n → sum ≡ c.1.sum → max ≡ c.1.max → min ≡ c.1.min
    → ◌≡◌ {A = ℕ × Cell} (slot, record { n = n; sum = sum; max = max; min = min }) c
slot_cell c slot n sum max min s0 n0 t0 g0 l0 = rw (s0, n0, t0, g0, l0) refl

number16_back : (bs : List ℕ) → IsBytes bs → length bs ≡ 2
    → (to_be_bytes w16 (from_be_bytes w16 bs) ≡ bs) × (from_be_bytes w16 bs < 2 ^ 16)
number16_back bs fits len = (be_bytes_2 bs _ len fits refl, omega (arith, fits 0, fits 1))

number32_back : (bs : List ℕ) → IsBytes bs → length bs ≡ 4
    → (to_be_bytes w32 (from_be_bytes w32 bs) ≡ bs) × (from_be_bytes w32 bs < 2 ^ 32)
number32_back bs fits len = (be_bytes_4 bs _ len fits refl, omega (arith, fits 0, fits 1, fits 2, fits 3))

number64_back : (bs : List ℕ) → IsBytes bs → length bs ≡ 8
    → (to_be_bytes w64 (from_be_bytes w64 bs) ≡ bs) × (from_be_bytes w64 bs < 2 ^ 64)
number64_back bs fits len = cursor_exact.only bs fits len

joined : (a b c d e v w x y z : List ℕ) → a ≡ v → b ≡ w → c ≡ x → d ≡ y → e ≡ z
    → a ++ (b ++ (c ++ (d ++ e))) ≡ v ++ (w ++ (x ++ (y ++ z)))
joined a b c d e v w x y z p q r s t = rw (p, q, r, s, t) refl

-- Bytes in five parts.
parted : (bs : List ℕ) → take 2 bs ++ (take 4 (drop 2 bs) ++ (take 8 (drop 6 bs) ++ (take 4 (drop 14 bs) ++ drop 18 bs))) ≡ bs
parted bs =
    let a : take 4 (drop 14 bs) ++ drop 18 bs ≡ drop 14 bs =
    ap (λ (t : List ℕ). take 4 (drop 14 bs) ++ t) (sym (drop-drop 4 14 bs)) ∙ take-append-drop 4 (drop 14 bs) in
    let b : take 8 (drop 6 bs) ++ drop 14 bs ≡ drop 6 bs =
    ap (λ (t : List ℕ). take 8 (drop 6 bs) ++ t) (sym (drop-drop 8 6 bs)) ∙ take-append-drop 8 (drop 6 bs) in
    let c : take 4 (drop 2 bs) ++ drop 6 bs ≡ drop 2 bs =
    ap (λ (t : List ℕ). take 4 (drop 2 bs) ++ t) (sym (drop-drop 4 2 bs)) ∙ take-append-drop 4 (drop 2 bs) in
    rw (a, b, c) (take-append-drop 2 bs)

pub cell_exact : IsExactRow cell_row
cell_exact = record { size = λ c. refl; back = back; only = only }
  where
    back : (c : ℕ × Cell) → IsSlotCell c → cell_in (cell_bytes c) ≡ c
    back c fits =
        slot_cell c _ _ _ _ _ (from_be_bytes-to_be_bytes_2 c.0 fits.slot) (from_be_bytes-to_be_bytes_4 c.1.n fits.n) (from_be_bytes-to_be_bytes_8 c.1.sum fits.sum)
        (from_be_bytes-to_be_bytes_4 c.1.max fits.max) (from_be_bytes-to_be_bytes_4 c.1.min fits.min)

    only : (bs : List ℕ) → IsBytes bs → length bs ≡ 22 → (cell_bytes (cell_in bs) ≡ bs) × IsSlotCell (cell_in bs)
    only bs fits len =
        let s = number16_back (take 2 bs) (IsBytes-take 2 bs fits) (omega (arith, length-take 2 bs)) in
        let n = number32_back (take 4 (drop 2 bs)) (IsBytes-take 4 (drop 2 bs) (IsBytes-drop 2 bs fits)) (omega (
          arith,
          length-take 4 (drop 2 bs),
          length-drop 2 bs,
        )) in
        let t = number64_back (take 8 (drop 6 bs)) (IsBytes-take 8 (drop 6 bs) (IsBytes-drop 6 bs fits)) (omega (
          arith,
          length-take 8 (drop 6 bs),
          length-drop 6 bs,
        )) in
        let g = number32_back (take 4 (drop 14 bs)) (IsBytes-take 4 (drop 14 bs) (IsBytes-drop 14 bs fits)) (omega (
          arith,
          length-take 4 (drop 14 bs),
          length-drop 14 bs,
        )) in
        let l = number32_back (drop 18 bs) (IsBytes-drop 18 bs fits) (omega (arith, length-drop 18 bs)) in (
          joined _ _ _ _ _ _ _ _ _ _ s.0 n.0 t.0 g.0 l.0 ∙ parted bs,
          record {
            slot = s.1;
            n = n.1;
            sum = t.1;
            max = g.1;
            min =
                l.1;
          },
        )
