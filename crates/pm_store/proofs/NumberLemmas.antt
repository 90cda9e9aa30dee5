-- Numbers in several bytes are exact.
use Rattle.std.proofs.Common.{◌≡◌, ℕ, ◌^◌, ◌<◌, ◌≤◌, false, ltb, List, ◌++◌, length, take, drop, Some, refl, sym, subst, arith}
use Rattle.std.specs.Int.{Width, w16, w32, w64, byte_len, from_be_bytes, to_be_bytes}
use Rattle.std.proofs.lemmas.Bool.{ltb-false, le-ltb}
use Rattle.std.proofs.lemmas.List.{take_at, drop_at, take-append-drop, length-append, length-take}
use Rattle.std.proofs.lemmas.Nat.{be_bytes_2, be_bytes_4, be_bytes_8, from_be_bytes-to_be_bytes_2, from_be_bytes-to_be_bytes_4, from_be_bytes-to_be_bytes_8}
use Rattle.pm_store.specs.Format.{number, number16, number32, number64}
use Rattle.pm_store.proofs.FrontLemmas.{IsBytes, IsBytes-take, IsBytes-drop, guard_some, Takes, IsExact}

pub record IsWide (w : Width) (limit : ℕ) : Type 0 where
  pub len : (n : ℕ) → length (to_be_bytes w n) ≡ byte_len w
  pub back : (bytes : List ℕ) → length bytes ≡ byte_len w → IsBytes bytes → to_be_bytes w (from_be_bytes w bytes) ≡ bytes
  pub again : (n : ℕ) → n < limit → from_be_bytes w (to_be_bytes w n) ≡ n
  pub below : (bytes : List ℕ) → IsBytes bytes → from_be_bytes w bytes < limit

pub number_exact : (w : Width) (limit : ℕ) → IsWide w limit → IsExact (number w limit)
number_exact w limit wide = record { back = back; only = only }
  where
    back : (n : ℕ) (rest : List ℕ) → n < limit → (number w limit).read (to_be_bytes w n ++ rest) ≡ Some (n, rest)
    back n rest lt =
        let len = wide.len n in
        let long : ltb (length (to_be_bytes w n ++ rest)) (byte_len w) ≡ false = le-ltb _ _ (omega (
          arith,
          length-append (to_be_bytes w n) rest,
        )) in
        rw (
          long,
          take_at (to_be_bytes w n) rest (byte_len w) len,
          drop_at (to_be_bytes w n) rest (byte_len w) len,
          wide.again n lt,
        ) refl

    only : (bs : List ℕ) (n : ℕ) (rest : List ℕ) → IsBytes bs → (number w limit).read bs ≡ Some (n, rest)
        → Takes bs (to_be_bytes w n) rest × (n < limit)
    only bs n rest fits e =
        let g = guard_some (ltb (length bs) (byte_len w)) (from_be_bytes w (take (byte_len w) bs), drop (byte_len w) bs) (
          n,
          rest,
        ) e in
        let long : byte_len w ≤ length bs = ltb-false _ _ g.0 in
        let front : to_be_bytes w (from_be_bytes w (take (byte_len w) bs)) ≡ take (byte_len w) bs =
        wide.back (take (byte_len w) bs) (omega (arith, length-take (byte_len w) bs)) (IsBytes-take (byte_len w) bs fits) in
        subst (λ (p : ℕ × List ℕ). Takes bs (to_be_bytes w p.0) p.1 × (p.0 < limit)) g.1 (
          record { parts = rw front (sym (take-append-drop (byte_len w) bs)); rest_fits = IsBytes-drop (byte_len w) bs fits },
          wide.below (take (byte_len w) bs) (IsBytes-take (byte_len w) bs fits),
        )

pub number16_exact : IsExact number16
number16_exact = number_exact w16 (2 ^ 16) (record {
  len = λ n. refl;
  back = λ bytes len fits. be_bytes_2 bytes _ len fits refl;
  again = λ n lt. from_be_bytes-to_be_bytes_2 n lt;
  below = λ bytes fits. omega (arith, fits 0, fits 1);
})

pub number32_exact : IsExact number32
number32_exact = number_exact w32 (2 ^ 32) (record {
  len = λ n. refl;
  back = λ bytes len fits. be_bytes_4 bytes _ len fits refl;
  again = λ n lt. from_be_bytes-to_be_bytes_4 n lt;
  below = λ bytes fits. omega (arith, fits 0, fits 1, fits 2, fits 3);
})

pub number64_exact : IsExact number64
number64_exact = number_exact w64 (2 ^ 64) (record {
  len = λ n. refl;
  back = λ bytes len fits. be_bytes_8 bytes _ len fits refl;
  again = λ n lt. from_be_bytes-to_be_bytes_8 n lt;
  below = λ bytes fits. omega (arith, fits 0, fits 1, fits 2, fits 3, fits 4, fits 5, fits 6, fits 7);
})
