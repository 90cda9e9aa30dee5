-- Formats of bytes: how a value is written, which values have bytes, and what is read from the front of bytes (this project's own).
use Rattle.std.specs.Prelude.{ℕ, zero, suc, ◌<◌, ◌≡◌, ◌==◌, ◌^◌, Bool, true, false, List, [], ◌∷◌, ◌++◌, length, take, drop, Option, Some, None, nat_lt, if◌then◌else◌}
use Rattle.std.specs.Int.{Width, w16, w32, w64, byte_len, to_be_bytes, from_be_bytes}

-- What is read, and after it the next.
infixl 10 ◌>>=◌
abbrev pub ◌>>=◌ : {A B : Type 0} → Option A → (A → Option B) → Option B
None >>= f = None
(Some x) >>= f = f x

-- The bytes of a value; the value at the front of bytes, if one is there, with the bytes after it; and which values have bytes.
pub record Format (A : Type 0) : Type 1 where
  pub bytes : A → List ℕ
  pub read : List ℕ → Option (A × List ℕ)
  pub Fits : A → Type 0

-- A number in a byte.
abbrev pub first : List ℕ → Option (ℕ × List ℕ)
first [] = None
first (b ∷ bs) = Some (b, bs)

abbrev pub byte : Format ℕ
byte = record { bytes = λ b. b ∷ []; read = first; Fits = λ b. b < 256 }

-- A number below a limit in several bytes, the greatest first.
abbrev pub number : Width → ℕ → Format ℕ
number w limit =
    record {
      bytes = to_be_bytes w;
      read = λ bs. if nat_lt (length bs) (byte_len w) then None else Some (
        from_be_bytes w (take (byte_len w) bs),
        drop (byte_len w) bs,
      );
      Fits = λ n. n < limit;
    }

abbrev pub number16 : Format ℕ
number16 = number w16 (2 ^ 16)

abbrev pub number32 : Format ℕ
number32 = number w32 (2 ^ 32)

abbrev pub number64 : Format ℕ
number64 = number w64 (2 ^ 64)

-- A byte of 0 for false, and of 1 for true.
abbrev pub first_flag : List ℕ → Option (Bool × List ℕ)
first_flag [] = None
first_flag (zero ∷ bs) = Some (false, bs)
first_flag (suc zero ∷ bs) = Some (true, bs)
first_flag (suc (suc b) ∷ bs) = None

abbrev pub flag : Format Bool
flag = record { bytes = λ b. (if b then 1 else 0) ∷ []; read = first_flag; Fits = λ b. Unit {0} }

-- So many bytes, after their number.
abbrev pub counted : Format ℕ → Format (List ℕ)
counted count =
    record {
      bytes = λ text. count.bytes (length text) ++ text;
      read = λ bs. count.read bs >>= λ n. if nat_lt (length n.1) n.0 then None else Some (take n.0 n.1, drop n.0 n.1);
      Fits = λ text. count.Fits (length text);
    }

-- Up to 255 bytes, and bytes up to a length below 2 ^ 32.
abbrev pub short : Format (List ℕ)
short = counted byte

abbrev pub long : Format (List ℕ)
long = counted number32

-- A value, and after it another.
abbrev pub both : {A B : Type 0} → Format A → Format B → Format (A × B)
both f g =
    record {
      bytes = λ x. f.bytes x.0 ++ g.bytes x.1;
      read = λ bs. f.read bs >>= λ a. g.read a.1 >>= λ b. Some ((a.0, b.0), b.1);
      Fits = λ x. f.Fits x.0 × g.Fits x.1;
    }

-- Those values that pass a test.
abbrev pub tested : {A : Type 0} → (A → Bool) → Format A → Format A
tested test f =
    record {
      bytes = f.bytes;
      read = λ bs. f.read bs >>= λ a. if test a.0 then Some a else None;
      Fits = λ x. f.Fits x × (test x ≡ true);
    }

-- What all of the bytes are.
abbrev pub whole : {A : Type 0} → Format A → List ℕ → Option A
whole f bs = f.read bs >>= λ a. if length a.1 == 0 then Some a.0 else None
