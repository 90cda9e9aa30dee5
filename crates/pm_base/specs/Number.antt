-- Numbers as they stand in lines, heads and words: decimal digits, leading zeros among them (this project's own).
use Rattle.std.specs.Prelude.{◌+◌, ◌-◌, ◌*◌, ◌&&◌, ℕ, Bool, List, length, nat_le, fold}
use Rattle.std.specs.List.{list_all}
use Rattle.std.specs.Char.{is_ascii_digit}
use Rattle.pm_base.specs.declared.moment.TheConstants.{LAST_MOMENT}

-- Whether the bytes are 1 to so many digits.
abbrev pub is_number : ℕ → List ℕ → Bool
is_number most bytes = (nat_le 1 (length bytes) && nat_le (length bytes) most) && list_all is_ascii_digit bytes

-- A number with one digit more behind it.
abbrev pub with_digit : ℕ → ℕ → ℕ
with_digit n digit = 10 * n + (digit - 48)

-- The number that digits stand for, the greatest place first.
abbrev pub number_of : List ℕ → ℕ
number_of digits = fold with_digit 0 digits

-- Whether the bytes are a moment of 1 to 12 digits.
abbrev pub is_moment : List ℕ → Bool
is_moment bytes = is_number 12 bytes && nat_le (number_of bytes) LAST_MOMENT
