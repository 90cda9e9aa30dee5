-- What the body of a subscription says (this project's own).
use Rattle.std.specs.Prelude.{ℕ, ◌&&◌, ◌||◌, ◌==◌, Bool, List, length, codes, nat_le, slice_index}
use Rattle.std.specs.List.{list_all}
use Rattle.std.specs.Char.{is_ascii_alphanumeric}
use Rattle.pm_form.specs.Form.{Form, tested, mapped}
use Rattle.pm_form.specs.Values.{text, whole}
use Rattle.pm_form.specs.Objects.{field, last, object_of}
use Rattle.pm_form.specs.declared.refusal.Refusal.TheVariants.{WrongNumber}

-- Where the notices of a consumer go.
pub record Consumer : Type 0 where
  pub path : List ℕ
  pub port : ℕ

-- An ASCII letter or digit, `/`, `.`, `_` or `-`.
abbrev pub is_path_char : ℕ → Bool
is_path_char c = is_ascii_alphanumeric c || (c == 47 || (c == 46 || (c == 95 || c == 45)))

-- A path: 1 to 128 of these, the first `/`.
abbrev pub consumer_path : List ℕ → Bool
consumer_path s = nat_le 1 (length s) && nat_le (length s) 128 && list_all is_path_char s && slice_index s 0 == 47

-- Notices may go to a path at a port.
abbrev pub is_consumer : ℕ → List ℕ → Bool
is_consumer port path = nat_le 1 port && consumer_path path

-- A port: 1 to 65535.
abbrev pub port_form : Form ℕ
port_form = tested WrongNumber (λ n. nat_le 1 n) (whole 65535)

unfoldable pub consumer_form : Form Consumer
consumer_form =
    mapped (λ p. record { path = p.0; port = p.1 }) (λ c. (c.path, c.port))
    (object_of (field (codes "consumerPath") (text consumer_path)
    (last (codes "consumerPort") port_form)))
