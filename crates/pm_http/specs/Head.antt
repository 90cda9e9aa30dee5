-- What the head of a request says of its body and of its connection (RFC 9112, sections 6 and 9; the codes and the limits
-- are this project's own).
use Rattle.std.specs.Prelude.{◌≤◌, ◌==◌, ◌||◌, ◌&&◌, ℕ, Bool, List, [], ◌∷◌, map, length, nat_lt, nat_le, codes, bytes_eq, if◌then◌else◌, Option, Some, None}
use Rattle.std.specs.List.{filter, list_any}
use Rattle.std.specs.Str.{str_eq_ignore_ascii_case}
use Rattle.httparse.specs.Grammar.{RequestHead, trim_ows}
use Rattle.httparse.specs.Spans.{name_and_value}
use Rattle.pm_base.specs.Number.{is_number, number_of}
use Rattle.pm_base.specs.Pieces.{pieces_of}
use Rattle.pm_base.specs.declared.code.Code.TheVariants.{H2, H3, H4, H7}
use Rattle.pm_http.specs.declared.size.BodySize.{BodySize}
use Rattle.pm_http.specs.declared.size.BodySize.TheVariants.{Refused, Bytes}

-- The names and the values of a head's fields, in order. A value is without the spaces and tabs around it.
abbrev pub fields_of : RequestHead → List (List ℕ × List ℕ)
fields_of head = map name_and_value head.fields

-- A field has this name, without regard to ASCII case.
abbrev pub is_named : List ℕ → List ℕ × List ℕ → Bool
is_named name field = str_eq_ignore_ascii_case field.0 name

-- The values of the fields of this name, in order.
abbrev pub values_of : List ℕ → List (List ℕ × List ℕ) → List (List ℕ)
values_of name fields = map (λ f. f.1) (filter (is_named name) fields)

-- A request of this method has to tell the length of its body.
abbrev pub needs_length : List ℕ → Bool
needs_length method =
    bytes_eq method (codes "PUT") || (bytes_eq method (codes "PATCH") || bytes_eq method (codes "POST"))

-- How many bytes a body has at the most.
abbrev pub MOST_BODY : ℕ
MOST_BODY = 16777216

-- The length that digits tell, if it is in the limit.
abbrev pub size_within : ℕ → BodySize
size_within size = if nat_le size MOST_BODY then Bytes size else Refused H3

-- The length by the values of the Content-Length fields: of one, 1 to 12 digits; of none, nothing, unless it is needed.
abbrev pub size_by : Bool → List (List ℕ) → BodySize
size_by needed [] = if needed then Refused H7 else Bytes 0
size_by needed (value ∷ []) = if is_number 12 value then size_within (number_of value) else Refused H7
size_by needed (first ∷ second ∷ more) = Refused H7

-- A length that is told is in the limit.
abbrev pub IsWithinLimit : BodySize → Type 0
IsWithinLimit (Refused code) = Unit {0}
IsWithinLimit (Bytes size) = size ≤ MOST_BODY

-- The length of the body by the method and the fields, or the first rule that they break.
abbrev pub size_of : List ℕ → List (List ℕ × List ℕ) → BodySize
size_of method fields =
    if nat_lt 0 (length (values_of (codes "transfer-encoding") fields)) then Refused H4
    else size_by (needs_length method) (values_of (codes "content-length") fields)

-- The length of the body of a request with this head, or why it is refused: it has over 64 fields, or as above.
abbrev pub body_size : RequestHead → BodySize
body_size head = if nat_lt 64 (length head.fields) then Refused H2 else size_of head.method (fields_of head)

-- The first of the values, if there is one.
abbrev pub first_of : List (List ℕ) → Option (List ℕ)
first_of [] = None
first_of (value ∷ more) = Some value

-- The value of the first Pm-Moment field.
abbrev pub moment_of : List (List ℕ × List ℕ) → Option (List ℕ)
moment_of fields = first_of (values_of (codes "pm-moment") fields)

-- A word is `close`, without regard to ASCII case or to the spaces and tabs around it.
abbrev pub is_close : List ℕ → Bool
is_close word = str_eq_ignore_ascii_case (trim_ows word) (codes "close")

-- Among the words between commas, one is `close`.
abbrev pub has_close : List ℕ → Bool
has_close value = list_any is_close (pieces_of 44 value)

-- A field is a Connection field with the word `close`.
abbrev pub says_close : List ℕ × List ℕ → Bool
says_close field = is_named (codes "connection") field && has_close field.1

-- The connection closes after the reply: by the minor number of the version, which is 0 of HTTP/1.0, or by a field.
abbrev pub closes : ℕ → List (List ℕ × List ℕ) → Bool
closes minor fields = minor == 0 || list_any says_close fields
