-- The target of a request: a path, and a query after the first `?` (RFC 9112, section 3.2.1).
use Rattle.std.specs.Prelude.{◌==◌, ℕ, List}
use Rattle.std.specs.List.{before_first, after_first}

-- The bytes before the first `?`, or all of them. They are not percent-decoded.
abbrev pub path_of : List ℕ → List ℕ
path_of target = before_first (λ b. b == 63) target

-- The bytes after the first `?`, or none.
abbrev pub query_of : List ℕ → List ℕ
query_of target = after_first (λ b. b == 63) target
