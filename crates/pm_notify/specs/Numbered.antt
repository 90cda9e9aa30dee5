-- Notices that are numbered one after the other.
use Rattle.std.specs.Prelude.{ℕ, ◌+◌, ◌<◌, ◌≡◌, List, length, slice_index_or}
use Rattle.pm_notice.specs.declared.notice.Notice.{Notice}

-- Their numbers are this one and those after it.
abbrev pub AreNumbered : ℕ → List Notice → Type 0
AreNumbered first notices = (k : ℕ) (d : Notice) → k < length notices → (slice_index_or notices k d).number ≡ first + k
