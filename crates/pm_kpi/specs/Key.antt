-- What rows are added under: a job, a part's moments, an object, and the number of a ratio. Keys have an order.
use Rattle.std.specs.Prelude.{ℕ, ◌&&◌, ◌==◌, Bool, List, bytes_eq}
use Rattle.std.specs.Cmp.Lexicographic.{slice_cmp}
use Rattle.std.specs.Ordering.{nat_cmp, ordering_then}
use Rattle.std.specs.declared.cmp.Ordering.{Ordering}
use Rattle.pm_kpi.specs.declared.key.Key.{Key}

pub record KeyContent : Type 0 where
  pub job : List ℕ
  pub begin : ℕ
  pub end : ℕ
  pub object : List ℕ
  pub ratio : ℕ

abbrev pub key_content : Key → KeyContent
key_content k = record { job = k.job.items; begin = k.begin; end = k.end; object = k.object.items; ratio = k.ratio }

-- The two are the same key.
abbrev pub key_eq : KeyContent → KeyContent → Bool
key_eq a b =
    bytes_eq a.job b.job && (a.begin == b.begin && (a.end == b.end && (bytes_eq a.object b.object && a.ratio == b.ratio)))

-- By job, in byte order, then by begin and end, then by object in byte order, then by the ratio's number.
abbrev pub key_cmp : KeyContent → KeyContent → Ordering
key_cmp a b =
    ordering_then (slice_cmp nat_cmp a.job b.job)
    (ordering_then (nat_cmp a.begin b.begin)
    (ordering_then (nat_cmp a.end b.end)
    (ordering_then (slice_cmp nat_cmp a.object b.object) (nat_cmp a.ratio b.ratio))))
