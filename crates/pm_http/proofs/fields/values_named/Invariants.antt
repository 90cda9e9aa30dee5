use Rattle.std.proofs.Common.{ℕ, map, take}
use Rattle.std.specs.List.{All}
use Rattle.httparse.specs.Spans.{IsHeaderWithin, header_bytes}
use Rattle.pm_http.specs.Head.{values_of}
use Rattle.pm_http.specs.Fields.{IsValues}
use Rattle.pm_http.proofs.fields.values_named.Given as goal

abbrev pub invariant-loop-field : goal.invariant-loop-field
invariant-loop-field l = (limit : ℕ) → All (IsHeaderWithin limit) l.fields → IsValues limit l.buf (values_of l.name (map (header_bytes l.buf) (take l.field-index l.fields))) l.found
