use Rattle.std.proofs.Common.{◌≡◌, map, take, false}
use Rattle.std.specs.List.{list_any}
use Rattle.httparse.specs.Spans.{header_bytes}
use Rattle.pm_http.specs.Head.{says_close}
use Rattle.pm_http.proofs.connection.some_says_close.Given as goal

abbrev pub invariant-loop-field : goal.invariant-loop-field
invariant-loop-field l = list_any says_close (map (header_bytes l.buf) (take l.field-index l.fields)) ≡ false
