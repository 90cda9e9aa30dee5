use Rattle.std.proofs.Common.{sym, ◌∙◌}
use Rattle.httparse.specs.Spans.{header_bytes}
use Rattle.pm_http.specs.Head.{says_close}
use Rattle.pm_http.proofs.FieldLemmas.{list_any-map_at}
use Rattle.pm_http.proofs.connection.some_says_close.Goals as goal

pub returns-then-field_says_close : goal.returns-then-field_says_close
returns-then-field_says_close c =
    sym (list_any-map_at says_close (header_bytes c.args.buf.now) c.args.fields.now c.loop-field.field-index _ c.loop-field-test.true (sym c.field_says_close.ensures ∙ c.if-field_says_close.true))
