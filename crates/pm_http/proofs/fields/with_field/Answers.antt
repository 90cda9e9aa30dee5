use Rattle.std.proofs.Common.{sym, ◌∙◌}
use Rattle.httparse.specs.Spans.{header_bytes}
use Rattle.pm_http.proofs.FieldLemmas.{values_of-one}
use Rattle.pm_http.proofs.fields.with_field.Goals as goal

pub returns-then-is_field : goal.returns-then-is_field
returns-then-is_field c =
    let one = values_of-one c.args.name.now (header_bytes c.args.buf.now c.args.field) (sym c.is_field.ensures ∙ c.if-is_field.true) in
    λ limit values within is. rw one (c.with_value.ensures limit c.args.buf.now values is within.1)
