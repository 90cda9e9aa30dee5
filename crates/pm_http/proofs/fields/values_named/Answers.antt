use Rattle.std.proofs.lemmas.List.Elements.{All-get_or}
use Rattle.httparse.specs.Spans.{IsHeaderWithin, header_bytes}
use Rattle.pm_http.proofs.FieldLemmas.{values_of-step}
use Rattle.pm_http.proofs.fields.values_named.Goals as goal

pub loop-field-preserved : goal.loop-field-preserved
loop-field-preserved c =
    λ limit all.
    values_of-step (header_bytes c.args.buf.now) c.args.name.now c.args.fields.now c.loop-field.field-index _ limit c.args.buf.now c.with_field-found.result c.loop-field-test.true
    (c.with_field-found.ensures limit _ (All-get_or (IsHeaderWithin limit) c.args.fields.now c.loop-field.field-index _ c.loop-field-test.true all) (c.loop-field.invariant limit all))
