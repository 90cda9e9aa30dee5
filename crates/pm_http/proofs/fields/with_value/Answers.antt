use Rattle.pm_http.proofs.FieldLemmas.{IsValues-none, IsValues-one, IsValues-more}
use Rattle.pm_http.proofs.fields.with_value.Goals as goal

pub returns-in-None : goal.returns-in-None
returns-in-None c = λ limit buf values is within. IsValues-none limit buf values c.args.value (rw c.in-None.is at is) within

pub returns-in-One : goal.returns-in-One
returns-in-One c = λ limit buf values is within. IsValues-one limit buf values c.in-One.first c.args.value (rw c.in-One.is at is)

pub returns-in-More : goal.returns-in-More
returns-in-More c = λ limit buf values is within. IsValues-more limit buf values c.in-More.first c.args.value (rw c.in-More.is at is)
