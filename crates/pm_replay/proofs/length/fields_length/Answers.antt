use Rattle.std.proofs.Common.{◌≡◌, ◌+◌, ◌*◌, length, sym, ap, subst, ◌∙◌, arith}
use Rattle.pm_store.specs.declared.item.Item1.{Item1}
use Rattle.pm_store.specs.Item.{IsItem, item_bytes}
use Rattle.pm_replay.proofs.LengthLemmas.{length-booked}
use Rattle.pm_replay.proofs.length.fields_length.Goals as goal

pub returns-in-Booked-clause-value : goal.returns-in-Booked-clause-value
returns-in-Booked-clause-value c = λ is.
    let own = subst IsItem c.in-Booked.is is in
    let exact = c.booked_length.ensures own.fields.1.0.0.0 own.fields.1.1.0 in
    let long = length-booked c.in-Booked.moment c.in-Booked.tick c.in-Booked.cells c.in-Booked.cursors in
    let at = ap (λ (i : Item1). length (item_bytes i)) c.in-Booked.is in
    let sized : c.booked_length.result + 9 ≡ 20 + 22 * length c.in-Booked.cells + 8 * length c.in-Booked.cursors = omega (arith, exact) in
    sized ∙ (sym long ∙ sym at)

pub returns-in-Booked-clause-most : goal.returns-in-Booked-clause-most
returns-in-Booked-clause-most c = λ is.
    let own = subst IsItem c.in-Booked.is is in
    let few_cells = own.fields.1.0.0.0 in
    let few_cursors = own.fields.1.1.0 in
    let exact = c.booked_length.ensures few_cells few_cursors in
    omega (arith, exact, few_cells, few_cursors)
