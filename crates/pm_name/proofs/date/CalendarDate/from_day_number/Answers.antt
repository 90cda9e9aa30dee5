use Rattle.std.proofs.Common.{◌≡◌, ◌≤◌, ℕ, pos, w64, to_z, sym, ◌∙◌, arith}
use Rattle.std.proofs.lemmas.Int.{ints}
use Rattle.jiff_core.specs.Date.{epoch_day}
use Rattle.pm_name.proofs.DayLemmas.{date-agrees, year-from, natural, cast16}
use Rattle.pm_name.proofs.date.CalendarDate.from_day_number.Goals as goal

number-small : (n : ℕ) → n ≤ 2932896 → to_z w64 n ≡ pos n
number-small n le = omega (arith, ints)

pub overflow_cast-result : goal.overflow_cast-result
overflow_cast-result c =
    let is : epoch_day c.in-Ok.date ≡ pos c.args.number = c.in-Ok.ensures.value ∙ number-small c.args.number c.requires in
    let year = natural c.in-Ok.date.year (year-from c.in-Ok.date c.args.number is) c.in-Ok.date.year_in.1 in
    (cast16 c.in-Ok.date.year _ year.0 year.2).0

pub returns-clause-date : goal.returns-clause-date
returns-clause-date c =
    let is : epoch_day c.in-Ok.date ≡ pos c.args.number = c.in-Ok.ensures.value ∙ number-small c.args.number c.requires in
    let year = natural c.in-Ok.date.year (year-from c.in-Ok.date c.args.number is) c.in-Ok.date.year_in.1 in
    rw (cast16 c.in-Ok.date.year _ year.0 year.2).1 (date-agrees c.in-Ok.date _ year.0 year.1).0

pub returns-clause-number : goal.returns-clause-number
returns-clause-number c =
    let is : epoch_day c.in-Ok.date ≡ pos c.args.number = c.in-Ok.ensures.value ∙ number-small c.args.number c.requires in
    let year = natural c.in-Ok.date.year (year-from c.in-Ok.date c.args.number is) c.in-Ok.date.year_in.1 in
    let same : pos _ ≡ pos c.args.number = sym (date-agrees c.in-Ok.date _ year.0 year.1).1 ∙ is in
    rw (cast16 c.in-Ok.date.year _ year.0 year.2).1 cc
