use Rattle.std.proofs.Common.{◌≡◌, ◌≤◌, pos, sym, ◌∙◌, arith}
use Rattle.jiff_core.proofs.SignedLemmas.{signed_arith}
use Rattle.pm_name.specs.Calendar.{day_number}
use Rattle.pm_name.proofs.DayLemmas.{made-agrees, cast32}
use Rattle.pm_name.specs.CalendarDate.{date_of}
use Rattle.pm_name.proofs.date.CalendarDate.day_number.Goals as goal

pub overflow_cast-result : goal.overflow_cast-result
overflow_cast-result c =
    let ymd = c.in-Ok.ensures.value in
    let made = made-agrees c.in-Ok.date c.args.self.year c.args.self.month c.args.self.day ymd.0 ymd.1 ymd.2 c.if-self-lt1970.false c.requires.year_in c.requires.month_in c.requires.day_in in
    let is : c.to_unix_epoch_day.result ≡ pos (day_number (date_of c.args.self)) = c.to_unix_epoch_day.ensures.value ∙ made.1 in
    (cast32 c.to_unix_epoch_day.result _ is (omega (arith, signed_arith, is, c.to_unix_epoch_day.ensures.bound.1))).0

pub returns-in-Ok : goal.returns-in-Ok
returns-in-Ok c =
    let ymd = c.in-Ok.ensures.value in
    let made = made-agrees c.in-Ok.date c.args.self.year c.args.self.month c.args.self.day ymd.0 ymd.1 ymd.2 c.if-self-lt1970.false c.requires.year_in c.requires.month_in c.requires.day_in in
    let is : c.to_unix_epoch_day.result ≡ pos (day_number (date_of c.args.self)) = c.to_unix_epoch_day.ensures.value ∙ made.1 in
    let most : day_number (date_of c.args.self) ≤ 2932896 = omega (arith, signed_arith, is, c.to_unix_epoch_day.ensures.bound.1) in
    let back = (cast32 c.to_unix_epoch_day.result _ is most).1 in
    (made.0, sym back, rw back most)
