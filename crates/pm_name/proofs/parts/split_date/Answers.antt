use Rattle.pm_name.proofs.PartLemmas.{no_century, no_year, no_month, no_day}
use Rattle.pm_name.proofs.parts.split_date.Goals as goal

pub returns-in_err-century : goal.returns-in_err-century
returns-in_err-century c = rw c.from_residual.ensures (no_century _ c.in_err-century.ensures)

pub returns-in_err-year : goal.returns-in_err-year
returns-in_err-year c =
    rw c.from_residual-in_err-year.ensures (no_year c.args.bytes.now _ _ c.in_ok-century.ensures.0 c.in_ok-century.ensures.1 c.in_err-year.ensures)

pub returns-in_err-month : goal.returns-in_err-month
returns-in_err-month c =
    rw c.from_residual-in_err-month.ensures (no_month c.args.bytes.now _ _ _ _ c.in_ok-century.ensures.0 c.in_ok-century.ensures.1 c.in_ok-year.ensures.0 c.in_ok-year.ensures.1 c.in_err-month.ensures)

pub returns-in_err-day : goal.returns-in_err-day
returns-in_err-day c =
    rw c.from_residual-in_err-day.ensures (no_day c.args.bytes.now _ _ _ _ _ _ c.in_ok-century.ensures.0 c.in_ok-century.ensures.1 c.in_ok-year.ensures.0 c.in_ok-year.ensures.1 c.in_ok-month.ensures.0 c.in_ok-month.ensures.1 c.in_err-day.ensures)
