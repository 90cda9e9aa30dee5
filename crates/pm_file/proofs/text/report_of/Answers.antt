use Rattle.std.proofs.Common.{◌≡◌, true, sym, subst}
use Rattle.pm_file.specs.Content.{ReportContent}
use Rattle.pm_file.specs.Permitted.{is_permitted}
use Rattle.pm_file.proofs.BodyLemmas.{body_same}
use Rattle.pm_file.proofs.text.report_of.Goals as goal

pub invariant_of-result : goal.invariant_of-result
invariant_of-result c =
    let P : ReportContent → Type 0 = λ r. is_permitted r ≡ true in
    record { permitted = subst P (sym (body_same c.args.body c.in-Ok.parts.items c.requires c.in-Ok.ensures)) c.requires }

pub returns-in-Ok : goal.returns-in-Ok
returns-in-Ok c = body_same c.args.body c.in-Ok.parts.items c.requires c.in-Ok.ensures
