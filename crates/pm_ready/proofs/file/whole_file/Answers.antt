use Rattle.std.proofs.Common.{◌≡◌, ◌∙◌, ◌+◌, ◌++◌, true, false, refl, sym, ap, subst, arith}
use Rattle.pm_history.specs.Files.{Report}
use Rattle.pm_history.specs.declared.entry.Side.TheVariants.{Job}
use Rattle.pm_history.proofs.DistinctLemmas.{each-append}
use Rattle.pm_asked.specs.Asked.{terms_of}
use Rattle.pm_form.specs.Lists.{each_fits}
use Rattle.pm_file.specs.ReportForm.{result_form}
use Rattle.pm_file.specs.Permitted.{is_permitted}
use Rattle.pm_close.specs.declared.part.PartValues.{PartValues}
use Rattle.pm_ready.specs.Files.{file_of, said_by, IsFileOf}
use Rattle.pm_ready.specs.Shape as shape
use Rattle.pm_ready.specs.Whole.{AreInRange}
use Rattle.pm_ready.proofs.PermittedLemmas.{permitted, whole-after}
use Rattle.pm_ready.proofs.DueLemmas.{whole-same, report-same}
use Rattle.pm_ready.proofs.file.whole_file.Goals as goal

pub returns-then-not-is_whole : goal.returns-then-not-is_whole
returns-then-not-is_whole c =
    λ keeps whole.
    let u = shape.terms_of c.in-Some.shape in
    let of = rw c.in-Some.is at c.in_ok-shape.ensures in
    let is = whole-same (terms_of c.args.inventory.now Job c.args.job.now.body) u c.args.begin (c.args.earlier.now ++ c.args.parts.now) (of.1 keeps) whole in
    let bad : false ≡ true = c.if-not-is_whole.ensures.1 is in
    absurd cc

pub numbered-requires-clause-in_range : goal.numbered-requires-clause-in_range
numbered-requires-clause-in_range c =
    let is = c.if-not-is_whole.ensures.0 refl in
    let after = whole-after (shape.terms_of c.in-Some.shape) c.args.begin _ is in
    let last = is.end in
    omega (arith, after, last)

pub numbered-requires-clause-whole : goal.numbered-requires-clause-whole
numbered-requires-clause-whole c =
    let is = c.if-not-is_whole.ensures.0 refl in
    whole-after (shape.terms_of c.in-Some.shape) c.args.begin _ is ∙ ap (λ n. c.args.begin + n) c.in-Some.shape.product

pub written-requires : goal.written-requires
written-requires c =
    let inventory = c.args.inventory.now in
    let u = shape.terms_of c.in-Some.shape in
    let parts = c.args.earlier.now ++ c.args.parts.now in
    let is = c.if-not-is_whole.ensures.0 refl in
    let fit : AreInRange parts =
    each-append (λ (part : PartValues). each_fits result_form.fits part.values.items ≡ true) c.args.earlier.now c.args.parts.now c.read_values.ensures
    c.read_values-2.ensures in
    let report = c.in_ok-report.ensures in
    let of = rw c.in-Some.is at c.in_ok-shape.ensures in
    subst (λ (r : Report). is_permitted (said_by inventory r) ≡ true) (sym report)
    (permitted inventory c.args.job.now.id u c.args.begin parts of.0 is fit)

pub returns : goal.returns
returns c =
    λ keeps whole.
    let inventory = c.args.inventory.now in
    let parts = c.args.earlier.now ++ c.args.parts.now in
    let t = terms_of inventory Job c.args.job.now.body in
    let u = shape.terms_of c.in-Some.shape in
    let of = rw c.in-Some.is at c.in_ok-shape.ensures in
    let is = c.in_ok-report.ensures ∙ report-same c.args.job.now.id u t c.args.begin parts (of.1 keeps) in
    (subst (λ (r : Report). IsFileOf inventory r (file_of c.in_ok-written.field-0)) is c.in_ok-written.ensures, tt)
